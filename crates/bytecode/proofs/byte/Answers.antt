-- `byte` is `byte_at`, past the end too.
use lib.ListN.{get_or-eq_default}
use Rattle.bytecode.specs.Code.{byte_at}
use Rattle.bytecode.proofs.Choice.{if_same}
use Rattle.bytecode.proofs.byte.Goals as goal

pub returns-else-at-words : goal.returns-else-at-words
unfolding byte_at
returns-else-at-words c = let h = c.if-at-words.false in simp (get_or-eq_default, if_same)
