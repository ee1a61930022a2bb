use mathlib.Core.Path.{◌∙◌}
use native.Mathlib.Omega.{arith}
use Rattle.code.proofs.LinkFine.{method_entry, literal_sent}
use Rattle.code.proofs.selector_fine.Goals as goal

pub literal_word-s-requires : goal.literal_word-s-requires
literal_word-s-requires c = let p = c.requires in (method_entry p, p.ready.laid.words, omega arith)

pub returns : goal.returns
returns c = c.send_fine.ensures ∙ literal_sent _ _ _ _ c.literal_word-s.ensures
