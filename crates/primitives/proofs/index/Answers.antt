use Rattle.std.proofs.Common.{◌∙◌, arith}
use Rattle.std.proofs.lemmas.Grind.{common_steps}
use Rattle.primitives.proofs.Indexing.{natural_some, natural_none, no_natural, an_index, no_index}
use Rattle.primitives.proofs.index.Goals as goal

pub returns-in_err-i : goal.returns-in_err-i
returns-in_err-i c = c.from_residual.ensures ∙ no_natural c.args.count c.args.x (natural_none _ _ c.natural.ensures c.in_err-i.was)

pub returns-then-contains : goal.returns-then-contains
returns-then-contains c =
    an_index c.args.count c.args.x (natural_some _ _ c.natural.ensures c.in_ok-i.was) (grind (arith, common_steps)) (grind (arith, common_steps))

pub returns-else-contains : goal.returns-else-contains
returns-else-contains c =
    no_index c.args.count c.args.x (natural_some _ _ c.natural.ensures c.in_ok-i.was) (λ l. grind (arith, common_steps))
