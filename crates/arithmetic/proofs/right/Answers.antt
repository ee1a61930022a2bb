-- `arithmetic::right` meets its contract.
use Rattle.std.proofs.Common.{◌^◌, min, ap, ◌∙◌}
use Rattle.std.specs.Int.Signed.{shr_z}
use Rattle.model.specs.Arithmetic.{number}
use Rattle.arithmetic.proofs.Machine.{read, reads}
use Rattle.arithmetic.proofs.Shifts.{right_fits, right_capped}
use Rattle.arithmetic.proofs.right.Goals as goal

pub returns : goal.returns
returns c =
    c.number.ensures
    ∙ ap number
    (reads (λ i. shr_z (read c.ranges.a i) (2 ^ (c.min.ensures i))) (right_fits c.args.a (2 ^ min c.args.n 15) c.requires)
    ∙ right_capped c.args.a c.args.n c.requires)
