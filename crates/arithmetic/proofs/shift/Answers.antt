-- `arithmetic::shift` meets its contract, by the sign of the count.
use Rattle.std.proofs.Common.{◌^◌, pos, neg_ℤ, ◌-ℤ◌, ◌*ℤ◌, ap, ◌∙◌, arith}
use lib.IntN.{nat_abs, +ℤ_idl}
use Rattle.std.specs.Int.Signed.{shr_z}
use Rattle.model.specs.Arithmetic.{number}
use Rattle.arithmetic.proofs.Machine.{read, literal, gives}
use Rattle.arithmetic.proofs.Magnitude.{fits, difference_mag}
use Rattle.arithmetic.proofs.Shifts.{shifted_right, shifted_left}
use Rattle.arithmetic.proofs.shift.Goals as goal

pub returns-then-b-lt0 : goal.returns-then-b-lt0
returns-then-b-lt0 c =
    let b = c.args.b in
    let h = difference_mag (pos 0) b in
    let e = gives ◌-ℤ◌ (literal (pos 0)) (read c.ranges.b) (fits 65536 (omega arith) (omega arith)) ∙ +ℤ_idl (neg_ℤ b) in
    c.right.ensures
    ∙ ap number
    ((λ i. shr_z (read c.ranges.a i) (2 ^ nat_abs (e i)))
    ∙ shifted_right c.args.a b (rw (read c.ranges.b) at c.if-b-lt0.true))

pub returns-else-b-lt0 : goal.returns-else-b-lt0
returns-else-b-lt0 c =
    c.left.ensures
    ∙ ap number
    ((λ i. read c.ranges.a i *ℤ pos (2 ^ nat_abs (read c.ranges.b i)))
    ∙ shifted_left c.args.a c.args.b (rw (read c.ranges.b) at c.if-b-lt0.false))
