-- `arithmetic::floor_quotient` meets its contract, by the signs of its arguments.
use Rattle.std.proofs.Common.{◌≡◌, Bool, not, ℤ, pos, ◌+ℤ◌, ◌-ℤ◌, ap, ◌∙◌}
use Rattle.std.specs.Int.Signed.{quot_z, lt_z}
use mir.Syntax.{w32}
use mir.Val.{SFits, to_z, of_z}
use Rattle.arithmetic.proofs.Machine.{read, literal, gives}
use Rattle.arithmetic.proofs.Magnitude.{difference_fits}
use Rattle.arithmetic.proofs.Quotients.{down_alike, other_sign, down_from_negative, down_by_negative, plain_fits, next_fits, next_quotient_fits, next_less_fits, apart_less_fits, apart_quotient_fits}
use Rattle.arithmetic.proofs.floor_quotient.Goals as goal

-- a test of a parameter's sign
sign : {z : ℤ} {t : Bool} → SFits w32 z → lt_z (to_z w32 (of_z w32 z)) (pos 0) ≡ t → lt_z z (pos 0) ≡ t
sign f e = rw (read f) at e

pub returns-then-a-b : goal.returns-then-a-b
returns-then-a-b c =
    let f = plain_fits c.args.a c.args.b c.requires.0 c.requires.1.0 in
    gives quot_z (read c.ranges.a) (read c.ranges.b) f ∙ down_alike c.args.a c.args.b (rw (read c.ranges.a, read c.ranges.b) at c.if-a-b.true)

pub returns-then-a-lt0 : goal.returns-then-a-lt0
returns-then-a-lt0 c =
    let a = c.args.a in
    let b = c.args.b in
    let next = gives ◌+ℤ◌ (read c.ranges.a) (literal (pos 1)) (next_fits a b c.requires.0 c.requires.1.0) in
    let next-quotient = gives quot_z next (read c.ranges.b) (next_quotient_fits a b c.requires.0 c.requires.1.0) in
    let negative = sign c.ranges.a c.if-a-lt0.true in
    gives ◌-ℤ◌ next-quotient (literal (pos 1)) (next_less_fits a b c.requires.0 c.requires.1.0)
    ∙ down_from_negative a b negative (other_sign _ _ (rw (read c.ranges.a, read c.ranges.b) at c.if-a-b.false) ∙ ap not negative)

pub returns-else-a-lt0 : goal.returns-else-a-lt0
returns-else-a-lt0 c =
    let a = c.args.a in
    let b = c.args.b in
    let apart = gives ◌-ℤ◌ (read c.ranges.a) (read c.ranges.b) (difference_fits a b c.requires.0 c.requires.1.0) in
    let apart-less = gives ◌-ℤ◌ apart (literal (pos 1)) (apart_less_fits a b c.requires.0 c.requires.1.0) in
    let natural = sign c.ranges.a c.if-a-lt0.false in
    gives quot_z apart-less (read c.ranges.b) (apart_quotient_fits a b c.requires.0 c.requires.1.0)
    ∙ down_by_negative a b natural (other_sign _ _ (rw (read c.ranges.a, read c.ranges.b) at c.if-a-b.false) ∙ ap not natural)
