-- `arithmetic::divide` meets its contract: all four fail on zero, and each arm is one line of the definition.
use Rattle.std.proofs.Common.{◌≡◌, ◌≤◌, ℤ, sym, ap, ap₂, ◌∙◌, ◌-ℤ◌, ◌*ℤ◌, arith}
use Rattle.std.specs.Int.Signed.{mag, quot_z}
use mir.Syntax.{w32}
use mir.Val.{SFits, to_z, of_z}
use Rattle.bytecode.specs.Test.{when◌then◌else◌}
use Rattle.model.specs.Limits.{largest_integer}
use Rattle.model.specs.Arithmetic.{number, exact_quotient, floor_quotient, floor_remainder, on_integers}
use Rattle.arithmetic.proofs.Machine.{read, reads, asks, gives, bits_zero, not_bits_zero}
use Rattle.arithmetic.proofs.Quotients.{divided_by_zero, by_other, last_quotient, plain_fits, down_fits, multiple_fits, down_remainder_fits}
use Rattle.arithmetic.proofs.divide.Goals as goal

-- what the machine reads of the quotient rounded down, and of its product with the divisor
module _ {a b q : ℤ} (f : SFits w32 a) (g : SFits w32 b) (h : mag a ≤ largest_integer) (k : mag b ≤ largest_integer)
    (e : q ≡ floor_quotient (to_z w32 (of_z w32 a)) (to_z w32 (of_z w32 b))) where
  quotient_read : to_z w32 (of_z w32 q) ≡ floor_quotient a b
  quotient_read = reads (e ∙ ap₂ floor_quotient (read f) (read g)) (down_fits a b h k)

  multiple_asks : SFits w32 (to_z w32 (of_z w32 b) *ℤ to_z w32 (of_z w32 q))
  multiple_asks = asks ◌*ℤ◌ (read g) quotient_read (multiple_fits a b h k)

  multiple_read : to_z w32 (of_z w32 (to_z w32 (of_z w32 b) *ℤ to_z w32 (of_z w32 q))) ≡ b *ℤ floor_quotient a b
  multiple_read = gives ◌*ℤ◌ (read g) quotient_read (multiple_fits a b h k)

pub returns-then-b-eq0 : goal.returns-then-b-eq0
returns-then-b-eq0 c = sym (divided_by_zero c.args.k c.args.a c.args.b c.requires.2 c.requires.3 (bits_zero c.ranges.b c.if-b-eq0.true))

pub overflow_mul-b : goal.overflow_mul-b
overflow_mul-b c = multiple_asks c.ranges.a c.ranges.b c.requires.0 c.requires.1 c.floor_quotient.ensures

pub overflow_sub-a : goal.overflow_sub-a
overflow_sub-a c =
    asks ◌-ℤ◌ (read c.ranges.a) (multiple_read c.ranges.a c.ranges.b c.requires.0 c.requires.1 c.floor_quotient.ensures)
    (down_remainder_fits c.args.a c.args.b c.requires.0 c.requires.1)

pub returns-in-10 : goal.returns-in-10
unfolding on_integers when◌then◌else◌
returns-in-10 c = rw c.in-10.is (c.exact_quotient.ensures ∙ ap₂ exact_quotient (read c.ranges.a) (read c.ranges.b))

pub returns-in-11 : goal.returns-in-11
unfolding on_integers floor_remainder when◌then◌else◌
returns-in-11 c =
    rw c.in-11.is
    (c.number.ensures
    ∙ ap number
    (gives ◌-ℤ◌ (read c.ranges.a) (multiple_read c.ranges.a c.ranges.b c.requires.0 c.requires.1 c.floor_quotient.ensures)
    (down_remainder_fits c.args.a c.args.b c.requires.0 c.requires.1))
    ∙ sym (by_other c.args.b _ (not_bits_zero c.if-b-eq0.false)))

pub returns-in-12 : goal.returns-in-12
unfolding on_integers when◌then◌else◌
returns-in-12 c =
    rw c.in-12.is
    (c.number-in-12.ensures
    ∙ ap number (quotient_read c.ranges.a c.ranges.b c.requires.0 c.requires.1 c.floor_quotient-in-12.ensures)
    ∙ sym (by_other c.args.b _ (not_bits_zero c.if-b-eq0.false)))

pub returns-in_default : goal.returns-in_default
returns-in_default c =
    c.number-in_default.ensures
    ∙ ap number (gives quot_z (read c.ranges.a) (read c.ranges.b) (plain_fits c.args.a c.args.b c.requires.0 c.requires.1))
    ∙ sym (by_other c.args.b _ (not_bits_zero c.if-b-eq0.false))
    ∙ sym (last_quotient c.args.k c.args.a c.args.b (omega arith))
