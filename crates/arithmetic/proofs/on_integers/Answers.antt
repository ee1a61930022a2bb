-- `arithmetic::on_integers` meets its contract: each arm is a line of the definition, one four of them.
use Rattle.std.proofs.Common.{◌≡◌, Bool, not, ℤ, ◌+ℤ◌, ◌-ℤ◌, ◌*ℤ◌, Option, None, ℕ, ◌≤◌, sym, ap, ap₂, ◌∙◌, arith}
use Rattle.std.specs.Int.Signed.{lt_z, le_z}
use mir.Syntax.{w32}
use mir.Val.{SFits, to_z, of_z}
use Rattle.bytecode.specs.Test.{when◌then◌else◌}
use borrow.Author.Tests.{ne_eqb}
use Rattle.model.specs.Arithmetic.{number, truth, shifted, on_integers}
use Rattle.arithmetic.proofs.Machine.{read, gives}
use Rattle.arithmetic.proofs.Magnitude.{sum_fits, difference_fits, product_fits}
use Rattle.arithmetic.proofs.Equality.{equal_bits}
use Rattle.arithmetic.proofs.on_integers.Goals as goal

-- the number of what the machine computes, and what a call or a test says of the integers that it reads
module _ {a b : ℤ} (f : SFits w32 a) (g : SFits w32 b) where
  op-number : (op : ℤ → ℤ → ℤ) → SFits w32 (op a b) → number (to_z w32 (of_z w32 (op (to_z w32 (of_z w32 a)) (to_z w32 (of_z w32 b))))) ≡ number (op a b)
  op-number op h = ap number (gives op (read f) (read g) h)

  at_read : (h : ℤ → ℤ → Option ℕ) → h (to_z w32 (of_z w32 a)) (to_z w32 (of_z w32 b)) ≡ h a b
  at_read h = ap₂ h (read f) (read g)

-- a number that is none of theirs
none_of : (k : ℕ) (a b : ℤ) → ((j : ℕ) → 1 ≤ j → j ≤ 13 → k ≡ j → ⊥) → (k ≡ 17 → ⊥) → on_integers k a b ≡ None
unfolding on_integers when◌then◌else◌
none_of k a b h g =
    rw (ne_eqb k 1 (h 1 (omega arith) (omega arith)), ne_eqb k 2 (h 2 (omega arith) (omega arith)), ne_eqb k 3 (h 3 (omega arith) (omega arith)), ne_eqb k 4 (h 4 (omega arith) (omega arith)), ne_eqb k 5 (h 5 (omega arith) (omega arith)), ne_eqb k 6 (h 6 (omega arith) (omega arith)), ne_eqb k 7 (h 7 (omega arith) (omega arith)), ne_eqb k 8 (h 8 (omega arith) (omega arith)), ne_eqb k 9 (h 9 (omega arith) (omega arith)), ne_eqb k 10 (h 10 (omega arith) (omega arith)), ne_eqb k 11 (h 11 (omega arith) (omega arith)), ne_eqb k 12 (h 12 (omega arith) (omega arith)), ne_eqb k 13 (h 13 (omega arith) (omega arith)), ne_eqb k 17 g)

pub returns-in-1 : goal.returns-in-1
unfolding on_integers when◌then◌else◌
returns-in-1 c = rw c.in-1.is (c.number.ensures ∙ op-number c.ranges.a c.ranges.b ◌+ℤ◌ (sum_fits c.args.a c.args.b c.requires.0 c.requires.1))

pub returns-in-2 : goal.returns-in-2
unfolding on_integers when◌then◌else◌
returns-in-2 c = rw c.in-2.is (c.number-in-2.ensures ∙ op-number c.ranges.a c.ranges.b ◌-ℤ◌ (difference_fits c.args.a c.args.b c.requires.0 c.requires.1))

pub returns-in-3 : goal.returns-in-3
unfolding on_integers when◌then◌else◌
returns-in-3 c = rw c.in-3.is (c.truth.ensures ∙ at_read c.ranges.a c.ranges.b (λ x y. truth (lt_z x y)))

pub returns-in-4 : goal.returns-in-4
unfolding on_integers when◌then◌else◌
returns-in-4 c = rw c.in-4.is (c.truth-in-4.ensures ∙ at_read c.ranges.a c.ranges.b (λ x y. truth (lt_z y x)))

pub returns-in-5 : goal.returns-in-5
unfolding on_integers when◌then◌else◌
returns-in-5 c = rw c.in-5.is (c.truth-in-5.ensures ∙ at_read c.ranges.a c.ranges.b (λ x y. truth (le_z x y)))

pub returns-in-6 : goal.returns-in-6
unfolding on_integers when◌then◌else◌
returns-in-6 c = rw c.in-6.is (c.truth-in-6.ensures ∙ at_read c.ranges.a c.ranges.b (λ x y. truth (le_z y x)))

pub returns-in-7 : goal.returns-in-7
unfolding on_integers when◌then◌else◌
returns-in-7 c = rw c.in-7.is (c.truth-in-7.ensures ∙ ap truth (equal_bits c.args.a c.args.b c.ranges.a c.ranges.b))

pub returns-in-8 : goal.returns-in-8
unfolding on_integers when◌then◌else◌
returns-in-8 c = rw c.in-8.is (c.truth-in-8.ensures ∙ ap (λ (t : Bool). truth (not t)) (equal_bits c.args.a c.args.b c.ranges.a c.ranges.b))

pub returns-in-9 : goal.returns-in-9
unfolding on_integers when◌then◌else◌
returns-in-9 c = rw c.in-9.is (c.number-in-9.ensures ∙ op-number c.ranges.a c.ranges.b ◌*ℤ◌ (product_fits c.args.a c.args.b c.requires.0 c.requires.1))

pub returns-in-17 : goal.returns-in-17
unfolding on_integers when◌then◌else◌
returns-in-17 c = rw c.in-17.is (c.shift.ensures ∙ at_read c.ranges.a c.ranges.b (λ x y. number (shifted x y)))

pub returns-in_default : goal.returns-in_default
returns-in_default c = sym (none_of c.args.k c.args.a c.args.b (λ j l m e. omega arith) (λ e. omega arith))

pub returns-in_default-2 : goal.returns-in_default-2
returns-in_default-2 c = sym (none_of c.args.k c.args.a c.args.b (λ j l m e. omega arith) (λ e. omega arith))
