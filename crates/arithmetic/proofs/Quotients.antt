-- Quotients and remainders: the definitions by their cases, rounding down from rounding toward zero, and how large they are.
use Prim.Native.Nat.{ℕ, zero, suc, ◌+◌, ◌-◌, ◌*◌, ◌/◌, ◌≤◌}
use mathlib.Core.Path.{◌≡◌, refl, sym, subst, ap, ◌∙◌}
use mathlib.Core.Bool.{Bool, true, false, not, beq}
use native.Mathlib.Omega.{arith}
use native.Mathlib.Nat.{div-le_self, zero-div, add-suc, mul-le-mul_left}
use borrow.Author.Tests.{ltb-true}
use lib.Dec.{T}
use lib.IntN.{ℤ, pos, negsuc, neg_ℤ, suc_ℤ, pred_ℤ, ◌+ℤ◌, ◌-ℤ◌, ◌*ℤ◌, +ℤ_one, -ℤ_one}
use lib.Signed.{mag, lt_z, quot_z, rem_z, mag_rem}
use mir.Syntax.{w32}
use mir.Val.{SFits}
use Rattle.bytecode.specs.Test.{when◌then◌else◌}
use Rattle.std.specs.Prelude.{Option, None}
use Rattle.model.specs.Limits.{largest_integer}
use Rattle.model.specs.Arithmetic.{is_zero, number, divided, exact_quotient, floor_quotient, on_integers}
use Rattle.arithmetic.proofs.Magnitude.{fits, neg_natural, sum_mag, difference_mag, product_mag, quotient_mag}

-- ---- the definitions

pub by_zero : {b : ℤ} (z : ℤ) → b ≡ pos 0 → divided b z ≡ None
unfolding divided when◌then◌else◌
by_zero z e = rw e

pub by_other : (b z : ℤ) → (b ≡ pos 0 → ⊥) → divided b z ≡ number z
unfolding divided when◌then◌else◌
by_other (pos zero) z h = absurd (h refl)
by_other (pos (suc b)) z h = refl
by_other (negsuc b) z h = refl

either_way : (t : Bool) → ◌≡◌ {A = Option ℕ} (when t then None else None) None
unfolding when◌then◌else◌
either_way true = refl
either_way false = refl

-- 10 to 13 fail on a divisor of zero
divided_zero : (j : ℕ) (a : ℤ) → j ≤ 3 → on_integers (10 + j) a (pos 0) ≡ None
unfolding on_integers exact_quotient divided when◌then◌else◌
divided_zero zero a h = either_way (is_zero (rem_z a (pos 0)))
divided_zero (suc zero) a h = refl
divided_zero (suc (suc zero)) a h = refl
divided_zero (suc (suc (suc zero))) a h = refl
divided_zero (suc (suc (suc (suc j)))) a h = absurd (omega arith)

pub divided_by_zero : (k : ℕ) (a b : ℤ) → 10 ≤ k → k ≤ 13 → b ≡ pos 0 → on_integers k a b ≡ None
divided_by_zero k a b l m e =
    let f : 10 + (k - 10) ≡ k = omega arith in
    rw e (subst (λ (i : ℕ). on_integers i a (pos 0) ≡ None) f (divided_zero (k - 10) a (omega arith)))

pub last_quotient : (k : ℕ) (a b : ℤ) → k ≡ 13 → on_integers k a b ≡ divided b (quot_z a b)
unfolding on_integers when◌then◌else◌
last_quotient k a b e = rw e

pub exact : (a b : ℤ) → rem_z a b ≡ pos 0 → (b ≡ pos 0 → ⊥) → exact_quotient a b ≡ number (quot_z a b)
unfolding exact_quotient when◌then◌else◌
exact a b e h = rw e (by_other b (quot_z a b) h)

not_zero : (z : ℤ) → (z ≡ pos 0 → ⊥) → is_zero z ≡ false
not_zero (pos zero) h = absurd (h refl)
not_zero (pos (suc n)) h = refl
not_zero (negsuc n) h = refl

pub inexact : (a b : ℤ) → (rem_z a b ≡ pos 0 → ⊥) → exact_quotient a b ≡ None
unfolding exact_quotient when◌then◌else◌
inexact a b h = rw (not_zero (rem_z a b) h)

-- ---- rounding down, by the two signs

negative_pos : {X : Type 0} (n : ℕ) → lt_z (pos n) (pos 0) ≡ true → X
negative_pos n e = absurd (omega (arith, ltb-true n 0 e))

natural_neg : {X : Type 0} (n : ℕ) → lt_z (negsuc n) (pos 0) ≡ false → X
natural_neg n e = absurd (subst T e tt)

pub down_negatives : (a b : ℤ) → lt_z a (pos 0) ≡ true → lt_z b (pos 0) ≡ true → quot_z a b ≡ floor_quotient a b
unfolding floor_quotient
down_negatives (pos a) b p q = negative_pos a p
down_negatives (negsuc a) (pos b) p q = negative_pos b q
down_negatives (negsuc a) (negsuc b) p q = refl

one_less : (n : ℕ) → pred_ℤ (neg_ℤ (pos n)) ≡ negsuc n
one_less zero = refl
one_less (suc n) = refl

pub down_from_negative : (a b : ℤ) → lt_z a (pos 0) ≡ true → lt_z b (pos 0) ≡ false → quot_z (a +ℤ pos 1) b -ℤ pos 1 ≡ floor_quotient a b
unfolding floor_quotient
down_from_negative a b p q = -ℤ_one (quot_z (a +ℤ pos 1) b) ∙ ap (λ (z : ℤ). pred_ℤ (quot_z z b)) (+ℤ_one a) ∙ signs a b p q
  where
    signs : (a b : ℤ) → lt_z a (pos 0) ≡ true → lt_z b (pos 0) ≡ false → pred_ℤ (quot_z (suc_ℤ a) b) ≡ floor_quotient a b
    signs (pos a) b p q = negative_pos a p
    signs (negsuc a) (negsuc b) p q = natural_neg b q
    signs (negsuc zero) (pos b) p q = rw (zero-div b)
    signs (negsuc (suc a)) (pos b) p q = one_less (suc a / b)

pub down_by_negative : (a b : ℤ) → lt_z a (pos 0) ≡ false → lt_z b (pos 0) ≡ true → quot_z (a -ℤ b -ℤ pos 1) b ≡ floor_quotient a b
unfolding floor_quotient
down_by_negative a b p q = ap (λ (z : ℤ). quot_z z b) (-ℤ_one (a -ℤ b)) ∙ signs a b p q
  where
    signs : (a b : ℤ) → lt_z a (pos 0) ≡ false → lt_z b (pos 0) ≡ true → quot_z (pred_ℤ (a -ℤ b)) b ≡ floor_quotient a b
    signs (negsuc a) b p q = natural_neg a p
    signs (pos a) (pos b) p q = negative_pos b q
    signs (pos a) (negsuc b) p q = rw (add-suc a b)

pub down_naturals : (a b : ℤ) → lt_z a (pos 0) ≡ false → lt_z b (pos 0) ≡ false → quot_z a b ≡ floor_quotient a b
unfolding floor_quotient
down_naturals (negsuc a) b p q = natural_neg a p
down_naturals (pos a) (negsuc b) p q = natural_neg b q
down_naturals (pos a) (pos b) p q = refl

-- two signs, by whether they are the same
same_sign : (x y : Bool) → beq x y ≡ true → y ≡ x
same_sign true true e = refl
same_sign false false e = refl
same_sign true false e = absurd (subst T (sym e) tt)
same_sign false true e = absurd (subst T (sym e) tt)

pub other_sign : (x y : Bool) → beq x y ≡ false → y ≡ not x
other_sign true false e = refl
other_sign false true e = refl
other_sign true true e = absurd (subst T e tt)
other_sign false false e = absurd (subst T e tt)

pub down_alike : (a b : ℤ) → beq (lt_z a (pos 0)) (lt_z b (pos 0)) ≡ true → quot_z a b ≡ floor_quotient a b
down_alike a b e = by_sign (lt_z a (pos 0)) refl
  where
    by_sign : (x : Bool) → lt_z a (pos 0) ≡ x → quot_z a b ≡ floor_quotient a b
    by_sign true p = down_negatives a b p (same_sign _ _ e ∙ p)
    by_sign false p = down_naturals a b p (same_sign _ _ e ∙ p)

-- ---- that they fit

quotient_fits : (a b : ℤ) → mag a ≤ 65536 → SFits w32 (quot_z a b)
quotient_fits a b h = let g = quotient_mag a b in fits 65537 (omega arith) (omega arith)

down_mag : (a b : ℤ) → mag (floor_quotient a b) ≤ suc (mag a + mag b)
unfolding floor_quotient
down_mag (pos a) (pos b) = let h = div-le_self a b in omega arith
down_mag (pos a) (negsuc b) = let h = div-le_self (a + b) (suc b) in let g = neg_natural ((a + b) / suc b) in omega arith
down_mag (negsuc a) (pos b) = let h = div-le_self a b in omega arith
down_mag (negsuc a) (negsuc b) = let h = div-le_self (suc a) (suc b) in omega arith

module _ (a b : ℤ) (ha : mag a ≤ largest_integer) (hb : mag b ≤ largest_integer) where
  pub plain_fits : SFits w32 (quot_z a b)
  plain_fits = quotient_fits a b (omega arith)

  pub remainder_fits : SFits w32 (rem_z a b)
  remainder_fits = let g = mag_rem a b in fits 65536 (omega arith) (omega arith)

  pub next_fits : SFits w32 (a +ℤ pos 1)
  next_fits = let h = sum_mag a (pos 1) in fits 65536 (omega arith) (omega arith)

  pub next_quotient_fits : SFits w32 (quot_z (a +ℤ pos 1) b)
  next_quotient_fits = let h = sum_mag a (pos 1) in quotient_fits (a +ℤ pos 1) b (omega arith)

  pub next_less_fits : SFits w32 (quot_z (a +ℤ pos 1) b -ℤ pos 1)
  next_less_fits =
      let h = sum_mag a (pos 1) in
      let g = quotient_mag (a +ℤ pos 1) b in
      let k = difference_mag (quot_z (a +ℤ pos 1) b) (pos 1) in
      fits 65536 (omega arith) (omega arith)

  apart_less_mag : mag (a -ℤ b -ℤ pos 1) ≤ 65536
  apart_less_mag = let h = difference_mag a b in let g = difference_mag (a -ℤ b) (pos 1) in omega arith

  pub apart_less_fits : SFits w32 (a -ℤ b -ℤ pos 1)
  apart_less_fits = fits 65536 apart_less_mag (omega arith)

  pub apart_quotient_fits : SFits w32 (quot_z (a -ℤ b -ℤ pos 1) b)
  apart_quotient_fits = quotient_fits (a -ℤ b -ℤ pos 1) b apart_less_mag

  pub down_fits : SFits w32 (floor_quotient a b)
  down_fits = let h = down_mag a b in fits 65536 (omega arith) (omega arith)

  multiple_mag : mag (b *ℤ floor_quotient a b) ≤ 16384 * 32768
  multiple_mag =
      let h = product_mag b (floor_quotient a b) in
      let g = down_mag a b in
      let k : suc (mag b) * suc (mag (floor_quotient a b)) ≤ suc (mag b) * 32768 = mul-le-mul_left (suc (mag b)) (omega arith) in
      omega arith

  pub multiple_fits : SFits w32 (b *ℤ floor_quotient a b)
  multiple_fits = let h = multiple_mag in fits 536870912 (omega arith) (omega arith)

  pub down_remainder_fits : SFits w32 (a -ℤ b *ℤ floor_quotient a b)
  down_remainder_fits = let h = multiple_mag in let g = difference_mag a (b *ℤ floor_quotient a b) in fits 536890000 (omega arith) (omega arith)
