-- Shifts: by more than 15 places an integer in range gives what 15 places give.
use Prim.Native.Nat.{ℕ, zero, suc, ◌-◌, ◌*◌, ◌%◌, ◌^◌, ◌<◌, ◌≤◌, min}
use mathlib.Core.Path.{◌≡◌, refl, sym, subst, ap, ◌∙◌}
use mathlib.Core.Bool.{true, false}
use native.Mathlib.Omega.{arith}
use native.Mathlib.Nat.{div-eq_of_lt, zero-mul, one-mul, mul-le-mul_left, min-eq_left}
use native.Mathlib.Decide.{dec_le}
use borrow.Author.Tests.{ltb-true}
use lib.Dec.{T, lit<}
use lib.Pow.{pow_mono, shl_exact}
use lib.IntN.{ℤ, pos, negsuc, neg_ℤ, nat_abs, ◌*ℤ◌}
use lib.Signed.{mag, lt_z, non_neg, shr_z, mag_shr}
use mir.Syntax.{w32}
use mir.Val.{SFits}
use Rattle.model.specs.Limits.{largest_integer}
use Rattle.model.specs.Arithmetic.{number, shifted}
use Rattle.arithmetic.proofs.Magnitude.{fits, product_mag}
use Rattle.arithmetic.proofs.Ranges.{out_of_range}

pub small_power : (n : ℕ) → n ≤ 15 → 2 ^ n ≤ 32768
small_power n h = pow_mono h

pub large_power : (n : ℕ) → 15 ≤ n → 32768 ≤ 2 ^ n
large_power n h = pow_mono h

pub one_shifted : (n : ℕ) → n ≤ 15 → 1 * 2 ^ n % 4294967296 ≡ 2 ^ n
one_shifted n h = shl_exact {a = 1} 1 n 32 (lit< tt) (omega arith) ∙ one-mul (2 ^ n)

-- ---- to the left

pub left_fits : (a : ℤ) (n : ℕ) → mag a ≤ largest_integer → n ≤ 15 → SFits w32 (a *ℤ pos (2 ^ n))
left_fits a n h g =
    let p = product_mag a (pos (2 ^ n)) in
    let q = small_power n g in
    let k : suc (mag a) * suc (2 ^ n) ≤ suc (mag a) * 32769 = mul-le-mul_left (suc (mag a)) (omega arith) in
    fits 536887296 (omega arith) (omega arith)

neg_natural_mag : (m : ℕ) → mag (neg_ℤ (pos m)) ≡ m - 1
neg_natural_mag zero = refl
neg_natural_mag (suc m) = omega arith

far_left : (a : ℤ) (p q : ℕ) → 32768 ≤ p → 32768 ≤ q → number (a *ℤ pos p) ≡ number (a *ℤ pos q)
far_left (pos zero) p q h g = ap (λ (m : ℕ). number (pos m)) (zero-mul p ∙ sym (zero-mul q))
far_left (pos (suc a)) p q h g = out_of_range (pos (suc a * p)) (omega arith) ∙ sym (out_of_range (pos (suc a * q)) (omega arith))
far_left (negsuc a) p q h g =
    out_of_range (neg_ℤ (pos (suc a * p))) (omega (arith, neg_natural_mag (suc a * p)))
    ∙ sym (out_of_range (neg_ℤ (pos (suc a * q))) (omega (arith, neg_natural_mag (suc a * q))))

-- ---- to the right

pub right_fits : (a : ℤ) (m : ℕ) → mag a ≤ largest_integer → SFits w32 (shr_z a m)
right_fits a m h = let g = mag_shr a m in fits 65536 (omega arith) (omega arith)

far_right : (a : ℤ) (p q : ℕ) → mag a < p → mag a < q → shr_z a p ≡ shr_z a q
far_right (pos a) p q h g = ap pos (div-eq_of_lt h ∙ sym (div-eq_of_lt g))
far_right (negsuc a) p q h g = ap negsuc (div-eq_of_lt h ∙ sym (div-eq_of_lt g))

-- ---- any number of places

module _ (a : ℤ) (n : ℕ) where
  left_by : Dec (n ≤ 15) → number (a *ℤ pos (2 ^ min n 15)) ≡ number (a *ℤ pos (2 ^ n))
  left_by (yes h) = rw (min-eq_left h)
  left_by (no h) = far_left a (2 ^ min n 15) (2 ^ n) (large_power (min n 15) (omega arith)) (large_power n (omega arith))

  pub left_capped : number (a *ℤ pos (2 ^ min n 15)) ≡ number (a *ℤ pos (2 ^ n))
  left_capped = left_by (dec_le n 15)

  right_by : mag a ≤ largest_integer → Dec (n ≤ 15) → shr_z a (2 ^ min n 15) ≡ shr_z a (2 ^ n)
  right_by k (yes h) = rw (min-eq_left h)
  right_by k (no h) =
      let p = large_power (min n 15) (omega arith) in
      let q = large_power n (omega arith) in
      far_right a (2 ^ min n 15) (2 ^ n) (omega arith) (omega arith)

  pub right_capped : mag a ≤ largest_integer → shr_z a (2 ^ min n 15) ≡ shr_z a (2 ^ n)
  right_capped k = right_by k (dec_le n 15)

-- ---- by the sign of the count

pub count_right : (b : ℤ) → lt_z b (pos 0) ≡ true → T (non_neg (neg_ℤ b))
count_right (pos b) e = absurd (omega (arith, ltb-true b 0 e))
count_right (negsuc b) e = tt

pub count_left : (b : ℤ) → lt_z b (pos 0) ≡ false → T (non_neg b)
count_left (pos b) e = tt
count_left (negsuc b) e = subst T e tt

pub count_below : (b : ℤ) → nat_abs b ≤ suc (mag b)
count_below (pos b) = omega arith
count_below (negsuc b) = omega arith

pub shifted_right : (a b : ℤ) → lt_z b (pos 0) ≡ true → shr_z a (2 ^ nat_abs (neg_ℤ b)) ≡ shifted a b
unfolding shifted
shifted_right a (pos b) e = absurd (omega (arith, ltb-true b 0 e))
shifted_right a (negsuc b) e = refl

pub shifted_left : (a b : ℤ) → lt_z b (pos 0) ≡ false → a *ℤ pos (2 ^ nat_abs b) ≡ shifted a b
unfolding shifted
shifted_left a (pos b) e = refl
shifted_left a (negsuc b) e = absurd (subst T e tt)
