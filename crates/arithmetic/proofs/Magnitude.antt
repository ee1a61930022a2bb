-- How large a result can be: `mag` bounds an integer on both sides.
use Prim.Native.Nat.{ℕ, zero, suc, ◌+◌, ◌-◌, ◌*◌, ◌/◌, ◌≤◌}
use mathlib.Core.Bool.{Bool, true, false, cond}
use native.Mathlib.Omega.{arith}
use native.Mathlib.Nat.{div-le_self, mul-le-mul_left}
use lib.Dec.{ltb}
use lib.IntN.{ℤ, pos, negsuc, neg_ℤ, sub_ℕ, ◌+ℤ◌, ◌-ℤ◌, ◌*ℤ◌}
use lib.Signed.{mag, quot_z}
use mir.Syntax.{w32}
use mir.Val.{SFits}
use Rattle.model.specs.Limits.{largest_integer}

-- a bound that 32 bits hold
pub fits : {z : ℤ} (n : ℕ) → mag z ≤ n → n ≤ 2147483647 → SFits w32 z
fits n h g = record { sfits = omega arith }

pub neg_natural : (n : ℕ) → mag (neg_ℤ (pos n)) ≤ n
neg_natural zero = omega arith
neg_natural (suc n) = omega arith

pub neg_mag : (z : ℤ) → mag (neg_ℤ z) ≤ suc (mag z)
neg_mag (pos n) = let h = neg_natural n in omega arith
neg_mag (negsuc n) = omega arith

either : (t : Bool) (x y : ℕ) → mag (cond t (negsuc x) (pos y)) ≤ x + y
either true x y = omega arith
either false x y = omega arith

apart_mag : (a b : ℕ) → mag (sub_ℕ a (suc b)) ≤ a + b
apart_mag a b = let h = either (ltb a (suc b)) (suc b - suc a) (a - suc b) in omega arith

pub sum_mag : (a b : ℤ) → mag (a +ℤ b) ≤ suc (mag a + mag b)
sum_mag (pos a) (pos b) = omega arith
sum_mag (pos a) (negsuc b) = let h = apart_mag a b in omega arith
sum_mag (negsuc a) (pos b) = let h = apart_mag b a in omega arith
sum_mag (negsuc a) (negsuc b) = omega arith

pub difference_mag : (a b : ℤ) → mag (a -ℤ b) ≤ suc (suc (mag a + mag b))
difference_mag a b = let h = sum_mag a (neg_ℤ b) in let g = neg_mag b in omega arith

pub product_mag : (a b : ℤ) → mag (a *ℤ b) ≤ suc (mag a) * suc (mag b)
product_mag (pos a) (pos b) = omega arith
product_mag (pos a) (negsuc b) = let h = neg_natural (a * suc b) in omega arith
product_mag (negsuc a) (pos b) = let h = neg_natural (suc a * b) in omega arith
product_mag (negsuc a) (negsuc b) = omega arith

pub quotient_mag : (a b : ℤ) → mag (quot_z a b) ≤ suc (mag a)
quotient_mag (pos a) (pos b) = let h = div-le_self a b in omega arith
quotient_mag (pos a) (negsuc b) = let h = div-le_self a (suc b) in let g = neg_natural (a / suc b) in omega arith
quotient_mag (negsuc a) (pos b) = let h = div-le_self (suc a) b in let g = neg_natural (suc a / b) in omega arith
quotient_mag (negsuc a) (negsuc b) = div-le_self (suc a) (suc b)

module _ (a b : ℤ) (ha : mag a ≤ largest_integer) (hb : mag b ≤ largest_integer) where
  pub sum_fits : SFits w32 (a +ℤ b)
  sum_fits = let h = sum_mag a b in fits 65536 (omega arith) (omega arith)

  pub difference_fits : SFits w32 (a -ℤ b)
  difference_fits = let h = difference_mag a b in fits 65536 (omega arith) (omega arith)

  pub product_fits : SFits w32 (a *ℤ b)
  product_fits =
      let h = product_mag a b in
      let g : suc (mag a) * suc (mag b) ≤ suc (mag a) * 16384 = mul-le-mul_left (suc (mag a)) (omega arith) in
      fits 268435456 (omega arith) (omega arith)
