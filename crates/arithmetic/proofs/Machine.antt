-- A signed local holds bits. What the machine computes with it is an integer's operation on what the bits read as.
use Prim.Native.Nat.{zero, suc, ◌<◌}
use mathlib.Core.Path.{◌≡◌, refl, sym, subst, ap, ap₂, ◌∙◌}
use native.Mathlib.Omega.{arith}
use lib.IntN.{ℤ, pos, negsuc}
use mir.Syntax.{w32}
use mir.Val.{SFits, to_z, of_z}
use mir.ValLaws.{to_z-of_z}

pub read : {z : ℤ} → SFits w32 z → to_z w32 (of_z w32 z) ≡ z
read {z} f = to_z-of_z w32 z f

pub reads : {x a : ℤ} → x ≡ a → SFits w32 a → to_z w32 (of_z w32 x) ≡ a
reads e f = ap (λ (z : ℤ). to_z w32 (of_z w32 z)) e ∙ read f

pub literal : (z : ℤ) → z ≡ z
literal z = refl

-- an operation whose operands are known: what it asks, and what its result reads as
module _ (op : ℤ → ℤ → ℤ) {x y a b : ℤ} (p : x ≡ a) (q : y ≡ b) (f : SFits w32 (op a b)) where
  pub asks : SFits w32 (op x y)
  asks = subst (SFits w32) (sym (ap₂ op p q)) f

  pub gives : to_z w32 (of_z w32 (op x y)) ≡ op a b
  gives = reads (ap₂ op p q) f

-- whether the bits are zero
pub bits_zero : {b : ℤ} → SFits w32 b → of_z w32 b ≡ 0 → b ≡ pos 0
bits_zero f e = sym (read f) ∙ ap (to_z w32) e

pub not_bits_zero : {b : ℤ} → (of_z w32 b ≡ 0 → ⊥) → b ≡ pos 0 → ⊥
not_bits_zero h e = h (ap (of_z w32) e)

pub bits_not_zero : (b : ℤ) → SFits w32 b → (b ≡ pos 0 → ⊥) → 0 < of_z w32 b
bits_not_zero (pos zero) f h = absurd (h refl)
bits_not_zero (pos (suc n)) f h = omega arith
bits_not_zero (negsuc n) f h = let g : n < 2147483648 = f.sfits in omega arith
