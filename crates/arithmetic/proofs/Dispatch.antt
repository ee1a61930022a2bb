-- `arithmetic` by its tests: of the two words, and of the primitive's number.
use Prim.Native.Nat.{ℕ, ◌+◌, ◌*◌, ◌/◌, ◌%◌, ◌≤◌, ◌<◌}
use mathlib.Core.Path.{◌≡◌, ap, ap₂, ◌∙◌}
use mathlib.Core.Bool.{Bool, true, false, ◌&&◌}
use native.Mathlib.Omega.{arith}
use native.Mathlib.Decide.{ℕ_discrete}
use native.Mathlib.Nat.{mul-le-mul_left, mul-le-mul_right}
use borrow.Author.Tests.{eq-eqb, ne_eqb, lt-leb}
use lib.Dec.{leb}
use lib.Bits.{bit_xor, differ, xor_step, xor_lt}
use Rattle.bytecode.specs.Test.{when◌then◌else◌}
use Rattle.std.specs.Prelude.{None}
use Rattle.model.specs.Word.{value_of}
use Rattle.model.specs.Arithmetic.{on_bits, on_integers, arithmetic}

pub receiver_no_integer : (k v w : ℕ) → (v % 2 ≡ 1 → ⊥) → arithmetic k v w ≡ None
unfolding arithmetic when◌then◌else◌
receiver_no_integer k v w h = rw (ne_eqb (v % 2) 1 h)

module _ (k v w : ℕ) (hv : v % 2 ≡ 1) where
  pub argument_no_integer : (w % 2 ≡ 1 → ⊥) → arithmetic k v w ≡ None
  unfolding arithmetic when◌then◌else◌
  argument_no_integer h = rw (eq-eqb (v % 2) 1 hv, ne_eqb (w % 2) 1 h)

  module _ (hw : w % 2 ≡ 1) where
    pub bitwise : (leb 14 k && leb k 16) ≡ true → arithmetic k v w ≡ on_bits k v w
    unfolding arithmetic when◌then◌else◌
    bitwise e = rw (eq-eqb (v % 2) 1 hv, eq-eqb (w % 2) 1 hw, e)

    pub not_bitwise : (leb 14 k && leb k 16) ≡ false → arithmetic k v w ≡ on_integers k (value_of v) (value_of w)
    unfolding arithmetic when◌then◌else◌
    not_bitwise e = rw (eq-eqb (v % 2) 1 hv, eq-eqb (w % 2) 1 hw, e)

    pub numbered : (j : ℕ) → k ≡ j → j < 14 → arithmetic k v w ≡ on_integers j (value_of v) (value_of w)
    numbered j e h =
        not_bitwise (ap (λ (i : ℕ). leb 14 i && leb i 16) e ∙ ap (λ (t : Bool). t && leb j 16) (lt-leb 14 j h)) ∙ ap (λ (i : ℕ). on_integers i (value_of v) (value_of w)) e

-- ---- one test of both words: the product of their last bits is 1 exactly where each is

pub product_most : (v w : ℕ) → (v % 2 * (w % 2) ≤ v % 2) × (v % 2 * (w % 2) ≤ w % 2)
product_most v w =
    let l : v % 2 * (w % 2) ≤ v % 2 * 1 = mul-le-mul_left (v % 2) (omega arith) in
    let r : v % 2 * (w % 2) ≤ 1 * (w % 2) = mul-le-mul_right (w % 2) (omega arith) in
    omega arith

pub both_integers : (v w : ℕ) → v % 2 * (w % 2) ≡ 1 → (v % 2 ≡ 1) × (w % 2 ≡ 1)
both_integers v w e = omega (arith, product_most v w)

module _ (k v w : ℕ) (h : v % 2 * (w % 2) ≡ 1 → ⊥) where
  by_receiver : Dec (v % 2 ≡ 1) → arithmetic k v w ≡ None
  by_receiver (yes e) = argument_no_integer k v w e (λ f. h (ap₂ ◌*◌ e f))
  by_receiver (no n) = receiver_no_integer k v w n

  pub not_both_integers : arithmetic k v w ≡ None
  not_both_integers = by_receiver (ℕ_discrete (v % 2) 1)

-- two odd words differ in an even number, so one more is a word
pub xor_below : (v w : ℕ) → v < 65536 → w < 65536 → v % 2 ≡ 1 → w % 2 ≡ 1 → bit_xor v w + 1 < 65536
xor_below v w bv bw hv hw =
    let e : bit_xor v w ≡ bit_xor (v / 2) (w / 2) * 2 + 0 = xor_step v w ∙ ap₂ (λ (x y : ℕ). bit_xor (v / 2) (w / 2) * 2 + differ x y) hv hw in
    let b : bit_xor v w < 65536 = xor_lt 16 v w bv bw in
    omega arith
