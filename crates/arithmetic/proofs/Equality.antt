-- Two integers have the same bits, and the same word, where each is at most the other.
use Prim.Native.Nat.{ℕ, suc, ◌-◌, ◌/◌, ◌%◌, ◌≤◌, ◌<◌}
use mathlib.Core.Path.{◌≡◌}
use mathlib.Core.Bool.{Bool, true, false, ◌&&◌}
use native.Mathlib.Omega.{arith}
use native.Mathlib.Decide.{ℕ_discrete, dec_le, dec_lt}
use borrow.Author.Tests.{le-leb, lt-leb, lt-ltb, le-ltb, eq-eqb, ne_eqb}
use lib.Dec.{leb, eqb}
use lib.IntN.{ℤ, pos, negsuc}
use lib.Signed.{le_z}
use mir.Syntax.{w32}
use mir.Val.{SFits, of_z}
use Rattle.bytecode.specs.Test.{when◌then◌else◌}
use Rattle.model.specs.Word.{value_of}

module _ (t : Bool) (a b : ℕ) (equal : a ≡ b → t ≡ true) (unequal : (a ≡ b → ⊥) → t ≡ false) where
  by_order : Dec (a ≡ b) → Dec (a ≤ b) → t ≡ (leb a b && leb b a)
  by_order (yes e) d = rw (equal e, le-leb a b (omega arith), le-leb b a (omega arith))
  by_order (no n) (yes h) = rw (unequal n, le-leb a b h, lt-leb b a (omega arith))
  by_order (no n) (no h) = rw (unequal n, lt-leb a b (omega arith))

  both_ways : t ≡ (leb a b && leb b a)
  both_ways = by_order (ℕ_discrete a b) (dec_le a b)

pub equal_bits : (a b : ℤ) → SFits w32 a → SFits w32 b → eqb (of_z w32 a) (of_z w32 b) ≡ (le_z a b && le_z b a)
equal_bits (pos a) (pos b) f g = both_ways (eqb a b) a b (eq-eqb a b) (ne_eqb a b)
equal_bits (pos a) (negsuc b) f g =
    let h : a < 2147483648 = f.sfits in
    let k : b < 2147483648 = g.sfits in
    ne_eqb a (4294967296 - suc b) (λ e. omega arith)
equal_bits (negsuc a) (pos b) f g =
    let h : a < 2147483648 = f.sfits in
    let k : b < 2147483648 = g.sfits in
    ne_eqb (4294967296 - suc a) b (λ e. omega arith)
equal_bits (negsuc a) (negsuc b) f g =
    let h : a < 2147483648 = f.sfits in
    let k : b < 2147483648 = g.sfits in
    both_ways (eqb (4294967296 - suc a) (4294967296 - suc b)) b a
    (λ e. eq-eqb (4294967296 - suc a) (4294967296 - suc b) (omega arith))
    (λ n. ne_eqb (4294967296 - suc a) (4294967296 - suc b) (λ e. n (omega arith)))

module _ (v w : ℕ) (hv : v < 65536) (hw : w < 65536) (ov : v % 2 ≡ 1) (ow : w % 2 ≡ 1) where
  abbrev same : Bool
  same = le_z (value_of v) (value_of w) && le_z (value_of w) (value_of v)

  by_halves : Dec (v < 32768) → Dec (w < 32768) → eqb v w ≡ same
  unfolding value_of when◌then◌else◌
  by_halves (yes l) (yes g) = rw (lt-ltb v 32768 l, lt-ltb w 32768 g)
      (both_ways (eqb v w) (v / 2) (w / 2) (λ e. eq-eqb v w (omega arith)) (λ n. ne_eqb v w (λ e. n (omega arith))))
  by_halves (yes l) (no g) = rw (lt-ltb v 32768 l, le-ltb w 32768 (omega arith)) (ne_eqb v w (λ e. omega arith))
  by_halves (no l) (yes g) = rw (le-ltb v 32768 (omega arith), lt-ltb w 32768 g) (ne_eqb v w (λ e. omega arith))
  by_halves (no l) (no g) = rw (le-ltb v 32768 (omega arith), le-ltb w 32768 (omega arith))
      (both_ways (eqb v w) ((65535 - w) / 2) ((65535 - v) / 2) (λ e. eq-eqb v w (omega arith)) (λ n. ne_eqb v w (λ e. n (omega arith))))

  pub equal_words : eqb v w ≡ same
  equal_words = by_halves (dec_lt v 32768) (dec_lt w 32768)
