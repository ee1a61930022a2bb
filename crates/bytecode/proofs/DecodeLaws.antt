-- Lengths, and the three cases of a decoded position: outside, not whole, whole.
use Prim.Native.Nat.{ℕ, ◌+◌, ◌<◌, ◌≤◌}
use mathlib.Core.Path.{◌≡◌, refl, sym, ◌∙◌, ap}
use mathlib.Core.List.{List}
use native.Mathlib.Omega.{arith}
use lib.Dec.{ltb, eqb}
use Rattle.bytecode.specs.Code.{byte_at, bytes_after, instruction_of, length_of, next_at, decode_at}
use Rattle.bytecode.specs.declared.Instruction.TheVariants.{Unused}
use Rattle.bytecode.proofs.Choice.{ranges, if_gt, if_same, if_either}

abbrev OneToThree : ℕ → Type 0
OneToThree n = (1 ≤ n) × (n ≤ 3)

pub length_range : (b : ℕ) → (1 ≤ length_of b) × (length_of b ≤ 3)
unfolding length_of
length_range b =
    if_either OneToThree (ltb b 128) _ _ (omega arith)
    (if_either OneToThree (ltb b 132) _ _ (omega arith)
    (if_either OneToThree (eqb b 132) _ _ (omega arith)
    (if_either OneToThree (eqb b 133) _ _ (omega arith)
    (if_either OneToThree (eqb b 134) _ _ (omega arith)
    (if_either OneToThree (ltb b 160) _ _ (omega arith)
    (if_either OneToThree (ltb b 176) _ _ (omega arith) (omega arith)))))))

module _ (words : List ℕ) (p : ℕ) where
  pub next_is : next_at words p ≡ p + length_of (byte_at words p)
  unfolding next_at
  next_is = refl

  pub next_range : (p < next_at words p) × (next_at words p ≤ p + 3)
  next_range = omega (arith, next_is, length_range (byte_at words p))

module _ (words : List ℕ) (size p : ℕ) where
  pub decode_outside : size ≤ p → decode_at words size p ≡ Unused
  unfolding decode_at
  decode_outside h = search ranges

  pub decode_short : size < next_at words p → decode_at words size p ≡ Unused
  unfolding decode_at
  decode_short h = simp (if_gt, if_same)

  pub decode_whole : next_at words p ≤ size → decode_at words size p ≡ instruction_of (byte_at words p) (bytes_after words p)
  unfolding decode_at
  decode_whole h = let l : p < size = omega (arith, next_range words p) in search ranges

-- The same where b is the byte at p
module _ (words : List ℕ) (p : ℕ) {b : ℕ} (here : b ≡ byte_at words p) where
  pub next_here : next_at words p ≡ p + length_of b
  next_here = next_is words p ∙ ap (λ k. p + length_of k) (sym here)

  pub cut : (size : ℕ) → size < p + length_of b → Unused ≡ decode_at words size p
  cut size h = sym (decode_short words size p (omega (arith, next_here)))

  pub decoded : (size : ℕ) → p + length_of b ≤ size → instruction_of b (bytes_after words p) ≡ decode_at words size p
  decoded size h = rw here (sym (decode_whole words size p (omega (arith, next_here))))
