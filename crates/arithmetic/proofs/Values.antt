-- The integer of a word and the word of an integer, as the code computes them: by 16,384 more than the integer, which is no negative number.
use Prim.Native.Nat.{ℕ, suc, ◌+◌, ◌-◌, ◌*◌, ◌/◌, ◌%◌, ◌<◌, ◌≤◌}
use mathlib.Core.Path.{◌≡◌, refl, ap}
use native.Mathlib.Omega.{arith}
use native.Mathlib.Decide.{dec_lt}
use borrow.Author.Tests.{lt-ltb, le-ltb}
use lib.IntN.{ℤ, pos, negsuc, ◌+ℤ◌, ◌-ℤ◌}
use lib.Signed.{mag}
use mir.Syntax.{w32}
use mir.Val.{SFits, to_z, of_z}
use Rattle.bytecode.specs.Test.{when◌then◌else◌}
use Rattle.model.specs.Limits.{largest_integer}
use Rattle.model.specs.Word.{value_of, word_of}
use Rattle.arithmetic.proofs.Machine.{reads}
use Rattle.arithmetic.proofs.Magnitude.{fits}

abbrev pub raised_word : ℕ → ℕ
raised_word w = (w + 32768) % 65536 / 2

module _ (w : ℕ) (h : w < 65536) where
  by_half : Dec (w < 32768) → pos (raised_word w) -ℤ pos 16384 ≡ value_of w
  unfolding value_of when◌then◌else◌
  by_half (yes l) = let g : 16384 ≤ raised_word w = omega arith in rw (le-ltb (raised_word w) 16384 g, lt-ltb w 32768 l) (ap pos (omega arith))
  by_half (no n) = let g : raised_word w < 16384 = omega arith in rw (lt-ltb (raised_word w) 16384 g, le-ltb w 32768 (omega arith)) (ap negsuc (omega arith))

  pub lowered : pos (raised_word w) -ℤ pos 16384 ≡ value_of w
  lowered = by_half (dec_lt w 32768)

abbrev pub raise : ℤ → ℕ
raise (pos n) = n + 16384
raise (negsuc n) = 16384 - suc n

pub raised : (z : ℤ) → mag z ≤ largest_integer → z +ℤ pos 16384 ≡ pos (raise z)
raised (pos n) h = refl
raised (negsuc n) h = rw (le-ltb 16384 (suc n) (omega arith))

pub raise_below : (z : ℤ) → mag z ≤ largest_integer → raise z < 32768
raise_below (pos n) h = omega arith
raise_below (negsuc n) h = omega arith

pub word_of_raised : (z : ℤ) → mag z ≤ largest_integer → (2 * raise z + 32769) % 65536 ≡ word_of z
unfolding word_of
word_of_raised (pos n) h = omega arith
word_of_raised (negsuc n) h = omega arith

-- every word's integer is in range
module _ (w : ℕ) (h : w < 65536) where
  half_mag : Dec (w < 32768) → mag (value_of w) ≤ largest_integer
  unfolding value_of when◌then◌else◌
  half_mag (yes l) = rw (lt-ltb w 32768 l) (omega arith)
  half_mag (no n) = rw (le-ltb w 32768 (omega arith)) (omega arith)

  pub value_mag : mag (value_of w) ≤ largest_integer
  value_mag = half_mag (dec_lt w 32768)

  -- what the machine reads of it
  pub value_fits : SFits w32 (value_of w)
  value_fits = fits 65536 (let g = value_mag in omega arith) (omega arith)

  pub read_value : {z : ℤ} → z ≡ value_of w → to_z w32 (of_z w32 z) ≡ value_of w
  read_value e = reads e value_fits
