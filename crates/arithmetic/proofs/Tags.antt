-- The signed numbers of integers' words: their sums, differences and order are those of the integers.
use Prim.Native.Nat.{ℕ, zero, suc, ◌+◌, ◌-◌, ◌*◌, ◌%◌, ◌<◌, ◌≤◌}
use mathlib.Core.Path.{◌≡◌, refl, sym, subst, ap, ◌∙◌}
use native.Mathlib.Omega.{arith}
use native.Mathlib.Decide.{dec_lt}
use borrow.Author.Tests.{lt-ltb, le-ltb, le-leb, lt-leb}
use lib.Dec.{leb, ltb}
use lib.IntN.{ℤ, pos, negsuc, neg_ℤ, ◌+ℤ◌, ◌-ℤ◌, +ℤ_comm, +ℤ_assoc}
use lib.Signed.{mag, lt_z, le_z}
use mir.Syntax.{w32}
use mir.Val.{SFits, to_z, of_z}
use Rattle.bytecode.specs.Test.{when◌then◌else◌}
use Rattle.std.specs.Prelude.{Some, None}
use Rattle.model.specs.Limits.{largest_integer}
use Rattle.model.specs.Word.{value_of, word_of}
use Rattle.model.specs.Arithmetic.{number}
use Rattle.arithmetic.specs.Tagged.{tagged}
use Rattle.arithmetic.proofs.Machine.{reads}
use Rattle.arithmetic.proofs.Values.{value_mag}
use Rattle.arithmetic.proofs.Magnitude.{fits, sum_mag, difference_mag}
use Rattle.arithmetic.proofs.Ranges.{in_range, out_of_range}

-- ---- a word

abbrev pub raised_signed : ℕ → ℕ
raised_signed w = (w + 32768) % 65536

module _ (w : ℕ) (h : w < 65536) (odd : w % 2 ≡ 1) where
  by_half : Dec (w < 32768) → pos (raised_signed w) -ℤ pos 32768 ≡ tagged (value_of w)
  unfolding tagged value_of when◌then◌else◌
  by_half (yes l) = let g : 32768 ≤ raised_signed w = omega arith in rw (le-ltb (raised_signed w) 32768 g, lt-ltb w 32768 l) (ap pos (omega arith))
  by_half (no n) = let g : raised_signed w < 32768 = omega arith in rw (lt-ltb (raised_signed w) 32768 g, le-ltb w 32768 (omega arith)) (ap negsuc (omega arith))

  pub signed_word : pos (raised_signed w) -ℤ pos 32768 ≡ tagged (value_of w)
  signed_word = by_half (dec_lt w 32768)

tagged_mag : (z : ℤ) → mag z ≤ largest_integer → mag (tagged z) ≤ 32767
unfolding tagged
tagged_mag (pos n) h = omega arith
tagged_mag (negsuc n) h = omega arith

module _ (w : ℕ) (h : w < 65536) where
  pub signed_mag : mag (tagged (value_of w)) ≤ 32767
  signed_mag = tagged_mag (value_of w) (value_mag w h)

  -- what the machine reads of it
  pub read_signed : {z : ℤ} → z ≡ tagged (value_of w) → to_z w32 (of_z w32 z) ≡ tagged (value_of w)
  read_signed e = reads e (fits 32767 signed_mag (omega arith))

-- ---- sum and difference

module _ (a b : ℤ) (ha : mag a ≤ 32767) (hb : mag b ≤ 32767) where
  pub signed_sum : SFits w32 (a +ℤ b)
  signed_sum = let h = sum_mag a b in fits 65536 (omega arith) (omega arith)

  pub sum_less : SFits w32 (a +ℤ b -ℤ pos 1)
  sum_less = let h = sum_mag a b in let g = difference_mag (a +ℤ b) (pos 1) in fits 131072 (omega arith) (omega arith)

  pub signed_difference : SFits w32 (a -ℤ b)
  signed_difference = let h = difference_mag a b in fits 65536 (omega arith) (omega arith)

  pub difference_more : SFits w32 (a -ℤ b +ℤ pos 1)
  difference_more = let h = difference_mag a b in let g = sum_mag (a -ℤ b) (pos 1) in fits 131072 (omega arith) (omega arith)

-- a positive and a negative integer
module _ (a b : ℕ) where
  apart : Dec (a < b) → Dec (b < a) → tagged (pos a) +ℤ tagged (negsuc b) -ℤ pos 1 ≡ tagged (pos a +ℤ negsuc b)
  unfolding tagged
  apart (yes l) d =
      rw (lt-ltb (suc (2 * a)) (suc (2 * b)) (omega arith), lt-ltb a (suc b) (omega arith)) (ap negsuc (omega arith))
  apart (no n) (yes g) =
      rw (le-ltb (suc (2 * a)) (suc (2 * b)) (omega arith), le-ltb a (suc b) (omega arith))
      (let k : 1 ≤ suc (2 * a) - suc (2 * b) = omega arith in rw (le-ltb (suc (2 * a) - suc (2 * b)) 1 k) (ap pos (omega arith)))
  apart (no n) (no g) =
      rw (le-ltb (suc (2 * a)) (suc (2 * b)) (omega arith), lt-ltb a (suc b) (omega arith))
      (let k : suc (2 * a) - suc (2 * b) < 1 = omega arith in rw (lt-ltb (suc (2 * a) - suc (2 * b)) 1 k) (ap negsuc (omega arith)))

pub tagged_sum : (a b : ℤ) → tagged a +ℤ tagged b -ℤ pos 1 ≡ tagged (a +ℤ b)
unfolding tagged
tagged_sum (pos a) (pos b) = rw (le-ltb (suc (2 * a) + suc (2 * b)) 1 (omega arith)) (ap pos (omega arith))
tagged_sum (pos a) (negsuc b) = apart a b (dec_lt a b) (dec_lt b a)
tagged_sum (negsuc a) (pos b) = ap (λ (z : ℤ). z -ℤ pos 1) (+ℤ_comm (tagged (negsuc a)) (tagged (pos b))) ∙ apart b a (dec_lt b a) (dec_lt a b) ∙ ap tagged (+ℤ_comm (pos b) (negsuc a))
tagged_sum (negsuc a) (negsuc b) = ap negsuc (omega arith)

tagged_neg : (b : ℤ) → tagged (neg_ℤ b) ≡ neg_ℤ (tagged b) +ℤ pos 2
unfolding tagged
tagged_neg (pos zero) = refl
tagged_neg (pos (suc n)) = rw (lt-ltb 2 (suc (2 * suc n)) (omega arith)) (ap negsuc (omega arith))
tagged_neg (negsuc n) = ap pos (omega arith)

pub tagged_difference : (a b : ℤ) → tagged a -ℤ tagged b +ℤ pos 1 ≡ tagged (a -ℤ b)
tagged_difference a b =
    sym (+ℤ_assoc (tagged a -ℤ tagged b) (pos 2) (negsuc 0))
    ∙ ap (λ (z : ℤ). z -ℤ pos 1) (+ℤ_assoc (tagged a) (neg_ℤ (tagged b)) (pos 2) ∙ ap (λ (z : ℤ). tagged a +ℤ z) (sym (tagged_neg b)))
    ∙ tagged_sum a (neg_ℤ b)

-- ---- order

module _ (a b c d : ℕ) (up : a < b → c < d) (down : b ≤ a → d ≤ c) where
  lt_by : Dec (a < b) → ltb c d ≡ ltb a b
  lt_by (yes l) = rw (lt-ltb a b l, lt-ltb c d (up l))
  lt_by (no n) = let g : b ≤ a = omega arith in rw (le-ltb a b g, le-ltb c d (down g))

  same_lt : ltb c d ≡ ltb a b
  same_lt = lt_by (dec_lt a b)

  le_by : Dec (a < b) → leb d c ≡ leb b a
  le_by (yes l) = rw (lt-leb b a l, lt-leb d c (up l))
  le_by (no n) = let g : b ≤ a = omega arith in rw (le-leb b a g, le-leb d c (down g))

  same_le : leb d c ≡ leb b a
  same_le = le_by (dec_lt a b)

pub tagged_less : (a b : ℤ) → lt_z (tagged a) (tagged b) ≡ lt_z a b
unfolding tagged
tagged_less (pos a) (pos b) = same_lt a b (suc (2 * a)) (suc (2 * b)) (λ l. omega arith) (λ l. omega arith)
tagged_less (pos a) (negsuc b) = refl
tagged_less (negsuc a) (pos b) = refl
tagged_less (negsuc a) (negsuc b) = same_lt b a (2 * b) (2 * a) (λ l. omega arith) (λ l. omega arith)

pub tagged_most : (a b : ℤ) → le_z (tagged a) (tagged b) ≡ le_z a b
unfolding tagged
tagged_most (pos a) (pos b) = same_le b a (suc (2 * b)) (suc (2 * a)) (λ l. omega arith) (λ l. omega arith)
tagged_most (pos a) (negsuc b) = refl
tagged_most (negsuc a) (pos b) = refl
tagged_most (negsuc a) (negsuc b) = same_le a b (2 * a) (2 * b) (λ l. omega arith) (λ l. omega arith)

-- ---- the word of a signed number

pub fit_outside : (a : ℤ) → 32767 < mag (tagged a) → number a ≡ None
unfolding tagged
fit_outside (pos n) h = out_of_range (pos n) (omega arith)
fit_outside (negsuc n) h = out_of_range (negsuc n) (omega arith)

abbrev pub wrap : ℤ → ℕ
wrap (pos n) = n + 65536
wrap (negsuc n) = 65536 - suc n

pub wrapped : (z : ℤ) → mag z ≤ 32767 → z +ℤ pos 65536 ≡ pos (wrap z)
wrapped (pos n) h = refl
wrapped (negsuc n) h = rw (le-ltb 65536 (suc n) (omega arith))

pub wrap_below : (z : ℤ) → mag z ≤ 32767 → wrap z < 131072
wrap_below (pos n) h = omega arith
wrap_below (negsuc n) h = omega arith

fit_within : (a : ℤ) → mag (tagged a) ≤ 32767 → Some (wrap (tagged a) % 65536) ≡ number a
unfolding tagged word_of
fit_within (pos n) h = ap Some (omega arith) ∙ sym (in_range (pos n) (omega arith))
fit_within (negsuc n) h = ap Some (omega arith) ∙ sym (in_range (negsuc n) (omega arith))

pub fitted : {z : ℤ} (a : ℤ) → z ≡ tagged a → mag z ≤ 32767 → Some (wrap z % 65536) ≡ number a
fitted a e h = ap (λ (x : ℤ). Some (wrap x % 65536)) e ∙ fit_within a (subst (λ (x : ℤ). mag x ≤ 32767) e h)
