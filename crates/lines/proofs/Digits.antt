-- The decimal digits of a number: one digit, or those of its tenth and one more; and how many there are.
use Prim.Native.Nat.{ℕ, zero, suc, ◌+◌, ◌/◌, ◌%◌, ◌^◌, ◌≤◌, ◌<◌}
use mathlib.Core.Path.{◌≡◌, ap, ◌∙◌}
use mathlib.Core.List.{List, [], ◌∷◌, ◌++◌}
use Rattle.bytecode.specs.Test.{when◌then◌else◌}
use native.Mathlib.Omega.{arith}
use native.Mathlib.Decide.{dec_lt}
use borrow.Author.Tests.{lt-ltb, le-ltb}
use lib.ListN.{length, length-append}
use Rattle.plain.specs.Text.{digits, decimal}

-- fuel above the number is enough
same_digits : (f g n : ℕ) → n < f → n < g → digits f n ≡ digits g n
unfolding digits when◌then◌else◌
same_digits zero g n h k = absurd (omega arith)
same_digits (suc f) zero n h k = absurd (omega arith)
same_digits (suc f) (suc g) n h k = go (same_digits f g (n / 10)) (dec_lt n 10)
  where
    go : (n / 10 < f → n / 10 < g → digits f (n / 10) ≡ digits g (n / 10)) → Dec (n < 10) → digits (suc f) n ≡ digits (suc g) n
    go e (yes l) = simp (lt-ltb n 10 l)
    go e (no l) = simp (le-ltb n 10 (omega arith)) (ap (λ (ds : List ℕ). ds ++ ((48 + n % 10) ∷ [])) (e (omega arith) (omega arith)))

pub one_digit : (n : ℕ) → n < 10 → decimal n ≡ (48 + n) ∷ []
unfolding decimal digits when◌then◌else◌
one_digit n h = simp (lt-ltb n 10 h)

pub more_digits : (n : ℕ) → 10 ≤ n → decimal n ≡ decimal (n / 10) ++ ((48 + n % 10) ∷ [])
unfolding decimal digits when◌then◌else◌
more_digits n h =
    simp (le-ltb n 10 h) (ap (λ (ds : List ℕ). ds ++ ((48 + n % 10) ∷ [])) (same_digits n (suc (n / 10)) (n / 10) (omega arith) (omega arith)))

pub length_more : (n : ℕ) → 10 ≤ n → length (decimal n) ≡ length (decimal (n / 10)) + 1
length_more n h = ap (λ (ds : List ℕ). length ds) (more_digits n h) ∙ length-append (decimal (n / 10)) ((48 + n % 10) ∷ [])

-- a number below 10 ^ (k + 1) has at most k + 1 digits
pub most_digits : (k n : ℕ) → n < 10 ^ suc k → length (decimal n) ≤ suc k
most_digits zero n h = let e = ap (λ (ds : List ℕ). length ds) (one_digit n h) in omega arith
most_digits (suc k) n h = go (most_digits k (n / 10)) (dec_lt n 10)
  where
    go : (n / 10 < 10 ^ suc k → length (decimal (n / 10)) ≤ suc k) → Dec (n < 10) → length (decimal n) ≤ suc (suc k)
    go e (yes l) = let o = ap (λ (ds : List ℕ). length ds) (one_digit n l) in omega arith
    go e (no l) = let o = length_more n (omega arith) in let m = e (omega arith) in omega arith

pub word_digits : (n : ℕ) → n < 2 ^ 16 → length (decimal n) ≤ 5
word_digits n h = most_digits 4 n (omega arith)

pub count_digits : (n : ℕ) → n < 2 ^ 32 → length (decimal n) ≤ 10
count_digits n h = most_digits 9 n (omega arith)
