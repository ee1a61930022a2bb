-- A list of marks, 0 for none: each new mark leaves one place less without.
use Prim.Native.Nat.{ℕ, zero, suc, ◌<◌}
use mathlib.Core.Path.{◌≡◌, refl, ap}
use mathlib.Core.List.{List, [], ◌∷◌}
use native.Mathlib.Omega.{arith}
use lib.ListN.{length, get_or, set, replicate}

abbrev pub blanks : ℕ → List ℕ
blanks n = replicate n 0

pub blank : (n p : ℕ) → get_or (blanks n) p 0 ≡ 0
blank zero p = refl
blank (suc n) zero = refl
blank (suc n) (suc p) = blank n p

-- how many places have no mark
unfoldable pub zeros : List ℕ → ℕ
zeros [] = 0
zeros (zero ∷ xs) = suc (zeros xs)
zeros (suc k ∷ xs) = zeros xs

pub zeros_set : (t : List ℕ) (p d : ℕ) → p < length t → get_or t p 0 ≡ 0 → suc (zeros (set t p (suc d))) ≡ zeros t
unfolding zeros
zeros_set [] p d h e = absurd (omega arith)
zeros_set (zero ∷ xs) zero d h e = refl
zeros_set (suc k ∷ xs) zero d h e = absurd (omega arith)
zeros_set (zero ∷ xs) (suc p) d h e = ap suc (zeros_set xs p d (omega arith) e)
zeros_set (suc k ∷ xs) (suc p) d h e = zeros_set xs p d (omega arith) e

pub zeros_blank : (n : ℕ) → zeros (blanks n) ≡ n
unfolding zeros
zeros_blank zero = refl
zeros_blank (suc n) = ap suc (zeros_blank n)
