-- Loops over numbered tests: what a turn adds, where all passed, where one fails.
use Prim.Native.Nat.{ℕ, ◌+◌, ◌≤◌, ◌<◌}
use mathlib.Core.Path.{◌≡◌, refl, sym, ap, subst}
use mathlib.Core.Bool.{Bool, true, false, ◌&&◌}
use native.Mathlib.Omega.{arith}
use native.Mathlib.Decide.{ℕ_discrete}
use lib.Dec.{T}
use Rattle.bytecode.specs.Test.{up_to, below}
use Rattle.bytecode.proofs.TestLaws.{true→T, T→true, never, up_to_at, at_up_to, below_at, at_below}

-- a test that failed did not pass
pub failed : {b : Bool} → b ≡ false → T b → ⊥
failed e t = subst T e t

-- passed at 1 to k − 1, or at 0 to k − 1
abbrev pub UpBefore : (ℕ → Bool) → ℕ → Type 0
UpBefore f k = (j : ℕ) → 1 ≤ j → j < k → T (f j)

abbrev pub Before : (ℕ → Bool) → ℕ → Type 0
Before f k = (j : ℕ) → j < k → T (f j)

next : (f : ℕ → Bool) (k j : ℕ) → f k ≡ true → (j < k → T (f j)) → j < k + 1 → Dec (j ≡ k) → T (f j)
next f k j e h l (yes q) = subst (λ (i : ℕ). T (f i)) (sym q) (true→T e)
next f k j e h l (no q) = h (omega arith)

pub up_none : (f : ℕ → Bool) → UpBefore f 1
up_none f j h l = absurd (omega arith)

pub up_more : (f : ℕ → Bool) (k : ℕ) → UpBefore f k → f k ≡ true → UpBefore f (k + 1)
up_more f k h e j a l = next f k j e (h j a) l (ℕ_discrete j k)

pub up_all : (n k : ℕ) (f : ℕ → Bool) → n < k → UpBefore f k → up_to n f ≡ true
up_all n k f l h = T→true (up_to n f) (at_up_to n f (λ j a b. h j a (omega arith)))

pub up_no : (n : ℕ) (f : ℕ → Bool) (k : ℕ) → 1 ≤ k → k ≤ n → f k ≡ false → up_to n f ≡ false
up_no n f k h g e = never (up_to n f) (λ t. failed e (up_to_at n f t k h g))

pub before_none : (f : ℕ → Bool) → Before f 0
before_none f j l = absurd (omega arith)

pub before_more : (f : ℕ → Bool) (k : ℕ) → Before f k → f k ≡ true → Before f (k + 1)
before_more f k h e j l = next f k j e (h j) l (ℕ_discrete j k)

pub below_all : (n k : ℕ) (f : ℕ → Bool) → n ≤ k → Before f k → below n f ≡ true
below_all n k f l h = T→true (below n f) (at_below n f (λ j a. h j (omega arith)))

pub below_no : (n : ℕ) (f : ℕ → Bool) (k : ℕ) → k < n → f k ≡ false → below n f ≡ false
below_no n f k h e = never (below n f) (λ t. failed e (below_at n f t k h))

pub and_true : (b : Bool) → (b && true) ≡ b
and_true true = refl
and_true false = refl

pub stop : (a b : Bool) → a ≡ false → (a && b) ≡ false
stop a b e = ap (λ (x : Bool). x && b) e

pub pass : (a b : Bool) → a ≡ true → (a && b) ≡ b
pass a b e = ap (λ (x : Bool). x && b) e
