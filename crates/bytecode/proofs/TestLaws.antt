-- What the tests of specs/Test.antt say, as statements.
use Prim.Native.Nat.{ℕ, zero, suc, ◌≤◌, ◌<◌}
use mathlib.Core.Path.{◌≡◌, refl, sym, subst}
use mathlib.Core.Bool.{Bool, true, false, ◌&&◌, ◌||◌}
use mathlib.Core.Logic.{◌⊎◌, inl, inr}
use mathlib.Core.List.{List, [], ◌∷◌}
use native.Mathlib.Omega.{arith}
use native.Mathlib.Decide.{ℕ_discrete}
use lib.Dec.{T}
use lib.ListN.{get_or, length}
use Rattle.bytecode.specs.Test.{up_to, below, every, implies, all_of}

pub true→T : {b : Bool} → b ≡ true → T b
true→T e = subst T (sym e) tt

pub T→true : (b : Bool) → T b → b ≡ true
T→true true t = refl
T→true false t = absurd t

-- a test that cannot pass
pub never : (b : Bool) → (T b → ⊥) → b ≡ false
never true f = absurd (f tt)
never false f = refl

pub and_left : (a b : Bool) → T (a && b) → T a
and_left true b t = tt
and_left false b t = t

pub and_right : (a b : Bool) → T (a && b) → T b
and_right true b t = t
and_right false b t = absurd t

pub and_both : (a b : Bool) → T a → T b → T (a && b)
and_both true b s t = t
and_both false b s t = s

pub or_cases : (a b : Bool) → T (a || b) → T a ⊎ T b
or_cases true b t = inl tt
or_cases false b t = inr t

pub implied : (a b : Bool) → T (implies a b) → T a → T b
implied true b t s = t
implied false b t s = absurd s

-- rule k (from 0) of a list of rules, and all of them from each
pub rule : (bs : List Bool) → T (all_of bs) → (k : ℕ) → T (get_or bs k true)
rule [] t k = tt
rule (b ∷ bs) t zero = and_left b (all_of bs) t
rule (b ∷ bs) t (suc k) = rule bs (and_right b (all_of bs) t) k

abbrev pub Each : List Bool → Type 0
Each [] = Unit {0}
Each (b ∷ bs) = T b × Each bs

pub rules : (bs : List Bool) → Each bs → T (all_of bs)
rules [] t = tt
rules (b ∷ bs) t = and_both b (all_of bs) t.0 (rules bs t.1)

-- a test of a range of numbers, at each of them
at_last : (n : ℕ) (f : ℕ → Bool) (k : ℕ) → T (f n) → (k < n → T (f k)) → k ≤ n → Dec (k ≡ n) → T (f k)
at_last n f k t ih g (yes e) = subst (λ (i : ℕ). T (f i)) (sym e) t
at_last n f k t ih g (no d) = ih (omega arith)

pub up_to_at : (n : ℕ) (f : ℕ → Bool) → T (up_to n f) → (k : ℕ) → 1 ≤ k → k ≤ n → T (f k)
up_to_at zero f t k h g = absurd (omega arith)
up_to_at (suc n) f t k h g =
    at_last (suc n) f k (and_left (f (suc n)) (up_to n f) t) (λ l. up_to_at n f (and_right (f (suc n)) (up_to n f) t) k h (omega arith)) g (ℕ_discrete k (suc n))

pub at_up_to : (n : ℕ) (f : ℕ → Bool) → ((k : ℕ) → 1 ≤ k → k ≤ n → T (f k)) → T (up_to n f)
at_up_to zero f h = tt
at_up_to (suc n) f h = and_both (f (suc n)) (up_to n f) (h (suc n) (omega arith) (omega arith)) (at_up_to n f (λ k a b. h k a (omega arith)))

pub below_at : (n : ℕ) (f : ℕ → Bool) → T (below n f) → (k : ℕ) → k < n → T (f k)
below_at zero f t k h = absurd (omega arith)
below_at (suc n) f t k h =
    at_last n f k (and_left (f n) (below n f) t) (λ l. below_at n f (and_right (f n) (below n f) t) k l) (omega arith) (ℕ_discrete k n)

pub at_below : (n : ℕ) (f : ℕ → Bool) → ((k : ℕ) → k < n → T (f k)) → T (below n f)
at_below zero f h = tt
at_below (suc n) f h = and_both (f n) (below n f) (h n (omega arith)) (at_below n f (λ k a. h k (omega arith)))

-- a test of every element of a list
pub every_at : (f : ℕ → Bool) (l : List ℕ) → T (every f l) → (k : ℕ) → k < length l → T (f (get_or l k 0))
every_at f [] t k h = absurd (omega arith)
every_at f (x ∷ xs) t zero h = and_left (f x) (every f xs) t
every_at f (x ∷ xs) t (suc k) h = every_at f xs (and_right (f x) (every f xs) t) k (omega arith)

pub at_every : (f : ℕ → Bool) (l : List ℕ) → ((k : ℕ) → k < length l → T (f (get_or l k 0))) → T (every f l)
at_every f [] h = tt
at_every f (x ∷ xs) h = and_both (f x) (every f xs) (h 0 (omega arith)) (at_every f xs (λ k a. h (suc k) (omega arith)))
