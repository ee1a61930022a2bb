-- Tests that compute: a choice, and a test of every number, element or rule. They render no sentence of 01 by themselves.
use Rattle.std.specs.Prelude.{ℕ, zero, suc, Bool, true, false, ◌&&◌, List, [], ◌∷◌}

infix 2 when◌then◌else◌
-- It stays a call where the test is open, so that lemmas find it. Both values are computed before the choice: a branch that recurs
-- is a clause of a function instead.
unfoldable pub when◌then◌else◌ : {A : Type 0} → Bool → A → A → A
when true then a else b = a
when false then a else b = b

-- the test holds at 1, 2, .., n
abbrev pub up_to : ℕ → (ℕ → Bool) → Bool
up_to zero f = true
up_to (suc n) f = f (suc n) && up_to n f

-- the test holds at 0, 1, .., n − 1
abbrev pub below : ℕ → (ℕ → Bool) → Bool
below zero f = true
below (suc n) f = f n && below n f

abbrev pub every : {A : Type 0} → (A → Bool) → List A → Bool
every f [] = true
every f (x ∷ xs) = f x && every f xs

-- the rule is asked only where the condition holds
abbrev pub implies : Bool → Bool → Bool
implies true b = b
implies false b = true

-- every rule of a list holds
abbrev pub all_of : List Bool → Bool
all_of [] = true
all_of (b ∷ bs) = b && all_of bs
