-- A choice whose test is decided. `search ranges` proves a definition by ranges at a number whose range is known.
use Prim.Native.Nat.{ℕ, zero, suc, ◌+◌, ◌<◌, ◌≤◌}
use mathlib.Core.Path.{◌≡◌, refl}
use mathlib.Core.Bool.{Bool, true, false}
use native.Mathlib.Omega.{arith}
use lib.Dec.{ltb, leb, eqb}
use borrow.Author.Tests.{lt-ltb, le-ltb, le-leb, lt-leb, eq-eqb, ne_eqb}
use Rattle.bytecode.specs.Test.{when◌then◌else◌}

pub if_yes : {A : Type 0} {t : Bool} (x y : A) → t ≡ true → (when t then x else y) ≡ x
unfolding when◌then◌else◌
if_yes x y e = rw e

pub if_no : {A : Type 0} {t : Bool} (x y : A) → t ≡ false → (when t then x else y) ≡ y
unfolding when◌then◌else◌
if_no x y e = rw e

pub if_lt : {A : Type 0} (a b : ℕ) (x y : A) → a < b → (when ltb a b then x else y) ≡ x
if_lt a b x y h = if_yes x y (lt-ltb a b h)

pub if_ge : {A : Type 0} (a b : ℕ) (x y : A) → b ≤ a → (when ltb a b then x else y) ≡ y
if_ge a b x y h = if_no x y (le-ltb a b h)

pub if_le : {A : Type 0} (a b : ℕ) (x y : A) → a ≤ b → (when leb a b then x else y) ≡ x
if_le a b x y h = if_yes x y (le-leb a b h)

pub if_gt : {A : Type 0} (a b : ℕ) (x y : A) → b < a → (when leb a b then x else y) ≡ y
if_gt a b x y h = if_no x y (lt-leb a b h)

pub if_eq : {A : Type 0} (a b : ℕ) (x y : A) → a ≡ b → (when eqb a b then x else y) ≡ x
if_eq a b x y h = if_yes x y (eq-eqb a b h)

pub if_ne : {A : Type 0} (a b : ℕ) (x y : A) → (a ≡ b → ⊥) → (when eqb a b then x else y) ≡ y
if_ne a b x y h = if_no x y (ne_eqb a b h)

pub ruleset ranges = (if_lt, if_ge, if_le, if_gt, if_eq, if_ne)

-- a number from k on that is none of k, k + 1, .., k + n − 1: what the last arm of a `match` on numbers knows
abbrev pub NoneOf : ℕ → ℕ → ℕ → Type 0
NoneOf k zero b = Unit {0}
NoneOf k (suc n) b = NoneOf k n b × (b ≡ k + n → ⊥)

pub past : (k n b : ℕ) → k ≤ b → NoneOf k n b → k + n ≤ b
past k zero b h t = omega arith
past k (suc n) b h t = next (past k n b h t.0) t.1
  where
    next : k + n ≤ b → (b ≡ k + n → ⊥) → k + suc n ≤ b
    next l d = omega arith

pub if_same : {A : Type 0} (t : Bool) (x : A) → (when t then x else x) ≡ x
unfolding when◌then◌else◌
if_same true x = refl
if_same false x = refl

-- what holds of both values, each where it is chosen
pub if_cases : {A : Type 0} (P : A → Type 0) (t : Bool) (x y : A) → (t ≡ true → P x) → (t ≡ false → P y) → P (when t then x else y)
unfolding when◌then◌else◌
if_cases P true x y f g = f refl
if_cases P false x y f g = g refl

pub if_either : {A : Type 0} (P : A → Type 0) (t : Bool) (x y : A) → P x → P y → P (when t then x else y)
unfolding when◌then◌else◌
if_either P true x y p q = p
if_either P false x y p q = q

-- the same choice of values that are equal where they are chosen
pub if_alike : {A : Type 0} (t : Bool) {x y x' y' : A} → (t ≡ true → x ≡ x') → (t ≡ false → y ≡ y') → (when t then x else y) ≡ (when t then x' else y')
unfolding when◌then◌else◌
if_alike true f g = f refl
if_alike false f g = g refl
