-- Tests in an order: what passes them all, the number of the first that fails; and the order of the rules of the objects.
use Prim.Native.Nat.{ℕ, ◌≤◌}
use mathlib.Core.Path.{◌≡◌, refl, subst}
use mathlib.Core.Bool.{Bool, true, false}
use mathlib.Core.List.{List, [], ◌∷◌}
use native.Mathlib.Omega.{arith}
use lib.Dec.{T}
use Rattle.bytecode.specs.Test.{all_of}
use Rattle.bytecode.proofs.TestLaws.{and_both}
use Rattle.model.specs.Objects.{Objects}
use Rattle.model.specs.Rules.{rule4, rule5, rule14, rule6, rule7, rule8}
use Rattle.model.specs.Image.{Room, Verdict, accepted, refused, unless, ◌then◌, in_order, tests_of, objects_verdict, load_tests, load_verdict}

refused_not : (k : ℕ) → refused k ≡ accepted → ⊥
refused_not k e = subst is_refused e tt
  where
    is_refused : Verdict → Type 0
    is_refused accepted = ⊥
    is_refused (refused j) = Unit {0}

-- the first test of an order that accepts, and the rest of it
passed : (b : Bool) (k : ℕ) (v : Verdict) → (unless b k then v) ≡ accepted → T b × (v ≡ accepted)
passed true k v e = (tt, e)
passed false k v e = absurd (refused_not k e)

pub accepted→all : (ts : List (Bool × ℕ)) → in_order ts ≡ accepted → T (all_of (tests_of ts))
accepted→all [] e = tt
accepted→all (t ∷ ts) e = let p = passed t.0 t.1 (in_order ts) e in and_both t.0 (all_of (tests_of ts)) p.0 (accepted→all ts p.1)

pub all→accepted : (ts : List (Bool × ℕ)) → T (all_of (tests_of ts)) → in_order ts ≡ accepted
all→accepted [] t = refl
all→accepted ((true, k) ∷ ts) t = all→accepted ts t
all→accepted ((false, k) ∷ ts) t = absurd t

-- A verdict's number, if it refuses, has what every number of its order has.
abbrev pub Refuses : (ℕ → Type 0) → Verdict → Type 0
Refuses P accepted = Unit {0}
Refuses P (refused k) = P k

abbrev pub Numbers : (ℕ → Type 0) → List (Bool × ℕ) → Type 0
Numbers P [] = Unit {0}
Numbers P (t ∷ ts) = P t.1 × Numbers P ts

pub next_number : (P : ℕ → Type 0) (b : Bool) (k : ℕ) (v : Verdict) → P k → Refuses P v → Refuses P (unless b k then v)
next_number P true k v p r = r
next_number P false k v p r = p

pub last_number : (P : ℕ → Type 0) (b : Bool) (k : ℕ) → P k → Refuses P (unless b k)
last_number P true k p = tt
last_number P false k p = p

pub number_of_lem : (P : ℕ → Type 0) (ts : List (Bool × ℕ)) → Numbers P ts → Refuses P (in_order ts)
number_of_lem P [] n = tt
number_of_lem P (t ∷ ts) n = next_number P t.0 t.1 (in_order ts) n.0 (number_of_lem P ts n.1)

-- The rules of the objects: 4, 5, 14, 6, 7, 8
module _ (e : ℕ) (o : Objects) (receiver selector : ℕ) where
  pub gives_4 : rule4 e o ≡ false → objects_verdict e o receiver selector ≡ refused 4
  unfolding objects_verdict
  gives_4 four = rw four

  pub gives_5 : rule4 e o ≡ true → rule5 e o ≡ false → objects_verdict e o receiver selector ≡ refused 5
  unfolding objects_verdict
  gives_5 four five = rw (four, five)

  pub gives_14 : rule4 e o ≡ true → rule5 e o ≡ true → rule14 o ≡ false → objects_verdict e o receiver selector ≡ refused 14
  unfolding objects_verdict
  gives_14 four five chains = rw (four, five, chains)

  pub gives_6 : rule4 e o ≡ true → rule5 e o ≡ true → rule14 o ≡ true → rule6 e o ≡ false → objects_verdict e o receiver selector ≡ refused 6
  unfolding objects_verdict
  gives_6 four five chains six = rw (four, five, chains, six)

  pub gives_7 : rule4 e o ≡ true → rule5 e o ≡ true → rule14 o ≡ true → rule6 e o ≡ true → rule7 e o ≡ false
      → objects_verdict e o receiver selector ≡ refused 7
  unfolding objects_verdict
  gives_7 four five chains six seven = rw (four, five, chains, six, seven)

  pub gives_8 : rule4 e o ≡ true → rule5 e o ≡ true → rule14 o ≡ true → rule6 e o ≡ true → rule7 e o ≡ true → rule8 o receiver selector [] ≡ false
      → objects_verdict e o receiver selector ≡ refused 8
  unfolding objects_verdict
  gives_8 four five chains six seven eight = rw (four, five, chains, six, seven, eight)

  pub gives_none : rule4 e o ≡ true → rule5 e o ≡ true → rule14 o ≡ true → rule6 e o ≡ true → rule7 e o ≡ true → rule8 o receiver selector [] ≡ true
      → objects_verdict e o receiver selector ≡ accepted
  unfolding objects_verdict
  gives_none four five chains six seven eight = rw (four, five, chains, six, seven, eight)

-- no refusal of load has number 0
abbrev pub Positive : Verdict → Type 0
Positive = Refuses (λ k. 1 ≤ k)

pub load_positive : (room : Room) (bytes : List ℕ) → Positive (load_verdict room bytes)
unfolding load_verdict
load_positive room bytes =
    number_of_lem (λ k. 1 ≤ k) (load_tests room bytes)
    (omega arith, (omega arith, (omega arith, (omega arith, (omega arith, (omega arith, (omega arith, (omega arith, (omega arith, tt)))))))))

-- each test of load that accepts
pub load_passes : (room : Room) (bytes : List ℕ) → load_verdict room bytes ≡ accepted → T (all_of (tests_of (load_tests room bytes)))
unfolding load_verdict
load_passes room bytes e = accepted→all (load_tests room bytes) e
