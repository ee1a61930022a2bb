-- Rule 14 on worked chains (02, M-101): 24 classes are right and 25 are not, nor is one that goes round.
use Prim.Native.Nat.{ℕ, zero, suc, ◌+◌, ◌*◌}
use mathlib.Core.Path.{◌≡◌, refl}
use mathlib.Core.Bool.{true, false}
use mathlib.Core.List.{List, [], ◌∷◌, ◌++◌}
use Rattle.model.specs.Limits.{fields_kind, class_kind, class_words}
use Rattle.model.specs.Word.{is_pointer, pointer}
use Rattle.model.specs.Objects.{Objects, is_kind}
use Rattle.model.specs.Lookup.{ends_within}
use Rattle.model.specs.Rules.{chain_fine, rule14}

-- k classes from object i + 1 on: each names the next as its superclass, and the last has this superclass word.
entries_from : ℕ → ℕ → List ℕ
entries_from i zero = []
entries_from i (suc k) = 2 ∷ class_kind ∷ class_words * i ∷ class_words ∷ entries_from (suc i) k

bodies_from : ℕ → ℕ → ℕ → List ℕ
bodies_from last i zero = []
bodies_from last i (suc zero) = last ∷ 1 ∷ 1 ∷ 1 ∷ []
bodies_from last i (suc (suc k)) = pointer (i + 2) ∷ 1 ∷ 1 ∷ 1 ∷ bodies_from last (suc i) (suc k)

-- They are the objects 1 to k; behind them stands one of kind 0.
classes : ℕ → ℕ → Objects
classes last k =
    record { n = suc k; b = class_words * k; contents = entries_from 0 k ++ (2 ∷ fields_kind ∷ class_words * k ∷ 0 ∷ []); bodies = bodies_from last 0 k }

record Chains : Type 0 where
  of_24 : rule14 (classes 1 24) ≡ true
  of_25 : rule14 (classes 1 25) ≡ false
  -- the word behind the last class names an object of another kind
  to_other : rule14 (classes (pointer 25) 24) ≡ true
  to_itself : rule14 (classes (pointer 1) 1) ≡ false
  round : rule14 (classes (pointer 1) 20) ≡ false
  -- a chain into a circle of the last two
  into_circle : rule14 (classes (pointer 9) 10) ≡ false

chains : Chains
unfolding rule14 chain_fine ends_within is_kind is_pointer classes entries_from bodies_from
chains = record { of_24 = refl; of_25 = refl; to_other = refl; to_itself = refl; round = refl; into_circle = refl }
