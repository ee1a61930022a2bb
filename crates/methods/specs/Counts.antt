-- The argument count under each selector, in a list over object numbers: 0 where no dictionary has the selector, else one more than the
-- count of the methods under it.
use Rattle.std.specs.Prelude.{ℕ, suc, ◌<◌, ◌≡◌, Bool, true, false, ◌⊎◌, List, T, get_or, set}
use Rattle.model.specs.Limits.{class_kind}
use Rattle.model.specs.Word.{pointer, object_number}
use Rattle.model.specs.Objects.{Objects, is_kind, dictionary_word, pair_count, pair_selector, pair_method}
use Rattle.model.specs.Method.{home, argument_count}
use Rattle.methods.specs.Passes.{holders}

-- a pair of a class's dictionary, with this selector and a method of this count
pub record Counted (o : Objects) (selector count : ℕ) : Type 0 where
  pub class : ℕ
  pub index : ℕ
  pub is_class : T (is_kind o class_kind class)
  pub inside : index < pair_count o (dictionary_word o class)
  pub named : pair_selector o (dictionary_word o class) index ≡ selector
  pub takes : argument_count o (pair_method o (dictionary_word o class) index) ≡ count

pub record Counts (o : Objects) (counts : List ℕ) : Type 0 where
  pub each : (c i : ℕ) → T (is_kind o class_kind c) → i < pair_count o (dictionary_word o c)
      → get_or counts (object_number (pair_selector o (dictionary_word o c) i)) 0 ≡ suc (argument_count o (pair_method o (dictionary_word o c) i))
  pub only : (j count : ℕ) → get_or counts j 0 ≡ suc count → Counted o (pointer j) count

-- A pair whose method names its class as home and is counted
pub record PairRight (o : Objects) (counts : List ℕ) (c i : ℕ) : Type 0 where
  pub homes : home o (pair_method o (dictionary_word o c) i) ≡ c
  pub noted : get_or counts (object_number (pair_selector o (dictionary_word o c) i)) 0 ≡ suc (argument_count o (pair_method o (dictionary_word o c) i))

-- Counting has passed the classes before object k, and i pairs of object k.
pub record Counting (o : Objects) (counts : List ℕ) (k i : ℕ) : Type 0 where
  pub passed : (c j : ℕ) → T (is_kind o class_kind c) → j < pair_count o (dictionary_word o c) → (object_number c < k) ⊎ ((object_number c ≡ k) × (j < i)) → PairRight o counts c j
  pub only : (j count : ℕ) → get_or counts j 0 ≡ suc count → Counted o (pointer j) count

-- what a turn leaves: it goes on, or shows that the dictionaries are wrong
unfoldable pub Turned : Objects → ℕ → ℕ → List ℕ → Bool → Type 0
Turned o k i counts true = Counting o counts k i
Turned o k i counts false = T (holders o) → ⊥

-- a count that is noted where there is none, or compared
unfoldable pub Noted : List ℕ → ℕ → ℕ → List ℕ → Bool → Type 0
Noted counts j note counts' true = (counts' ≡ set counts j note) × ((get_or counts j 0 ≡ 0) ⊎ (get_or counts j 0 ≡ note))
Noted counts j note counts' false = (get_or counts j 0 ≡ 0 → ⊥) × (get_or counts j 0 ≡ note → ⊥)

-- what pass 2 leaves
unfoldable pub Held : Objects → List ℕ → Bool → Type 0
Held o counts true = T (holders o) × Counts o counts
Held o counts false = T (holders o) → ⊥
