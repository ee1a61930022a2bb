-- How many dictionaries and pairs lookups read (02, M-102, M-105), worked.
use mathlib.Core.Path.{◌≡◌, refl}
use mathlib.Core.List.{[], ◌∷◌}
use Rattle.model.specs.Limits.{class_kind, list_kind}
use Rattle.model.specs.Word.{is_pointer, pointer}
use Rattle.model.specs.Objects.{Objects, is_kind}
use Rattle.model.specs.Lookup.{find_from, find_in, pairs_from, pairs_in, pairs_within, pairs_read, dictionaries_within, dictionaries_read}

-- Two dictionaries, 1 with the selectors 20, 24, 30 and 2 with none; and three classes, each below the one before: 3 and 5 have the first, 4 the second.
objects : Objects
objects =
    record {
      n = 5;
      b = 18;
      contents = 2 ∷ list_kind ∷ 0 ∷ 6 ∷ 2 ∷ list_kind ∷ 6 ∷ 0 ∷ 2 ∷ class_kind ∷ 6 ∷ 4 ∷ 2 ∷ class_kind ∷ 10 ∷ 4 ∷ 2 ∷ class_kind ∷ 14 ∷ 4 ∷ [];
      bodies = 20 ∷ 40 ∷ 24 ∷ 42 ∷ 30 ∷ 44 ∷ 1 ∷ pointer 1 ∷ 1 ∷ 1 ∷ pointer 3 ∷ pointer 2 ∷ 1 ∷ 1 ∷ pointer 4 ∷ pointer 1 ∷ 1 ∷ 1 ∷ [];
    }

record Pairs : Type 0 where
  -- in one dictionary: up to and with the first that is not below
  below_all : pairs_in objects (pointer 1) 18 ≡ 1
  the_first : pairs_in objects (pointer 1) 20 ≡ 1
  between : pairs_in objects (pointer 1) 22 ≡ 2
  the_second : pairs_in objects (pointer 1) 24 ≡ 2
  the_last : pairs_in objects (pointer 1) 30 ≡ 3
  above_all : pairs_in objects (pointer 1) 32 ≡ 3
  of_none : pairs_in objects (pointer 2) 24 ≡ 0
  -- along the chain of class 5
  fails_early : pairs_read objects 18 (pointer 5) ≡ 2
  fails_between : pairs_read objects 22 (pointer 5) ≡ 4
  fails_late : pairs_read objects 32 (pointer 5) ≡ 6
  found_there : pairs_read objects 24 (pointer 5) ≡ 2
  found_above : pairs_read objects 30 (pointer 4) ≡ 3
  -- dictionaries: both ends counted, the one that two classes share each time, an empty one too
  reads_own : dictionaries_read objects 24 (pointer 5) ≡ 1
  reads_above : dictionaries_read objects 24 (pointer 4) ≡ 2
  reads_all : dictionaries_read objects 22 (pointer 5) ≡ 3
  reads_none : dictionaries_read objects 24 (pointer 1) ≡ 0

pairs : Pairs
unfolding dictionaries_read dictionaries_within pairs_read pairs_within pairs_in pairs_from find_in find_from is_kind is_pointer objects
pairs =
    record {
      below_all = refl;
      the_first = refl;
      between = refl;
      the_second = refl;
      the_last = refl;
      above_all = refl;
      of_none = refl;
      fails_early = refl;
      fails_between = refl;
      fails_late = refl;
      found_there = refl;
      found_above = refl;
      reads_own = refl;
      reads_above = refl;
      reads_all = refl;
      reads_none = refl;
    }
