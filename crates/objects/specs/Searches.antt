-- A search for a method: what it asks of a dictionary, and what its answer says.
use Rattle.std.specs.Prelude.{ℕ, ◌+◌, ◌*◌, ◌≤◌, ◌<◌, ◌≡◌, List, get_or, Option}
use Rattle.model.specs.declared.Pointer.{Pointer}
use Rattle.model.specs.Limits.{list_kind}
use Rattle.model.specs.Objects.{objects_at, pair_count, pair_selector}
use Rattle.objects.specs.declared.Search.{Search}
use Rattle.objects.specs.Lent.{Holds}

-- d is a list whose pairs have rising selectors, as a class's dictionary has.
pub record IsDictionary (n b : ℕ) (contents bodies : List ℕ) (d : ℕ) : Type 0 where
  pub holds : Holds list_kind n b contents bodies d
  pub rises : (i j : ℕ) → i < j → j < pair_count (objects_at n b contents bodies) d
      → pair_selector (objects_at n b contents bodies) d i < pair_selector (objects_at n b contents bodies) d j

-- Of `count` pairs from a place on: pair `index` stands at `at`, all before it have selectors below s, and unless it is the last, it has not.
pub record FirstPlace (bodies : List ℕ) (from count s at : ℕ) : Type 0 where
  pub index : ℕ
  pub place : at ≡ from + 2 * index
  pub inside : index < count
  pub below : (j : ℕ) → j < index → get_or bodies (from + 2 * j) 0 < s
  pub stops : index + 1 < count → s ≤ get_or bodies at 0

-- What was found, and how many dictionaries and pairs were read
pub record SearchIs (f : Option Pointer) (k p : ℕ) (r : Search) : Type 0 where
  pub finds : r.found ≡ f
  pub walks : r.dictionaries ≡ k
  pub reads : r.pairs ≡ p
