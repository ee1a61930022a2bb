-- What the functions of the first two passes ask of each other.
use Rattle.std.specs.Prelude.{ℕ, ◌+◌, ◌*◌, ◌≤◌, ◌<◌, ◌≡◌, List, T, length}
use Rattle.model.specs.Limits.{entry_words, class_kind, method_kind}
use Rattle.model.specs.Word.{object_number}
use Rattle.model.specs.Objects.{objects_at, size, is_kind, dictionary_word, pair_count}
use Rattle.model.specs.Method.{literal_count}
use Rattle.model.specs.Rules.{rule4, rule6}
use Rattle.readers.specs.Places.{Laid}
use Rattle.methods.specs.Passes.{shapes}
use Rattle.methods.specs.Counts.{Counts, Counting}

-- What is settled before rule 7 is asked, under some edition
pub record Ready (n b : ℕ) (contents bodies : List ℕ) : Type 0 where
  pub edition : ℕ
  pub laid : Laid n b contents bodies
  pub layout : T (rule4 edition (objects_at n b contents bodies))
  pub classes : T (rule6 edition (objects_at n b contents bodies))

-- method m, whose body holds this many literals
pub record Literals (n b : ℕ) (contents bodies : List ℕ) (m literals : ℕ) : Type 0 where
  pub laid : Laid n b contents bodies
  pub is_method : T (is_kind (objects_at n b contents bodies) method_kind m)
  pub holds : 4 + 2 * literals ≤ size (objects_at n b contents bodies) (object_number m)

-- with its header and home
pub record FlagAsked (n b : ℕ) (contents bodies : List ℕ) (m h c : ℕ) : Type 0 where
  pub method : Literals n b contents bodies m (literal_count (objects_at n b contents bodies) m)
  pub header : h ≡ Rattle.model.specs.Method.header (objects_at n b contents bodies) m
  pub home : c ≡ Rattle.model.specs.Method.home (objects_at n b contents bodies) m
  pub is_class : T (is_kind (objects_at n b contents bodies) class_kind c)

-- What the loops over dictionaries ask: counts so far, in a list over all object numbers
pub record ClassAsked (n b : ℕ) (contents bodies : List ℕ) (class : ℕ) (counts : List ℕ) : Type 0 where
  pub ready : Ready n b contents bodies
  pub shaped : T (shapes (objects_at n b contents bodies))
  pub is_class : T (is_kind (objects_at n b contents bodies) class_kind class)
  pub long : n < length counts
  pub so_far : Counting (objects_at n b contents bodies) counts (object_number class) 0

pub record PairAsked (n b : ℕ) (contents bodies : List ℕ) (class i : ℕ) (counts : List ℕ) : Type 0 where
  pub ready : Ready n b contents bodies
  pub shaped : T (shapes (objects_at n b contents bodies))
  pub is_class : T (is_kind (objects_at n b contents bodies) class_kind class)
  pub long : n < length counts
  pub inside : i < pair_count (objects_at n b contents bodies) (dictionary_word (objects_at n b contents bodies) class)
  pub so_far : Counting (objects_at n b contents bodies) counts (object_number class) i

pub record ObjectAsked (n b : ℕ) (contents bodies : List ℕ) (k : ℕ) (counts : List ℕ) : Type 0 where
  pub ready : Ready n b contents bodies
  pub shaped : T (shapes (objects_at n b contents bodies))
  pub least : 1 ≤ k
  pub most : k ≤ n
  pub long : n < length counts
  pub so_far : Counting (objects_at n b contents bodies) counts k 0

-- what a send's rule asks; nil, which any send may name, is there
pub record SendAsked (n b : ℕ) (contents bodies counts : List ℕ) : Type 0 where
  pub entries : entry_words * n ≤ length contents
  pub least : 1 ≤ n
  pub long : n < length counts
  pub counted : Counts (objects_at n b contents bodies) counts
