-- Which entries and body words are inside the lent buffers. None of this asks for an edition.
use Rattle.std.specs.Prelude.{ℕ, ◌+◌, ◌*◌, ◌≤◌, ◌<◌, ◌≡◌, List, length}
use Rattle.model.specs.Limits.{entry_words, most_objects, most_body_words, class_kind, class_words, selectors_object, primitive_flag}
use Rattle.model.specs.Word.{object_number}
use Rattle.model.specs.Method.{flag, literal_count}
use Rattle.model.specs.Objects.{objects_at, kind, start, size, body_end}

-- object k of the contents
pub record Entry (n k : ℕ) (contents : List ℕ) : Type 0 where
  pub entries : entry_words * n ≤ length contents
  pub least : 1 ≤ k
  pub most : k ≤ n

-- word i of the body of the object that w names
pub record Inside (n b : ℕ) (contents bodies : List ℕ) (w i : ℕ) : Type 0 where
  pub entries : entry_words * n ≤ length contents
  pub words : b ≤ length bodies
  pub least : 1 ≤ object_number w
  pub most : object_number w ≤ n
  pub below : start (objects_at n b contents bodies) (object_number w) + i < b

-- the words that say how many arguments method m takes: its header, and under the last flag its extension
pub record CountInside (n b : ℕ) (contents bodies : List ℕ) (m : ℕ) : Type 0 where
  pub header : Inside n b contents bodies m 0
  pub two : flag (objects_at n b contents bodies) m ≡ primitive_flag → 2 ≤ literal_count (objects_at n b contents bodies) m
  pub extended : flag (objects_at n b contents bodies) m ≡ primitive_flag → Inside n b contents bodies m (literal_count (objects_at n b contents bodies) m)

-- What the layout gives a reader: the buffers hold n objects and b body words, no more than an image can have; the objects with a fixed
-- number are there; each body is inside the b words, and a class has its four.
pub record Laid (n b : ℕ) (contents bodies : List ℕ) : Type 0 where
  pub entries : entry_words * n ≤ length contents
  pub words : b ≤ length bodies
  pub known : selectors_object ≤ n
  pub most : n ≤ most_objects
  pub most_words : b ≤ most_body_words
  pub inside : (k : ℕ) → 1 ≤ k → k ≤ n → body_end (objects_at n b contents bodies) k ≤ b
  pub four : (k : ℕ) → 1 ≤ k → k ≤ n → kind (objects_at n b contents bodies) k ≡ class_kind → size (objects_at n b contents bodies) k ≡ class_words
