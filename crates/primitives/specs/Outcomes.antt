-- What a primitive's outcome is in the code's answer and in the buffers.
use Rattle.std.specs.Prelude.{ℕ, ◌+◌, ◌-◌, ◌*◌, ◌/◌, ◌≤◌, ◌≡◌, Bool, ◌&&◌, eqb, leb, List, T, length, Option, Some, None}
use Rattle.bytecode.specs.Test.{when◌then◌else◌}
use Rattle.model.specs.Limits.{entry_words, most_objects, most_body_words, bytes_form}
use Rattle.model.specs.Word.{is_valid, is_natural}
use Rattle.model.specs.Objects.{Objects, objects_at, class_of, form, at_front}
use Rattle.model.specs.Rules.{IsRight}
use Rattle.model.specs.Image.{Room}
use Rattle.model.specs.Primitive.{Outcome, answers, fails, element_start, element_count, has_elements, is_indexable, is_index}
use Rattle.primitives.specs.declared.Done.{Done}
use Rattle.primitives.specs.declared.Elements.{Elements}
use Rattle.primitives.specs.declared.ElementKind.{ElementKind}
use Rattle.primitives.specs.declared.ElementKind.TheVariants.{Words, Bytes}

unfoldable pub answer_of : Outcome → Option ℕ
answer_of (answers w o) = Some w
answer_of fails = None

-- the objects after it: a failure leaves those before it
unfoldable pub objects_after : Objects → Outcome → Objects
objects_after o (answers w o') = o'
objects_after o fails = o

-- The lengths of the buffers that a primitive asks for
abbrev pub room_for : ℕ → ℕ → Room
room_for contents bodies = record { contents = contents; bodies = bodies; stack = 0; cache = 0 }

abbrev pub room_of : List ℕ → List ℕ → Room
room_of contents bodies = room_for (length contents) (length bodies)

abbrev pub done_with : Option ℕ → ℕ → ℕ → Done
done_with answer n b = record { answer = answer; n = n; b = b }

-- Right objects, and a valid word as receiver
pub record Receives (n b : ℕ) (contents bodies : List ℕ) (w : ℕ) : Type 0 where
  pub right : IsRight (objects_at n b contents bodies)
  pub valid : T (is_valid n w)

-- An outcome that leaves entries, n and b
pub record Puts (o : Objects) (z : Outcome) (r : Option ℕ) (bodies after : List ℕ) : Type 0 where
  pub answer : r ≡ answer_of z
  pub words : after ≡ at_front (objects_after o z).bodies bodies

-- Any outcome
pub record Does (o : Objects) (z : Outcome) (r : Done) (contents bodies contents' bodies' : List ℕ) : Type 0 where
  pub answer : r.answer ≡ answer_of z
  pub count : r.n ≡ (objects_after o z).n
  pub size : r.b ≡ (objects_after o z).b
  pub entries : contents' ≡ at_front (objects_after o z).contents contents
  pub words : bodies' ≡ at_front (objects_after o z).bodies bodies

-- what z says of these objects and the room in these buffers
abbrev pub DoesAt : ℕ → ℕ → List ℕ → List ℕ → (Room → Objects → Outcome) → Done → List ℕ → List ℕ → Type 0
DoesAt n b contents bodies z r contents' bodies' =
    Does (objects_at n b contents bodies) (z (room_of contents bodies) (objects_at n b contents bodies)) r contents bodies contents' bodies'

-- Objects that stand at the fronts of the buffers, the rest of which is as it was
pub record Stand (o : Objects) (contents bodies contents' bodies' : List ℕ) : Type 0 where
  pub entries : contents' ≡ at_front o.contents contents
  pub words : bodies' ≡ at_front o.bodies bodies

-- Room for an array of so many arguments and a message
pub record MessageRoom (n b count : ℕ) (contents bodies : List ℕ) : Type 0 where
  pub objects : n + 2 ≤ most_objects
  pub words : b + (count + 2) ≤ most_body_words
  pub entries : entry_words * (n + 2) ≤ length contents
  pub inside : b + (count + 2) ≤ length bodies

-- What 60 to 62 take of w: by the form of its class, where its elements start and how many there are
abbrev pub kind_of_form : ℕ → ElementKind
kind_of_form form = when eqb form bytes_form then Bytes else Words

unfoldable pub kind_of_elements : ℕ → Option ElementKind
kind_of_elements form = when has_elements form then Some (kind_of_form form) else None

abbrev pub elements : ElementKind → ℕ → ℕ → Elements
elements by start count = record { by = by; start = start; count = count }

unfoldable pub elements_of : Objects → ℕ → Option Elements
elements_of o w = when is_indexable o w then Some (elements (kind_of_form (form o (class_of o w))) (element_start o w) (element_count o w)) else None

-- The number that a word holds, if it is natural and at most so large; and that of an index
unfoldable pub natural_of : ℕ → ℕ → Option ℕ
natural_of most x = when is_natural most x then Some (x / 2) else None

unfoldable pub index_of : ℕ → ℕ → Option ℕ
index_of count x = when is_index count x then Some (x / 2) else None

-- Room for so many more objects of so many body words together
abbrev pub fits_buffers : ℕ → ℕ → ℕ → ℕ → ℕ → ℕ → Bool
fits_buffers contents bodies n b objects words =
    leb n (most_objects - objects) && (leb (b + words) most_body_words && (leb (entry_words * (n + objects)) contents && leb (b + words) bodies))
