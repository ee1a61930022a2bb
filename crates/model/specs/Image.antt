-- Image bytes: header, table of contents, bodies, to objects and back (01, "Image"), and what load refuses (01, "From the input").
use Rattle.std.specs.Prelude.{ℕ, ◌+◌, ◌*◌, ◌/◌, ◌%◌, Bool, true, false, ◌&&◌, List, [], ◌∷◌, ◌++◌, leb, eqb, length, get_or}
use Rattle.model.specs.Limits.{header_words, entry_words, cache_words}
use Rattle.model.specs.Objects.{Objects, part}
use Rattle.model.specs.Rules.{header_fine, rule4, rule5, rule14, rule6, rule7, rule8}

-- The lengths of the lent buffers, in words
pub record Room : Type 0 where
  pub contents : ℕ
  pub bodies : ℕ
  pub stack : ℕ
  pub cache : ℕ

-- Words are stored high byte first.
unfoldable pub words_of : List ℕ → List ℕ
words_of [] = []
words_of (h ∷ []) = []
words_of (h ∷ l ∷ bs) = (h * 256 + l) ∷ words_of bs

unfoldable pub bytes_of : List ℕ → List ℕ
bytes_of [] = []
bytes_of (w ∷ ws) = (w / 256) ∷ (w % 256) ∷ bytes_of ws

pub record Header : Type 0 where
  pub edition : ℕ
  pub n : ℕ
  pub b : ℕ
  pub receiver : ℕ
  pub selector : ℕ

unfoldable pub header_of : List ℕ → Header
header_of ws = record { edition = get_or ws 0 0; n = get_or ws 1 0; b = get_or ws 2 0; receiver = get_or ws 3 0; selector = get_or ws 4 0 }

-- The objects behind the header: 4 words each in the table of contents, then the bodies
unfoldable pub objects_in : List ℕ → ℕ → ℕ → Objects
objects_in ws n b =
    record { n = n; b = b; contents = part ws header_words (entry_words * n); bodies = part ws (header_words + entry_words * n) b }

unfoldable pub image_header : List ℕ → Header
image_header bytes = header_of (words_of bytes)

unfoldable pub image_objects : List ℕ → Objects
image_objects bytes = objects_in (words_of bytes) (image_header bytes).n (image_header bytes).b

-- And back: the image of a header and its objects (01, "Calls": save)
unfoldable pub image_of : Header → Objects → List ℕ
image_of h o =
    bytes_of ((h.edition ∷ h.n ∷ h.b ∷ h.receiver ∷ h.selector ∷ []) ++ (o.contents ++ o.bodies))

-- how many bytes an image of n objects and b body words has
abbrev pub image_bytes : ℕ → ℕ → ℕ
image_bytes n b = 2 * header_words + 2 * entry_words * n + 2 * b

-- All is well, or the number of a refusal
pub data Verdict : Type 0 where
  accepted : Verdict
  refused : ℕ → Verdict

-- The first refusal counts. A later test waits where an earlier one refuses.
infixr 3 ◌then◌
abbrev pub ◌then◌ : Verdict → Verdict → Verdict
accepted then v = v
refused k then v = refused k

abbrev pub unless : Bool → ℕ → Verdict
unless true k = accepted
unless false k = refused k

-- An order is a list of tests with their numbers.
abbrev pub in_order : List (Bool × ℕ) → Verdict
in_order [] = accepted
in_order (t ∷ ts) = unless t.0 t.1 then in_order ts

abbrev pub tests_of : List (Bool × ℕ) → List Bool
tests_of [] = []
tests_of (t ∷ ts) = t.0 ∷ tests_of ts

-- 1: the length that N and B ask for, which includes a header
unfoldable pub length_fine : List ℕ → Bool
length_fine bytes =
    leb (2 * header_words) (length bytes) && eqb (length bytes) (image_bytes (image_header bytes).n (image_header bytes).b)

-- 3: the buffers hold n objects and b body words, and the cache has its length.
unfoldable pub buffers_fine : Room → ℕ → ℕ → Bool
buffers_fine room n b = leb (entry_words * n) room.contents && (leb b room.bodies && eqb room.cache cache_words)

-- The rules of the objects, each over the whole image
abbrev pub object_tests : ℕ → Objects → ℕ → ℕ → List (Bool × ℕ)
object_tests e o receiver selector =
    (rule4 e o, 4) ∷ (rule5 e o, 5) ∷ (rule14 o, 14) ∷ (rule6 e o, 6) ∷ (rule7 e o, 7) ∷ (rule8 o receiver selector [], 8) ∷ []

unfoldable pub objects_verdict : ℕ → Objects → ℕ → ℕ → Verdict
objects_verdict e o receiver selector = in_order (object_tests e o receiver selector)

-- The order of load
abbrev pub load_tests : Room → List ℕ → List (Bool × ℕ)
load_tests room bytes =
    (length_fine bytes, 1) ∷
    (header_fine (image_header bytes).edition (image_header bytes).n (image_header bytes).b, 2) ∷
    (buffers_fine room (image_header bytes).n (image_header bytes).b, 3) ∷
    object_tests (image_header bytes).edition (image_objects bytes) (image_header bytes).receiver (image_header bytes).selector

-- What load says of the input
unfoldable pub load_verdict : Room → List ℕ → Verdict
load_verdict room bytes = in_order (load_tests room bytes)
