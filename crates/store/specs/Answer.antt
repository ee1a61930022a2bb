-- What loading leaves in the lent contents and bodies, and its answer as a number (01, "From the input").
use Rattle.std.specs.Prelude.{ℕ, ◌*◌, ◌≡◌, List, ◌++◌, T, leb, drop, replicate}
use Rattle.bytecode.specs.Test.{when◌then◌else◌}
use Rattle.model.specs.Limits.{entry_words}
use Rattle.model.specs.Image.{Room, Verdict, accepted, refused, image_header, image_objects, length_fine}
use Rattle.rules.specs.Lent.{Lent}

-- 0 where all is well, else the number of the refusal
unfoldable pub number_of : Verdict → ℕ
number_of accepted = 0
number_of (refused k) = k

-- The lengths of contents, bodies and cache. Load has no stack.
abbrev pub room_for : ℕ → ℕ → ℕ → Room
room_for contents bodies cache = record { contents = contents; bodies = bodies; stack = 0; cache = cache }

pub record Stored : Type 0 where
  pub number : ℕ
  pub contents : List ℕ
  pub bodies : List ℕ

abbrev pub stored : ℕ → List ℕ → List ℕ → Stored
stored number contents bodies = record { number = number; contents = contents; bodies = bodies }

-- n objects and b body words at the front of the lent words, whose rest stays
abbrev pub in_front : ℕ → ℕ → ℕ → List ℕ → List ℕ → List ℕ → List ℕ → Stored
in_front number n b entries words contents bodies =
    stored number (entries ++ drop (entry_words * n) contents) (words ++ drop b bodies)

-- Accepted: the image's objects are in place. Refused by 1 to 3: nothing changes. Refused by another number: zeros are in place.
unfoldable pub stored_by : Verdict → List ℕ → List ℕ → List ℕ → Stored
stored_by accepted image contents bodies =
    in_front 0 (image_header image).n (image_header image).b (image_objects image).contents (image_objects image).bodies contents bodies
stored_by (refused k) image contents bodies =
    when leb k 3 then stored k contents bodies else
    in_front k (image_header image).n (image_header image).b (replicate (entry_words * (image_header image).n) 0) (replicate (image_header image).b 0) contents bodies

-- What is settled once 1, 2 and 3 are passed
pub record Passed (image : List ℕ) (e n b : ℕ) (contents bodies : List ℕ) : Type 0 where
  pub long : T (length_fine image)
  pub objects : (image_header image).n ≡ n
  pub words : (image_header image).b ≡ b
  pub lent : Lent e n b contents bodies
