-- Reading and writing undo each other, with load's verdict.
use Prim.Native.Nat.{ℕ, ◌<◌}
use mathlib.Core.Path.{◌≡◌, refl, ap, ◌∙◌}
use mathlib.Core.Bool.{Bool, true}
use mathlib.Core.List.{List}
use lib.ListN.{length, get_or}
use Rattle.bytecode.proofs.TestLaws.{T→true, rule}
use Rattle.model.specs.Objects.{Objects}
use Rattle.model.specs.Rules.{header_fine}
use Rattle.model.specs.Image.{Room, Header, Verdict, accepted, ◌then◌, unless, image_header, image_objects, image_of, length_fine, tests_of, buffers_fine, objects_verdict, load_tests, load_verdict}
use Rattle.model.proofs.OrderLaws.{load_passes}
use Rattle.image.proofs.RoundTrip.{Fitting, header_written, objects_written, length_written, image_read}

-- load's verdict, by what is read
abbrev verdict : Room → Bool → Header → Objects → Verdict
verdict room l h o =
    unless l 1
    then (unless (header_fine h.edition h.n h.b) 2
    then (unless (buffers_fine room h.n h.b) 3
    then objects_verdict h.edition o h.receiver h.selector))

passing : (b : Bool) (k : ℕ) (v : Verdict) → b ≡ true → (unless b k then v) ≡ v
passing b k v e = ap (λ (x : Bool). unless x k then v) e

-- What was written is read as it was, start words included, and accepted wherever the header, the buffers and the image check allow it.
pub record Back (room : Room) (h : Header) (o : Objects) : Type 0 where
  pub header : image_header (image_of h o) ≡ h
  pub objects : image_objects (image_of h o) ≡ o
  pub taken : load_verdict room (image_of h o) ≡ accepted

pub written_read : (room : Room) (h : Header) (o : Objects) → Fitting h o → header_fine h.edition h.n h.b ≡ true
    → buffers_fine room h.n h.b ≡ true → objects_verdict h.edition o h.receiver h.selector ≡ accepted → Back room h o
written_read room h o f two three rest =
    record { header = header_written h o; objects = objects_written h o f; taken = whole }
  where
    by_parts : load_verdict room (image_of h o) ≡ verdict room (length_fine (image_of h o)) (image_header (image_of h o)) (image_objects (image_of h o))
    by_parts = unfold load_verdict objects_verdict in refl

    whole : load_verdict room (image_of h o) ≡ accepted
    whole =
        by_parts
        ∙ ap (λ (x : Header). verdict room (length_fine (image_of h o)) x (image_objects (image_of h o))) (header_written h o)
        ∙ ap (verdict room (length_fine (image_of h o)) h) (objects_written h o f)
        ∙ passing (length_fine (image_of h o)) 1 _ (T→true (length_fine (image_of h o)) (length_written h o f))
        ∙ passing (header_fine h.edition h.n h.b) 2 _ two
        ∙ passing (buffers_fine room h.n h.b) 3 _ three
        ∙ rest

-- An image that load accepted is written as it was.
pub read_written : (room : Room) (image : List ℕ) → ((i : ℕ) → i < length image → get_or image i 0 < 256) → load_verdict room image ≡ accepted
    → image_of (image_header image) (image_objects image) ≡ image
read_written room image bytes e = image_read image (rule (tests_of (load_tests room image)) (load_passes room image e) 0) bytes
