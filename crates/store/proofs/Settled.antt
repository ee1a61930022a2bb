-- What is in the lent words after an image is put in place, and after it is undone.
use Prim.Native.Nat.{ℕ, ◌*◌}
use mathlib.Core.Path.{◌≡◌, refl, sym, ap, ap₂, ◌∙◌, subst}
use mathlib.Core.Bool.{true, false, ◌&&◌}
use mathlib.Core.List.{List, ◌++◌}
use lib.Dec.{leb, eqb, leb→le}
use lib.ListN.{length, take, drop, replicate}
use lib.Seq.{take_at, drop_at}
use Rattle.bytecode.proofs.TestLaws.{true→T, and_left, and_right}
use Rattle.model.specs.Limits.{is_edition, least_objects, most_objects, most_body_words, entry_words, cache_words}
use Rattle.model.specs.Objects.{Objects, objects_at}
use Rattle.model.specs.Rules.{header_fine, sizes_fine}
use Rattle.model.specs.Image.{Room, Header, image_header, image_objects, refused, length_fine, buffers_fine, objects_verdict, load_verdict}
use Rattle.model.proofs.Lent.{objects_eq}
use Rattle.image.proofs.RoundTrip.{Fitting, objects_fit}
use Rattle.rules.specs.Lent.{Lent}
use Rattle.store.specs.Answer.{number_of, room_for, stored, in_front, stored_by, Passed}
use Rattle.store.proofs.Verdicts.{gives_2, gives_3, gives_rest, late, kept, undone}

pub stored_eq : {k k' : ℕ} {c c' b b' : List ℕ} → k ≡ k' → c ≡ c' → b ≡ b' → stored k c b ≡ stored k' c' b'
stored_eq p q r = λ i. stored (p i) (q i) (r i)

module _ {image : List ℕ} {e n b : ℕ} {contents bodies : List ℕ} (passed : Passed image e n b contents bodies) where
  fit : Fitting (image_header image) (image_objects image)
  fit = objects_fit image passed.long

  entries : length (image_objects image).contents ≡ entry_words * n
  entries = fit.contents ∙ ap (λ (k : ℕ). entry_words * k) passed.objects

  words : length (image_objects image).bodies ≡ b
  words = fit.bodies ∙ passed.words

  module _ {contents' bodies' : List ℕ} (c : contents' ≡ (image_objects image).contents ++ drop (entry_words * n) contents)
      (d : bodies' ≡ (image_objects image).bodies ++ drop b bodies) where
    pub objects_placed : objects_at n b contents' bodies' ≡ image_objects image
    objects_placed =
        objects_eq (sym passed.objects ∙ sym fit.objects) (sym passed.words ∙ sym fit.words)
        (ap (take (entry_words * n)) c ∙ take_at (image_objects image).contents (drop (entry_words * n) contents) (entry_words * n) entries)
        (ap (take b) d ∙ take_at (image_objects image).bodies (drop b bodies) b words)

    module _ (receiver selector : ℕ) where
      same : objects_verdict e (objects_at n b contents' bodies') receiver selector ≡ objects_verdict e (image_objects image) receiver selector
      same = ap (λ (o : Objects). objects_verdict e o receiver selector) objects_placed

      pub settled_yes : 0 ≡ number_of (objects_verdict e (objects_at n b contents' bodies') receiver selector)
          → stored 0 contents' bodies' ≡ stored_by (objects_verdict e (image_objects image) receiver selector) image contents bodies
      settled_yes t =
          stored_eq refl c d
          ∙ sym (kept (objects_verdict e (image_objects image) receiver selector) image contents bodies (late e (image_objects image) receiver selector) (t ∙ ap number_of same)
          ∙ ap₂ (λ (x y : ℕ). in_front 0 x y (image_objects image).contents (image_objects image).bodies contents bodies) passed.objects passed.words)

      pub settled_no : {k : ℕ} {contents'' bodies'' : List ℕ} → k ≡ number_of (objects_verdict e (objects_at n b contents' bodies') receiver selector) → (k ≡ 0 → ⊥)
          → contents'' ≡ replicate (entry_words * n) 0 ++ drop (entry_words * n) contents' → bodies'' ≡ replicate b 0 ++ drop b bodies'
          → stored k contents'' bodies'' ≡ stored_by (objects_verdict e (image_objects image) receiver selector) image contents bodies
      settled_no {k} t nonzero p q =
          stored_eq refl (p ∙ ap (λ (l : List ℕ). replicate (entry_words * n) 0 ++ l) (ap (drop (entry_words * n)) c ∙ drop_at (image_objects image).contents
          (drop (entry_words * n) contents) (entry_words * n) entries))
          (q ∙ ap (λ (l : List ℕ). replicate b 0 ++ l) (ap (drop b) d ∙ drop_at (image_objects image).bodies (drop b bodies) b words))
          ∙ sym (undone (objects_verdict e (image_objects image) receiver selector) k image contents bodies (late e (image_objects image) receiver selector) (t ∙ ap number_of same) nonzero
          ∙ ap₂ (λ (x y : ℕ). in_front k x y (replicate (entry_words * x) 0) (replicate y 0) contents bodies) passed.objects passed.words)

-- 1 to 3, by a header that was read
pub lent_by : (e n b cache : ℕ) (contents bodies : List ℕ) → header_fine e n b ≡ true → buffers_fine (room_for (length contents) (length bodies) cache) n b ≡ true → Lent e n b contents bodies
unfolding buffers_fine
lent_by e n b cache contents bodies two three =
    let s = and_right (is_edition e) (sizes_fine e n b) (true→T two) in
    let m = and_right (leb (least_objects e) n) (leb n most_objects && leb b most_body_words) s in
    let x = leb (entry_words * n) (length contents) in
    let y = leb b (length bodies) in
    let z = eqb cache cache_words in
    record {
      entries = leb→le (entry_words * n) (length contents) (and_left x (y && z) (true→T three));
      words = leb→le b (length bodies) (and_left y z (and_right x (y && z) (true→T three)));
      least = leb→le (least_objects e) n (and_left (leb (least_objects e) n) (leb n most_objects && leb b most_body_words) s);
      most = leb→le n most_objects (and_left (leb n most_objects) (leb b most_body_words) m);
      most_words = leb→le b most_body_words (and_right (leb n most_objects) (leb b most_body_words) m);
    }

module _ (room : Room) (image : List ℕ) {h : Header} (eq : h ≡ image_header image) (one : length_fine image ≡ true) where
  pub read_2 : header_fine h.edition h.n h.b ≡ false → load_verdict room image ≡ refused 2
  read_2 two = gives_2 room image one (subst (λ (x : Header). header_fine x.edition x.n x.b ≡ false) eq two)

  module _ (two : header_fine h.edition h.n h.b ≡ true) where
    two' : header_fine (image_header image).edition (image_header image).n (image_header image).b ≡ true
    two' = subst (λ (x : Header). header_fine x.edition x.n x.b ≡ true) eq two

    pub read_3 : buffers_fine room h.n h.b ≡ false → load_verdict room image ≡ refused 3
    read_3 three = gives_3 room image one two' (subst (λ (x : Header). buffers_fine room x.n x.b ≡ false) eq three)

    pub read_on : buffers_fine room h.n h.b ≡ true → load_verdict room image ≡ objects_verdict h.edition (image_objects image) h.receiver h.selector
    read_on three =
        gives_rest room image one two' (subst (λ (x : Header). buffers_fine room x.n x.b ≡ true) eq three)
        ∙ ap (λ (x : Header). objects_verdict x.edition (image_objects image) x.receiver x.selector) (sym eq)
