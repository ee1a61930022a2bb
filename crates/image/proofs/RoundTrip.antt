-- What was written reads as what it was written from, and an image that was read is written as it was.
use Prim.Native.Nat.{ℕ, ◌+◌, ◌*◌, ◌≤◌, ◌<◌}
use mathlib.Core.Path.{◌≡◌, refl, sym, ap, ◌∙◌}
use mathlib.Core.List.{List, [], ◌∷◌, ◌++◌}
use native.Mathlib.Omega.{arith}
use lib.Dec.{T, leb, eqb, le→leb, eqb→eq}
use lib.ListN.{length, get_or, take, drop, length-append, length-drop, take-append-drop}
use lib.Seq.{take_at, drop_at, take_all, length-take-le, drop-drop, sets}
use borrow.Author.Tests.{eq-eqb}
use Rattle.bytecode.proofs.TestLaws.{true→T, and_right, and_both}
use Rattle.model.specs.Limits.{header_words, entry_words}
use Rattle.model.specs.Objects.{Objects, objects_at, part}
use Rattle.model.specs.Image.{Header, words_of, bytes_of, header_of, objects_in, image_header, image_objects, image_of, image_bytes, length_fine}
use Rattle.model.proofs.Lent.{objects_eq}
use Rattle.model.proofs.Parts.{length_part, sets_append}
use Rattle.words.proofs.Runs.{in_front}
use Rattle.image.specs.Heads.{head_words}
use Rattle.image.proofs.Words.{length_words, length_bytes, words_bytes, bytes_words, bytes_append}

pub header_eq : {e e' n n' b b' r r' s s' : ℕ} → e ≡ e' → n ≡ n' → b ≡ b' → r ≡ r' → s ≡ s'
    → ◌≡◌ {A = Header} (record { edition = e; n = n; b = b; receiver = r; selector = s }) (record { edition = e'; n = n'; b = b'; receiver = r'; selector = s' })
header_eq p q r s t = λ i. record { edition = p i; n = q i; b = r i; receiver = s i; selector = t i }

-- The lists of the objects that a header names have the lengths that it says.
pub record Fitting (h : Header) (o : Objects) : Type 0 where
  pub objects : o.n ≡ h.n
  pub words : o.b ≡ h.b
  pub contents : length o.contents ≡ entry_words * h.n
  pub bodies : length o.bodies ≡ h.b

words_image : (h : Header) (o : Objects) → words_of (image_of h o) ≡ head_words h ++ (o.contents ++ o.bodies)
unfolding image_of
words_image h o = words_bytes (head_words h ++ (o.contents ++ o.bodies))

pub header_written : (h : Header) (o : Objects) → image_header (image_of h o) ≡ h
unfolding image_header header_of
header_written h o = ap header_of (words_image h o)

module _ (h : Header) (o : Objects) (f : Fitting h o) where
  pub objects_written : image_objects (image_of h o) ≡ o
  unfolding image_objects objects_in
  objects_written =
      ap (λ (x : Header). objects_in (words_of (image_of h o)) x.n x.b) (header_written h o)
      ∙ ap (λ (ws : List ℕ). objects_in ws h.n h.b) (words_image h o)
      ∙ objects_eq (sym f.objects) (sym f.words) (take_at o.contents o.bodies (entry_words * h.n) f.contents)
      (ap (take h.b) (drop_five ∙ drop_at o.contents o.bodies (entry_words * h.n) f.contents) ∙ take_all h.b o.bodies (let e = f.bodies in omega arith))
    where
      drop_five : drop (header_words + entry_words * h.n) (head_words h ++ (o.contents ++ o.bodies)) ≡ drop (entry_words * h.n) (o.contents ++ o.bodies)
      drop_five = sym (drop-drop (entry_words * h.n) 5 (head_words h ++ (o.contents ++ o.bodies)))

  pub length_image : length (image_of h o) ≡ image_bytes h.n h.b
  unfolding image_of
  length_image =
      let a = length_bytes (head_words h ++ (o.contents ++ o.bodies)) in
      let b = length-append o.contents o.bodies in
      let c = f.contents in
      let d = f.bodies in
      omega arith

  pub length_written : T (length_fine (image_of h o))
  unfolding length_fine
  length_written =
      and_both (leb (2 * header_words) (length (image_of h o))) (eqb (length (image_of h o)) (image_bytes (image_header (image_of h o)).n (image_header (image_of h o)).b))
      (le→leb (2 * header_words) (length (image_of h o)) (let e = length_image in omega arith))
      (true→T (eq-eqb (length (image_of h o)) _ (length_image ∙ ap (λ (x : Header). image_bytes x.n x.b) (sym (header_written h o)))))

  -- an image at the front of a longer output
  pub front : (rest : List ℕ) → take (image_bytes h.n h.b) (image_of h o ++ rest) ≡ image_of h o
  front rest = take_at (image_of h o) rest (image_bytes h.n h.b) length_image

-- the header's words stand before the rest
five : (ws : List ℕ) → 5 ≤ length ws → get_or ws 0 0 ∷ get_or ws 1 0 ∷ get_or ws 2 0 ∷ get_or ws 3 0 ∷ get_or ws 4 0 ∷ drop 5 ws ≡ ws
five (p ∷ q ∷ r ∷ s ∷ t ∷ ws) h = refl
five [] h = absurd (omega arith)
five (p ∷ []) h = absurd (omega arith)
five (p ∷ q ∷ []) h = absurd (omega arith)
five (p ∷ q ∷ r ∷ []) h = absurd (omega arith)
five (p ∷ q ∷ r ∷ s ∷ []) h = absurd (omega arith)

-- An image of the right length
module _ (image : List ℕ) (t : T (length_fine image)) where
  pub exact : length image ≡ image_bytes (image_header image).n (image_header image).b
  unfolding length_fine
  exact = eqb→eq (length image) _ (and_right (leb (2 * header_words) (length image)) (eqb (length image) (image_bytes (image_header image).n (image_header image).b)) t)

  half : length (words_of image) ≡ 5 + 4 * (image_header image).n + (image_header image).b
  half = let a = length_words image in let b = exact in omega arith

  pub objects_fit : Fitting (image_header image) (image_objects image)
  unfolding image_objects objects_in
  objects_fit =
      record {
        objects = refl;
        words = refl;
        contents = length_part (words_of image) header_words (entry_words * (image_header image).n) (let a = half in omega arith);
        bodies = length_part (words_of image) (header_words + entry_words * (image_header image).n) (image_header image).b (let a = half in omega arith);
      }

  words_back : head_words (image_header image) ++ ((image_objects image).contents ++ (image_objects image).bodies) ≡ words_of image
  unfolding image_objects objects_in image_header header_of
  words_back =
      let l = half_open in
      ap (λ (rest : List ℕ). get_or ws 0 0 ∷ get_or ws 1 0 ∷ get_or ws 2 0 ∷ get_or ws 3 0 ∷ get_or ws 4 0 ∷ rest)
      (ap (λ (rest : List ℕ). part ws header_words k ++ take b rest) (sym (drop-drop k 5 ws))
      ∙ ap (λ (rest : List ℕ). part ws header_words k ++ rest) (take_all b (drop k (drop 5 ws)) short)
      ∙ take-append-drop k (drop 5 ws))
      ∙ five ws (omega arith)
    where
      ws : List ℕ
      ws = words_of image

      k : ℕ
      k = entry_words * get_or (words_of image) 1 0

      b : ℕ
      b = get_or (words_of image) 2 0

      half_open : length ws ≡ 5 + k + b
      half_open = half

      short : length (drop k (drop 5 ws)) ≤ b
      short = let l = half_open in let e = length-drop 5 ws in let f = length-drop k (drop 5 ws) in omega arith

  pub image_read : ((i : ℕ) → i < length image → get_or image i 0 < 256) → image_of (image_header image) (image_objects image) ≡ image
  unfolding image_of
  image_read h = ap bytes_of words_back ∙ bytes_words image (let b = exact in omega arith) h

-- The three parts of an image, stored one after the other
pub written_image : {first second third : List ℕ} (h : Header) (contents bodies output : List ℕ) → entry_words * h.n ≤ length contents → h.b ≤ length bodies
    → image_bytes h.n h.b ≤ length output → first ≡ sets output 0 (bytes_of (head_words h)) → second ≡ sets first (2 * header_words) (bytes_of (take (entry_words * h.n) contents))
    → third ≡ sets second (2 * (header_words + entry_words * h.n)) (bytes_of (take h.b bodies))
    → third ≡ image_of h (objects_at h.n h.b contents bodies) ++ drop (image_bytes h.n h.b) output
unfolding image_of
written_image h contents bodies output lc lb lo p q r =
    r ∙ ap (λ (l : List ℕ). sets l (2 * (header_words + entry_words * h.n)) (bytes_of ws)) (q ∙ ap (λ (l : List ℕ). sets l (2 * header_words) (bytes_of vs)) p)
    ∙ ap (λ (k : ℕ). sets (sets (sets output 0 (bytes_of (head_words h))) 10 (bytes_of vs)) k (bytes_of ws)) there
    ∙ sym (sets_append (sets output 0 (bytes_of (head_words h))) 10 (bytes_of vs) (bytes_of ws))
    ∙ ap (λ (k : ℕ). sets (sets output 0 (bytes_of (head_words h))) k (bytes_of vs ++ bytes_of ws)) ten
    ∙ sym (sets_append output 0 (bytes_of (head_words h)) (bytes_of vs ++ bytes_of ws))
    ∙ ap (sets output 0) (ap (λ (l : List ℕ). bytes_of (head_words h) ++ l) (sym (bytes_append vs ws)) ∙ sym (bytes_append (head_words h) (vs ++ ws)))
    ∙ in_front output (image_of h o) (length_image h o fit) lo
  where
    o : Objects
    o = objects_at h.n h.b contents bodies

    vs : List ℕ
    vs = take (entry_words * h.n) contents

    ws : List ℕ
    ws = take h.b bodies

    ten : 10 ≡ 0 + length (bytes_of (head_words h))
    ten = let a = length_bytes (head_words h) in omega arith

    fit : Fitting h o
    fit = record { objects = refl; words = refl; contents = length-take-le (entry_words * h.n) contents lc; bodies = length-take-le h.b bodies lb }

    there : 2 * (header_words + entry_words * h.n) ≡ 10 + length (bytes_of vs)
    there = let a = length_bytes vs in let b = length-take-le (entry_words * h.n) contents lc in omega arith
