-- The verdicts of 1, 2 and 3, and what is stored by each verdict.
use Prim.Native.Nat.{ℕ, ◌*◌, ◌≤◌, ◌<◌}
use mathlib.Core.Path.{◌≡◌, refl, sym, ap, ◌∙◌}
use mathlib.Core.Bool.{Bool, true, false, ◌&&◌}
use mathlib.Core.List.{List, []}
use native.Mathlib.Omega.{arith}
use lib.ListN.{replicate}
use Rattle.bytecode.proofs.Choice.{if_le, if_gt}
use Rattle.model.specs.Limits.{entry_words, bytes_kind}
use Rattle.model.specs.Word.{is_valid}
use Rattle.model.specs.Objects.{Objects, is_kind}
use Rattle.model.specs.Rules.{header_fine, rule8}
use Rattle.model.specs.Image.{Room, image_header, image_objects, Verdict, accepted, refused, length_fine, buffers_fine, object_tests, objects_verdict, load_verdict}
use Rattle.model.proofs.OrderLaws.{Refuses, number_of_lem}
use Rattle.readers.proofs.Loops.{and_true}
use Rattle.store.specs.Answer.{number_of, Stored, stored, in_front, stored_by}

-- 1 to 3, and what is left then
module _ (room : Room) (image : List ℕ) where
  pub gives_1 : length_fine image ≡ false → load_verdict room image ≡ refused 1
  unfolding load_verdict
  gives_1 one = rw one

  module _ (one : length_fine image ≡ true) where
    pub gives_2 : header_fine (image_header image).edition (image_header image).n (image_header image).b ≡ false → load_verdict room image ≡ refused 2
    unfolding load_verdict
    gives_2 two = rw (one, two)

    module _ (two : header_fine (image_header image).edition (image_header image).n (image_header image).b ≡ true) where
      pub gives_3 : buffers_fine room (image_header image).n (image_header image).b ≡ false → load_verdict room image ≡ refused 3
      unfolding load_verdict
      gives_3 three = rw (one, two, three)

      pub gives_rest : buffers_fine room (image_header image).n (image_header image).b ≡ true
          → load_verdict room image ≡ objects_verdict (image_header image).edition (image_objects image) (image_header image).receiver (image_header image).selector
      unfolding load_verdict objects_verdict
      gives_rest three = rw (one, two, three)

-- A verdict that refuses by 4 or more, if at all
abbrev pub Late : Verdict → Type 0
Late = Refuses (λ k. 3 < k)

pub late : (e : ℕ) (o : Objects) (receiver selector : ℕ) → Late (objects_verdict e o receiver selector)
unfolding objects_verdict
late e o receiver selector =
    number_of_lem (λ k. 3 < k) (object_tests e o receiver selector)
    (omega arith, (omega arith, (omega arith, (omega arith, (omega arith, (omega arith, tt))))))

-- what is stored, by the number
pub early : (k : ℕ) (image contents bodies : List ℕ) → k ≤ 3 → stored_by (refused k) image contents bodies ≡ stored k contents bodies
unfolding stored_by
early k image contents bodies h = if_le k 3 _ _ h

pub kept : (v : Verdict) (image contents bodies : List ℕ) → Late v → 0 ≡ number_of v
    → stored_by v image contents bodies ≡ in_front 0 (image_header image).n (image_header image).b (image_objects image).contents (image_objects image).bodies contents bodies
unfolding stored_by number_of
kept accepted image contents bodies l e = refl
kept (refused k) image contents bodies l e = absurd (omega arith)

pub undone : (v : Verdict) (k : ℕ) (image contents bodies : List ℕ) → Late v → k ≡ number_of v → (k ≡ 0 → ⊥)
    → stored_by v image contents bodies
    ≡ in_front k (image_header image).n (image_header image).b (replicate (entry_words * (image_header image).n) 0) (replicate (image_header image).b 0) contents bodies
unfolding stored_by number_of
undone accepted k image contents bodies l e d = absurd (d e)
undone (refused j) k image contents bodies l e d =
    if_gt j 3 _ _ l
    ∙ ap (λ (i : ℕ). in_front i (image_header image).n (image_header image).b (replicate (entry_words * (image_header image).n) 0) (replicate (image_header image).b 0) contents bodies) (sym e)

pub refuse : (v : Verdict) (k : ℕ) (image contents bodies : List ℕ) → v ≡ refused k → k ≤ 3 → stored k contents bodies ≡ stored_by v image contents bodies
refuse v k image contents bodies e h = sym (ap (λ (x : Verdict). stored_by x image contents bodies) e ∙ early k image contents bodies h)

-- 8 without arguments
module _ (o : Objects) (receiver selector : ℕ) where
  pub receiver_no : is_valid o.n receiver ≡ false → rule8 o receiver selector [] ≡ false
  unfolding rule8
  receiver_no e = rw e

  pub by_selector : is_valid o.n receiver ≡ true → rule8 o receiver selector [] ≡ is_kind o bytes_kind selector
  unfolding rule8
  by_selector e = ap (λ (b : Bool). b && (is_kind o bytes_kind selector && true)) e ∙ and_true (is_kind o bytes_kind selector)

-- the same verdict stores the same
pub stores : (s : Stored) (v w : Verdict) (image contents bodies : List ℕ) → w ≡ v → s ≡ stored_by v image contents bodies → s ≡ stored_by w image contents bodies
stores s v w image contents bodies e h = h ∙ ap (λ (x : Verdict). stored_by x image contents bodies) (sym e)
