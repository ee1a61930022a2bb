-- What the code writes in the buffers is what the definitions write in the objects there.
use Prim.Native.Nat.{ℕ, ◌+◌, ◌*◌, ◌/◌, ◌%◌, ◌≤◌, ◌<◌}
use mathlib.Core.Path.{◌≡◌, sym, ap, ap₂, ◌∙◌}
use mathlib.Core.List.{List, ◌++◌}
use native.Mathlib.Omega.{arith}
use lib.ListN.{length, take, drop, set, length-set, take-append-drop}
use lib.Seq.{length-take-le, set-append_left}
use borrow.Author.Tests.{eq-eqb, ne_eqb}
use Rattle.bytecode.proofs.Choice.{if_yes, if_no}
use Rattle.model.specs.Objects.{Objects, objects_at, class_word, start, body_word, class_of, at_front}
use Rattle.model.specs.Primitive.{store_word, store_byte}
pub use Rattle.model.proofs.Lent.{contents_room, bodies_room, front_same}

module _ (n b : ℕ) (contents bodies : List ℕ) where
  -- the class by cases of the word
  pub class_integer : (w : ℕ) → w % 2 ≡ 1 → 8 ≡ class_of (objects_at n b contents bodies) w
  unfolding class_of
  class_integer w h = sym (if_yes _ _ (eq-eqb (w % 2) 1 h))

  pub class_object : (w : ℕ) {r : ℕ} → (w % 2 ≡ 1 → ⊥) → r ≡ class_word (objects_at n b contents bodies) (w / 2) → r ≡ class_of (objects_at n b contents bodies) w
  unfolding class_of
  class_object w d e = e ∙ sym (if_no _ _ (ne_eqb (w % 2) 1 d))

  -- a store below b
  pub stored : (k i w at : ℕ) → b ≤ length bodies → at ≡ start (objects_at n b contents bodies) k + i → at < b
      → set bodies at w ≡ at_front (store_word (objects_at n b contents bodies) k i w).bodies bodies
  unfolding store_word
  stored k i w at r e l =
      let t = length-take-le b bodies r in
      ap (λ (x : List ℕ). set x at w) (sym (take-append-drop b bodies))
      ∙ set-append_left (take b bodies) (drop b bodies) at w (omega arith)
      ∙ ap₂ (λ (x y : ℕ). set (take b bodies) x w ++ drop y bodies) e (sym (length-set (take b bodies) (start (objects_at n b contents bodies) k + i) w ∙ t))

-- a byte stored, by the half of the word that it is
pub byte_high : (o : Objects) (k i v w : ℕ) → i % 2 ≡ 0 → w ≡ body_word o k (i / 2) → store_word o k (i / 2) (v * 256 + w % 256) ≡ store_byte o k i v
unfolding store_byte
byte_high o k i v w h e = ap (store_word o k (i / 2)) (ap (λ (x : ℕ). v * 256 + x % 256) e ∙ sym (if_yes _ _ (eq-eqb (i % 2) 0 h)))

pub byte_low : (o : Objects) (k i v w : ℕ) → (i % 2 ≡ 0 → ⊥) → w ≡ body_word o k (i / 2) → store_word o k (i / 2) (w / 256 * 256 + v) ≡ store_byte o k i v
unfolding store_byte
byte_low o k i v w h e = ap (store_word o k (i / 2)) (ap (λ (x : ℕ). x / 256 * 256 + v) e ∙ sym (if_no _ _ (ne_eqb (i % 2) 0 h)))
