-- Which primitive a number is, and what its outcome leaves.
use Prim.Native.Nat.{ℕ, ◌*◌, ◌≤◌, ◌<◌}
use mathlib.Core.Path.{◌≡◌, refl, sym, ap, ap₂, ◌∙◌, subst}
use mathlib.Core.Logic.{◌≢◌}
use mathlib.Core.Bool.{Bool, false, ◌&&◌, ◌||◌}
use mathlib.Core.List.{List, [], ◌∷◌}
use native.Mathlib.Omega.{arith}
use native.Mathlib.Decide.{dec_le}
use borrow.Author.Tests.{eq-eqb, ne_eqb, le-leb, lt-leb}
use lib.Dec.{leb, eqb}
use lib.ListN.{length, get_or}
use Rattle.bytecode.specs.Test.{when◌then◌else◌}
use Rattle.bytecode.proofs.Choice.{if_yes, if_no, if_cases}
use Rattle.std.specs.Prelude.{Option}
use Rattle.model.specs.Limits.{entry_words}
use Rattle.model.specs.Word.{boolean_word}
use Rattle.model.specs.Objects.{Objects, objects_at, class_of, at_front}
use Rattle.model.specs.Image.{Room}
use Rattle.model.specs.Rules.{Right}
use Rattle.model.specs.Primitive.{Outcome, answers, fails, store_word, store_byte, at, at_put, size_answer, has_room, make, new, new_with, perform, primitive_count, primitive}
use Rattle.objects.proofs.Buffers.{contents_room, front_same}
use Rattle.primitives.specs.declared.Done.{Done}
use Rattle.primitives.specs.Outcomes.{objects_after, room_of, done_with, Puts, Does}
use Rattle.primitives.proofs.Growing.{does_same}

-- 61 leaves entries, n and b.
record Stays (o : Objects) (z : Outcome) : Type 0 where
  n : (objects_after o z).n ≡ o.n
  b : (objects_after o z).b ≡ o.b
  contents : (objects_after o z).contents ≡ o.contents

put_stays : (o : Objects) (w x v : ℕ) → Stays o (at_put o w x v)
unfolding at_put objects_after store_byte store_word
put_stays o w x v =
    if_cases (Stays o) _ _ fails
    (λ p. if_cases (Stays o) _ _ _
    (λ q. if_cases (Stays o) _ _ fails (λ s. record { n = refl; b = refl; contents = refl }) (λ s. record { n = refl; b = refl; contents = refl }))
    (λ q. record { n = refl; b = refl; contents = refl }))
    (λ p. record { n = refl; b = refl; contents = refl })

pub does_put : {e n b : ℕ} {contents bodies after : List ℕ} {y : Option ℕ} {r : Done} {z : Outcome} (w x v : ℕ) → Right e (objects_at n b contents bodies) → r ≡ done_with y n b
    → at_put (objects_at n b contents bodies) w x v ≡ z → Puts (objects_at n b contents bodies) (at_put (objects_at n b contents bodies) w x v) y bodies after
    → Does (objects_at n b contents bodies) z r contents bodies contents after
does_put {n} {b} {contents} {bodies} {after} {y} {r} {z} w x v h e p q =
    let s = put_stays (objects_at n b contents bodies) w x v in
    subst (λ (d : Done). Does (objects_at n b contents bodies) z d contents bodies contents after) (sym e)
    (does_same p (record {
      answer = q.answer;
      count = sym s.n;
      size = sym s.b;
      entries = sym (front_same (entry_words * n) contents (contents_room n b contents bodies h)) ∙ ap (λ (l : List ℕ). at_front l contents) (sym s.contents);
      words = q.words;
    }))

-- The primitive of a number
module _ (edition : ℕ) (room : Room) (o : Objects) (k w x y : ℕ) where
  there : (j : ℕ) (z : Outcome) → z ≡ perform edition room o j w x y → k ≡ j → z ≡ perform edition room o k w x y
  there j z p e = p ∙ ap (λ (i : ℕ). perform edition room o i w x y) (sym e)

  pub is_60 : k ≡ 60 → at o w x ≡ perform edition room o k w x y
  unfolding perform when◌then◌else◌
  is_60 e = there 60 (at o w x) refl e

  pub is_61 : k ≡ 61 → at_put o w x y ≡ perform edition room o k w x y
  unfolding perform when◌then◌else◌
  is_61 e = there 61 (at_put o w x y) refl e

  pub is_62 : k ≡ 62 → size_answer o w ≡ perform edition room o k w x y
  unfolding perform when◌then◌else◌
  is_62 e = there 62 (size_answer o w) refl e

  pub is_70 : k ≡ 70 → new room o w ≡ perform edition room o k w x y
  unfolding perform when◌then◌else◌
  is_70 e = there 70 (new room o w) refl e

  pub is_71 : k ≡ 71 → new_with room o w x ≡ perform edition room o k w x y
  unfolding perform when◌then◌else◌
  is_71 e = there 71 (new_with room o w x) refl e

  pub is_110 : k ≡ 110 → answers (boolean_word (eqb w x)) o ≡ perform edition room o k w x y
  unfolding perform when◌then◌else◌
  is_110 e = there 110 (answers (boolean_word (eqb w x)) o) refl e

  pub is_111 : k ≡ 111 → answers (class_of o w) o ≡ perform edition room o k w x y
  unfolding perform when◌then◌else◌
  is_111 e = there 111 (answers (class_of o w) o) refl e

  pub is_none : (1 ≤ k → 17 < k) → k ≢ 60 → k ≢ 61 → k ≢ 62 → k ≢ 70 → k ≢ 71 → k ≢ 110 → k ≢ 111 → fails ≡ perform edition room o k w x y
  unfolding perform
  is_none h a b c d e f g =
      sym (if_no _ _ (low (dec_le 1 k)) ∙ if_no _ _ (ne_eqb k 60 a) ∙ if_no _ _ (ne_eqb k 61 b) ∙ if_no _ _ (ne_eqb k 62 c) ∙ if_no _ _ (ne_eqb k 70 d) ∙ if_no _ _ (ne_eqb k 71 e)
      ∙ if_no _ _ (ne_eqb k 110 f) ∙ if_no _ _ (ne_eqb k 111 g))
    where
      low : Dec (1 ≤ k) → (leb 1 k && leb k 17) ≡ false
      low (yes q) = ap₂ ◌&&◌ (le-leb 1 k q) (lt-leb k 17 (h q))
      low (no q) = ap (λ (t : Bool). t && leb k 17) (lt-leb 1 k (omega arith))

  pub other_count : (count : ℕ) → count ≢ primitive_count k → fails ≡ primitive edition room o k count w (x ∷ y ∷ [])
  unfolding primitive
  other_count count d = sym (if_no _ _ (ne_eqb count (primitive_count k) d))

  pub own_count : (count : ℕ) → count ≡ primitive_count k → perform edition room o k w x y ≡ primitive edition room o k count w (x ∷ y ∷ [])
  unfolding primitive
  own_count count e = sym (if_yes _ _ (eq-eqb count (primitive_count k) e))

-- Only two lengths matter to a primitive, and of the arguments those that it takes.
pub room_same : (edition : ℕ) (room : Room) (contents bodies : List ℕ) (o : Objects) (k w x y : ℕ) → room.contents ≡ length contents → room.bodies ≡ length bodies
    → perform edition (room_of contents bodies) o k w x y ≡ perform edition room o k w x y
unfolding perform new new_with make has_room
room_same edition room contents bodies o k w x y p q =
    ap₂ (λ (c b : ℕ). perform edition (record { contents = c; bodies = b; stack = 0; cache = 0 }) o k w x y) (sym p) (sym q)

pub primitive_same : (edition : ℕ) (room : Room) (contents bodies : List ℕ) (o : Objects) (k count w : ℕ) (arguments : List ℕ) → room.contents ≡ length contents → room.bodies ≡ length bodies
    → primitive edition (room_of contents bodies) o k count w (get_or arguments 0 0 ∷ get_or arguments 1 0 ∷ []) ≡ primitive edition room o k count w arguments
unfolding primitive
primitive_same edition room contents bodies o k count w arguments p q =
    ap (λ (z : Outcome). when eqb count (primitive_count k) then z else fails) (room_same edition room contents bodies o k w (get_or arguments 0 0) (get_or arguments 1 0) p q)

-- the counts, by the tests of the code
counted : (k j c : ℕ) → c ≡ primitive_count j → k ≡ j → c ≡ primitive_count k
counted k j c p e = p ∙ ap primitive_count (sym e)

pub count_61 : {k : ℕ} → k ≡ 61 → 2 ≡ primitive_count k
unfolding primitive_count when◌then◌else◌
count_61 {k} e = counted k 61 2 refl e

pub count_62 : {k : ℕ} → k ≡ 62 → 0 ≡ primitive_count k
unfolding primitive_count when◌then◌else◌
count_62 {k} e = counted k 62 0 refl e

pub count_70 : {k : ℕ} → k ≡ 70 → 0 ≡ primitive_count k
unfolding primitive_count when◌then◌else◌
count_70 {k} e = counted k 70 0 refl e

pub count_111 : {k : ℕ} → k ≡ 111 → 0 ≡ primitive_count k
unfolding primitive_count when◌then◌else◌
count_111 {k} e = counted k 111 0 refl e

pub count_one : {k : ℕ} → k ≢ 61 → k ≢ 62 → k ≢ 70 → k ≢ 111 → 1 ≡ primitive_count k
unfolding primitive_count
count_one {k} a b c d =
    sym (if_no _ _ (ne_eqb k 61 a) ∙ if_no _ _ (ap₂ ◌||◌ (ne_eqb k 62 b) (ap₂ ◌||◌ (ne_eqb k 70 c) (ne_eqb k 111 d))))
