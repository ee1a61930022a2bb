-- Which words are inside, by the kind of the object; and the layout of right objects.
use Prim.Native.Nat.{ℕ, ◌+◌, ◌*◌, ◌≤◌, ◌<◌}
use mathlib.Core.Path.{◌≡◌, sym, subst}
use mathlib.Core.Bool.{not}
use mathlib.Core.List.{List}
use native.Mathlib.Omega.{arith}
use lib.Dec.{T}
use Rattle.model.specs.Limits.{class_kind, class_words, list_kind, method_kind, selectors_object, special_selectors, primitive_flag}
use Rattle.model.specs.Word.{pointer, object_number}
use Rattle.model.specs.Objects.{Objects, objects_at, kind, size, sized_in_bytes, body_words, is_kind}
use Rattle.model.specs.Method.{flag, literal_count}
use Rattle.model.specs.Rules.{Right}
use Rattle.model.proofs.ChainLaws.{named}
use Rattle.model.proofs.Lent.{contents_room, bodies_room}
use Rattle.model.proofs.Facts.{least, most, most_words, layout, inside, in_words, in_bytes, not_sized, naming, named_pointer}
use Rattle.readers.specs.Places.{Entry, Inside, CountInside, Laid}

module _ {n b : ℕ} {contents bodies : List ℕ} (l : Laid n b contents bodies) where
  abbrev o : Objects
  o = objects_at n b contents bodies

  pub entry_here : (k w : ℕ) → T (is_kind o k w) → Entry n (object_number w) contents
  entry_here k w t = let q = named o k w t in record { entries = l.entries; least = q.least; most = q.most }

  pub body_inside : {w i : ℕ} → 1 ≤ object_number w → object_number w ≤ n → i < body_words o (object_number w) → Inside n b contents bodies w i
  body_inside {w} {i} h g s =
      let e = l.inside (object_number w) h g in
      record { entries = l.entries; words = l.words; least = h; most = g; below = omega arith }

  pub kind_inside : (k : ℕ) {w i : ℕ} → T (is_kind o k w) → i < body_words o (object_number w) → Inside n b contents bodies w i
  kind_inside k {w} t s = let q = named o k w t in body_inside q.least q.most s

  pub class_inside : {c i : ℕ} → T (is_kind o class_kind c) → i < class_words → Inside n b contents bodies c i
  class_inside {c} {i} t s =
      let q = named o class_kind c t in
      let k = q.kinds in
      let z = l.four (object_number c) q.least q.most k in
      let w = in_words o (object_number c) (λ e. omega arith) (λ e. omega arith) in
      kind_inside class_kind t (omega arith)

  -- fields and lists, whose size is in words
  pub word_inside : (k : ℕ) {w i : ℕ} → T (not (sized_in_bytes k)) → T (is_kind o k w) → i < size o (object_number w) → Inside n b contents bodies w i
  word_inside k {w} {i} p t s =
      let q = named o k w t in
      let d = not_sized (kind o (object_number w)) (subst (λ (x : ℕ). T (not (sized_in_bytes x))) (sym q.kinds) p) in
      let e = in_words o (object_number w) d.0 d.1 in
      kind_inside k t (omega arith)

  -- a method's header, home and literals
  pub method_inside : {m i : ℕ} (literals : ℕ) → T (is_kind o method_kind m) → 4 + 2 * literals ≤ size o (object_number m) → i < 2 + literals → Inside n b contents bodies m i
  method_inside {m} {i} literals t h s =
      let q = named o method_kind m t in
      let e = in_bytes o (object_number m) (subst (λ (x : ℕ). T (sized_in_bytes x)) (sym q.kinds) tt) in
      kind_inside method_kind t (omega arith)

  pub count_inside : {m : ℕ} → T (is_kind o method_kind m) → 4 + 2 * literal_count o m ≤ size o (object_number m) → (flag o m ≡ primitive_flag → 2 ≤ literal_count o m)
      → CountInside n b contents bodies m
  count_inside {m} t h two =
      record { header = method_inside (literal_count o m) t h (omega arith); two = two; extended = λ e. method_inside (literal_count o m) t h (omega arith) }

  pub selectors_inside : {i : ℕ} → kind o selectors_object ≡ list_kind → size o selectors_object ≡ special_selectors → i < special_selectors → Inside n b contents bodies (pointer selectors_object) i
  selectors_inside {i} e h s =
      let g = l.known in
      word_inside list_kind tt
      (subst (λ (x : ℕ). T (is_kind o x (pointer selectors_object))) e (naming o (kind o selectors_object) (pointer selectors_object) (named_pointer o selectors_object (omega arith) g)))
      (omega arith)

pub right_laid : {e n b : ℕ} {contents bodies : List ℕ} → Right e (objects_at n b contents bodies) → Laid n b contents bodies
right_laid {e} {n} {b} {contents} {bodies} r =
    record {
      entries = contents_room n b contents bodies r;
      words = bodies_room n b contents bodies r;
      known = least r;
      most = most r;
      most_words = most_words r;
      inside = inside r;
      four = λ k h g. (layout r k h g).four;
    }
