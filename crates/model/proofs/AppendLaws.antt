-- One more object, of a class that it fits, leaves right objects right and extends them.
use Prim.Native.Nat.{ℕ, ◌+◌, ◌-◌, ◌*◌, ◌/◌, ◌%◌, ◌≤◌, ◌<◌}
use mathlib.Core.Path.{◌≡◌, refl, sym, ap, ap₂, ◌∙◌, subst}
use mathlib.Core.Bool.{◌&&◌}
use mathlib.Core.List.{List, [], ◌∷◌, ◌++◌}
use native.Mathlib.Omega.{arith}
use native.Mathlib.Decide.{dec_le}
use lib.Dec.{T, leb, ltb, leb→le, le→leb, ltb→lt}
use lib.ListN.{length, get_or, length-append, get_or-append}
use lib.Seq.{get_or-append-add}
use Rattle.bytecode.proofs.TestLaws.{and_left, and_right, and_both}
use Rattle.model.specs.Limits.{least_objects, most_objects, most_body_words, entry_words, fields_kind, bytes_kind, class_kind, fixed_form, indexed_form, bytes_form}
use Rattle.model.specs.Word.{is_valid}
use Rattle.model.specs.Objects.{Objects, entry_word, class_word, kind, start, size, sized_in_bytes, body_words, body_word, is_kind, field_count, form}
use Rattle.model.specs.Image.{Room}
use Rattle.model.specs.Primitive.{appended, has_room}
use Rattle.model.proofs.Facts.{Right, Padded, Layout, Fits, fixed, indexed, bytes, in_words, in_bytes, sized_at, least_of, least, layout, last_end, inside, word_valid}
use Rattle.model.proofs.Extends.{Free, Extends, words_same, valid_grows, kind_kept, fields_same, form_same}
use Rattle.model.proofs.RightLaws.{Renewed, right_kept}

-- N, B and the buffers have room for it.
pub record HasRoom (room : Room) (o : Objects) (count : ℕ) : Type 0 where
  pub objects : o.n < most_objects
  pub words : o.b + count ≤ most_body_words
  pub contents : entry_words * (o.n + 1) ≤ room.contents
  pub bodies : o.b + count ≤ room.bodies

pub room_facts : (room : Room) (o : Objects) (count : ℕ) → T (has_room room o count) → HasRoom room o count
unfolding has_room
room_facts room o count t =
    let p : T (leb (o.b + count) most_body_words && (leb (entry_words * (o.n + 1)) room.contents && leb (o.b + count) room.bodies)) = and_right (ltb o.n most_objects) _ t in
    let q : T (leb (entry_words * (o.n + 1)) room.contents && leb (o.b + count) room.bodies) = and_right (leb (o.b + count) most_body_words) _ p in
    record {
      objects = ltb→lt o.n most_objects (and_left (ltb o.n most_objects) _ t);
      words = leb→le (o.b + count) most_body_words (and_left (leb (o.b + count) most_body_words) _ p);
      contents = leb→le (entry_words * (o.n + 1)) room.contents (and_left (leb (entry_words * (o.n + 1)) room.contents) _ q);
      bodies = leb→le (o.b + count) room.bodies (and_right (leb (entry_words * (o.n + 1)) room.contents) _ q);
    }

-- A body that suits the form of class c: as many fields, at least as many, or bytes with their padding
pub data Suits (o : Objects) (c kd sz : ℕ) (body : List ℕ) : Type 0 where
  as_many : kd ≡ fields_kind → form o c ≡ fixed_form → sz ≡ field_count o c → length body ≡ sz
      → ((i : ℕ) → i < length body → T (is_valid (o.n + 1) (get_or body i 0))) → Suits o c kd sz body
  at_least : kd ≡ fields_kind → form o c ≡ indexed_form → field_count o c ≤ sz → length body ≡ sz
      → ((i : ℕ) → i < length body → T (is_valid (o.n + 1) (get_or body i 0))) → Suits o c kd sz body
  of_bytes : kd ≡ bytes_kind → form o c ≡ bytes_form → length body ≡ (sz + 1) / 2
      → (sz % 2 ≡ 1 → get_or body (length body - 1) 0 % 256 ≡ 0) → Suits o c kd sz body

suits_kind : {o : Objects} {c kd sz : ℕ} {body : List ℕ} → Suits o c kd sz body → kd ≤ 1
suits_kind (as_many p f m q v) = omega arith
suits_kind (at_least p f m q v) = omega arith
suits_kind (of_bytes p f q v) = omega arith

pub suits_free : {o : Objects} {c kd sz : ℕ} {body : List ℕ} → Suits o c kd sz body → Free kd
suits_free s h = let k = suits_kind s in absurd (omega arith)

module _ {e : ℕ} {o : Objects} (r : Right e o) (c kd sz : ℕ) (body : List ℕ) where
  abbrev grown : Objects
  grown = appended o c kd sz body

  -- the one object that is new
  one_more : (k : ℕ) → o.n < k → k ≤ grown.n → k ≡ o.n + 1
  unfolding appended
  one_more k a b = omega arith

  -- the old entries and the new one
  pub appended_entry : (k i : ℕ) → 1 ≤ k → k ≤ o.n → i < entry_words → entry_word grown k i ≡ entry_word o k i
  unfolding appended
  appended_entry k i h g l = let q = r.contents in get_or-append o.contents (c ∷ kd ∷ o.b ∷ sz ∷ []) 0 (entry_words * (k - 1) + i) (omega arith)

  new_entry : (k i : ℕ) → k ≡ o.n + 1 → entry_word grown k i ≡ get_or (c ∷ kd ∷ o.b ∷ sz ∷ []) i 0
  unfolding appended
  new_entry k i p =
      let q = r.contents in
      let there : entry_words * (k - 1) + i ≡ length o.contents + i = omega arith in
      ap (λ (x : ℕ). get_or (o.contents ++ (c ∷ kd ∷ o.b ∷ sz ∷ [])) x 0) there ∙ get_or-append-add o.contents (c ∷ kd ∷ o.b ∷ sz ∷ []) i 0

  -- the old words and the new ones
  pub appended_word : (k i : ℕ) → 1 ≤ k → k ≤ o.n → i < body_words o k → body_word grown k i ≡ body_word o k i
  unfolding appended
  appended_word k i h g l =
      let q = inside r k h g in
      let s = r.bodies in
      ap (λ (x : ℕ). get_or (o.bodies ++ body) (x + i) 0) (appended_entry k 2 h g (omega arith)) ∙ get_or-append o.bodies body 0 (start o k + i) (omega arith)

  new_word : (k i : ℕ) → k ≡ o.n + 1 → body_word grown k i ≡ get_or body i 0
  unfolding appended
  new_word k i p =
      ap (λ (x : ℕ). get_or (o.bodies ++ body) (x + i) 0) (new_entry k 2 p ∙ sym r.bodies) ∙ get_or-append-add o.bodies body i 0

  pub appended_extends : Free kd → Extends o grown
  appended_extends h =
      record {
        grows = more;
        longer = longer;
        entries = appended_entry;
        bodies = λ k i a b d l. appended_word k i a b l;
        new = λ k a b. subst Free (sym (new_entry k 1 (one_more k a b))) h;
      }
    where
      more : o.n ≤ grown.n
      more = unfold appended in omega arith

      longer : length o.bodies ≤ length grown.bodies
      longer = unfold appended in let q = length-append o.bodies body in omega arith

  module _ (t : T (is_kind o class_kind c)) (s : Suits o c kd sz body) where
    ext : Extends o grown
    ext = appended_extends (suits_free s)

    new_words_lem : (k : ℕ) → k ≡ o.n + 1 → body_words grown k ≡ length body
    new_words_lem k h = go s
      where
        at_kind : kind grown k ≡ kd
        at_kind = new_entry k 1 h

        at_size : size grown k ≡ sz
        at_size = new_entry k 3 h

        go : Suits o c kd sz body → body_words grown k ≡ length body
        go (as_many p f m q v) = let a = at_kind in in_words grown k (omega arith) (omega arith) ∙ at_size ∙ sym q
        go (at_least p f m q v) = let a = at_kind in in_words grown k (omega arith) (omega arith) ∙ at_size ∙ sym q
        go (of_bytes p f q v) = in_bytes grown k (sized_at (kind grown k) bytes_kind (at_kind ∙ p) tt) ∙ ap (λ (x : ℕ). (x + 1) / 2) at_size ∙ sym q

    new_class : (k : ℕ) → k ≡ o.n + 1 → T (is_kind grown class_kind (class_word grown k))
    new_class k h = subst (λ (x : ℕ). T (is_kind grown class_kind x)) (sym (new_entry k 0 h)) (kind_kept ext class_kind c t)

    new_fits : (k : ℕ) → k ≡ o.n + 1 → Fits grown k (class_word grown k)
    new_fits k h = subst (Fits grown k) (sym (new_entry k 0 h)) (go s)
      where
        at_kind : kind grown k ≡ kd
        at_kind = new_entry k 1 h

        at_size : size grown k ≡ sz
        at_size = new_entry k 3 h

        fm : form grown c ≡ form o c
        fm = form_same ext r c t

        fc : field_count grown c ≡ field_count o c
        fc = fields_same ext r c t

        go : Suits o c kd sz body → Fits grown k c
        go (as_many p f m q v) = fixed (fm ∙ f) (at_kind ∙ p) (at_size ∙ m ∙ sym fc)
        go (at_least p f m q v) = let a = fc in let b = at_size in indexed (fm ∙ f) (at_kind ∙ p) (omega arith)
        go (of_bytes p f q v) = bytes (fm ∙ f) (at_kind ∙ p)

    new_padded : (k : ℕ) → k ≡ o.n + 1 → Padded grown k
    new_padded k h a b = go s
      where
        at_kind : kind grown k ≡ kd
        at_kind = new_entry k 1 h

        fields : kd ≡ fields_kind → ⊥
        fields p = subst (λ (x : ℕ). T (sized_in_bytes x)) (at_kind ∙ p) a

        go : Suits o c kd sz body → body_word grown k (body_words grown k - 1) % 256 ≡ 0
        go (as_many p f m q v) = absurd (fields p)
        go (at_least p f m q v) = absurd (fields p)
        go (of_bytes p f q v) =
            ap (λ (x : ℕ). body_word grown k (x - 1) % 256) (new_words_lem k h) ∙ ap (λ (x : ℕ). x % 256) (new_word k (length body - 1) h)
            ∙ v (ap (λ (x : ℕ). x % 2) (sym (new_entry k 3 h)) ∙ b)

    -- a body begins where the last one ended
    before_new : (k : ℕ) → k ≡ o.n + 1 → k - 1 ≡ o.n
    before_new k h = omega arith

    new_layout : (k : ℕ) → k ≡ o.n + 1 → Layout grown k
    new_layout k h =
        let l = least r in
        let a : kind grown k ≡ kd = new_entry k 1 h in
        let d = suits_kind s in
        record {
          kinds = omega arith;
          first = λ p. absurd (omega arith);
          next = λ p. new_entry k 2 h ∙ sym (last_end r) ∙ sym (ap₂ ◌+◌ (ap (start grown) (before_new k h) ∙ appended_entry o.n 2 (omega arith)
              (omega arith) (omega arith)) (ap (body_words grown) (before_new k h) ∙ words_same ext o.n (omega arith) (omega arith)));
          four = λ p. absurd (omega arith);
          padded = new_padded k h;
        }

    old_padded : (k : ℕ) → 1 ≤ k → k ≤ o.n → Padded grown k
    old_padded k h g a b =
        let w = words_same ext k h g in
        let a' : T (sized_in_bytes (kind o k)) = subst (λ (x : ℕ). T (sized_in_bytes x)) (appended_entry k 1 h g (omega arith)) a in
        let b' : size o k % 2 ≡ 1 = ap (λ (x : ℕ). x % 2) (sym (appended_entry k 3 h g (omega arith))) ∙ b in
        let z = in_bytes o k a' in
        ap (λ (x : ℕ). body_word grown k (x - 1) % 256) w ∙ ap (λ (x : ℕ). x % 256) (appended_word k (body_words o k - 1) h g (omega arith)) ∙ (layout r k h g).padded a' b'

    new_valid : (i : ℕ) → kd ≡ fields_kind → i < length body → T (is_valid (o.n + 1) (get_or body i 0))
    new_valid i p l = go s
      where
        go : Suits o c kd sz body → T (is_valid (o.n + 1) (get_or body i 0))
        go (as_many q f m d v) = v i l
        go (at_least q f m d v) = v i l
        go (of_bytes q f d v) = absurd (omega arith)

    all_valid : (k i : ℕ) → 1 ≤ k → k ≤ grown.n → kind grown k ≡ fields_kind → i < body_words grown k → T (is_valid grown.n (body_word grown k i))
    all_valid k i h g p l = go (dec_le k o.n)
      where
        go : Dec (k ≤ o.n) → T (is_valid grown.n (body_word grown k i))
        go (yes q) =
            let w = words_same ext k h q in
            let a : kind grown k ≡ kind o k = appended_entry k 1 h q (omega arith) in
            subst (λ (x : ℕ). T (is_valid grown.n x)) (sym (appended_word k i h q (omega arith))) (valid_grows ext (body_word o k i) (word_valid r k i h q (omega arith) (omega arith) (omega arith)))
        go (no q) =
            let m = one_more k (omega arith) g in
            let w = new_words_lem k m in
            subst (λ (x : ℕ). T (is_valid grown.n x)) (sym (new_word k i m)) (unfold appended in new_valid i (sym (new_entry k 1 m) ∙ p) (omega arith))

    module _ (f : o.n < most_objects) (g : o.b + length body ≤ most_body_words) where
      fine_sizes : T (leb (least_objects e) grown.n && (leb grown.n most_objects && leb grown.b most_body_words))
      unfolding appended
      fine_sizes =
          let l = least_of r in
          and_both (leb (least_objects e) (o.n + 1)) (leb (o.n + 1) most_objects && leb (o.b + length body) most_body_words) (le→leb (least_objects e) (o.n + 1) (omega arith))
          (and_both (leb (o.n + 1) most_objects) (leb (o.b + length body) most_body_words) (le→leb (o.n + 1) most_objects (omega arith)) (le→leb (o.b + length body) most_body_words g))

      new_end : (k : ℕ) → k ≡ o.n + 1 → start grown k + body_words grown k ≡ grown.b
      new_end k h = ap₂ ◌+◌ (new_entry k 2 h) (new_words_lem k h) ∙ (unfold appended in refl)

      appended_renewed : Renewed e o grown
      appended_renewed =
          record {
            contents = long;
            bodies = (unfold appended in length-append o.bodies body ∙ ap (λ (x : ℕ). x + length body) r.bodies);
            sizes = fine_sizes;
            last = new_end grown.n (unfold appended in refl);
            padded = old_padded;
            fields = all_valid;
            laid = λ k a b. new_layout k (one_more k a b);
            room = λ k a b. let q = new_end k (one_more k a b) in omega arith;
            classes = λ k a b. new_class k (one_more k a b);
            fitting = λ k a b. new_fits k (one_more k a b);
          }
        where
          long : length grown.contents ≡ entry_words * grown.n
          long = unfold appended in let q = r.contents in let p = length-append o.contents (c ∷ kd ∷ o.b ∷ sz ∷ []) in omega arith

      pub appended_right : Right e grown
      appended_right = right_kept ext r appended_renewed
