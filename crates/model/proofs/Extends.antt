-- Objects that hold others: the entries stay, classes, lists and methods keep their words, and new objects are none of these.
-- Lookups, chains and depth tables are then the same.
use Prim.Native.Nat.{ℕ, ◌+◌, ◌-◌, ◌*◌, ◌/◌, ◌%◌, ◌≤◌, ◌<◌}
use mathlib.Core.Path.{◌≡◌, refl, sym, ap, ap₂, ◌∙◌, subst}
use mathlib.Core.Bool.{Bool, ◌||◌}
use native.Mathlib.Omega.{arith}
use native.Mathlib.Decide.{ℕ_discrete, dec_le}
use borrow.Author.Tests.{eq-eqb, ne_eqb}
use lib.Dec.{T, leb, eqb}
use lib.ListN.{length, get_or}
use Rattle.bytecode.specs.Test.{when◌then◌else◌}
use Rattle.bytecode.specs.Constant.{nil_word}
use Rattle.bytecode.proofs.Choice.{if_yes, if_no}
use Rattle.model.specs.Limits.{entry_words, class_kind, list_kind, method_kind, class_words, last_count_flag, primitive_flag, large_frame_words, small_frame_words}
use Rattle.model.specs.Word.{is_integer, is_valid, integer_class}
use Rattle.model.specs.Objects.{Objects, entry_word, class_word, kind, start, size, sized_in_bytes, body_words, body_word, body_of, part, is_kind, is_nil_or, class_of, superclass_word, dictionary_word, field_count, form, pair_count, pair_selector, pair_method}
use Rattle.model.specs.Method.{header, home, literal, flag, temporary_count, literal_count, code_words, code_size, frame_words, extension, primitive_number, argument_count, runs_code}
use Rattle.model.proofs.ChainLaws.{Named, named}
use Rattle.model.proofs.Parts.{same_test, part_same}
use Rattle.model.proofs.Facts.{Right, Valid, odd, names, naming, valid_cases, valid_more, inside, class_words_lem, method_words, list_words, method_facts}

-- a kind that is none of classes, lists and methods
abbrev pub Free : ℕ → Type 0
Free kd = class_kind ≤ kd → method_kind < kd

pub record Extends (o o' : Objects) : Type 0 where
  pub grows : o.n ≤ o'.n
  pub longer : length o.bodies ≤ length o'.bodies
  pub entries : (k i : ℕ) → 1 ≤ k → k ≤ o.n → i < entry_words → entry_word o' k i ≡ entry_word o k i
  pub bodies : (k i : ℕ) → 1 ≤ k → k ≤ o.n → 2 ≤ kind o k → i < body_words o k → body_word o' k i ≡ body_word o k i
  pub new : (k : ℕ) → o.n < k → k ≤ o'.n → Free (kind o' k)

pub extends_refl : (o : Objects) → Extends o o
extends_refl o =
    record { grows = omega arith; longer = omega arith; entries = λ k i a b c. refl; bodies = λ k i a b c d. refl; new = λ k a b. absurd (omega arith) }

-- What the entries alone determine
module _ {o o' : Objects} (x : Extends o o') where
  pub words_same : (k : ℕ) → 1 ≤ k → k ≤ o.n → body_words o' k ≡ body_words o k
  unfolding body_words
  words_same k h g =
      ap₂ (λ (a b : ℕ). when sized_in_bytes a then (b + 1) / 2 else b) (x.entries k 1 h g (omega arith)) (x.entries k 3 h g (omega arith))

  pub valid_grows : (w : ℕ) → T (is_valid o.n w) → T (is_valid o'.n w)
  valid_grows w t = valid_more o.n o'.n w x.grows t

  pub kind_kept : (k w : ℕ) → T (is_kind o k w) → T (is_kind o' k w)
  kind_kept k w t =
      let h = named o k w t in
      let g = x.grows in
      let m : w / 2 ≤ o'.n = omega arith in
      naming o' k w (record { even = h.even; least = h.least; most = m; kinds = x.entries (w / 2) 1 h.least h.most (omega arith) ∙ h.kinds })

  -- an old object's kind, from its new one
  kind_back : (k w : ℕ) → Named o' k w → w / 2 ≤ o.n → T (is_kind o k w)
  kind_back k w h l =
      naming o k w (record { even = h.even; least = h.least; most = l; kinds = sym (x.entries (w / 2) 1 h.least l (omega arith)) ∙ h.kinds })

  -- the same for every word where the kind is that of classes, lists or methods, and for every kind where the word is valid
  pub kind_same : (k w : ℕ) → class_kind ≤ k → k ≤ method_kind → is_kind o' k w ≡ is_kind o k w
  kind_same k w l u = same_test (is_kind o' k w) (is_kind o k w) (λ t. back (named o' k w t) (dec_le (w / 2) o.n)) (kind_kept k w)
    where
      back : Named o' k w → Dec (w / 2 ≤ o.n) → T (is_kind o k w)
      back h (yes q) = kind_back k w h q
      back h (no q) = let z = x.new (w / 2) (omega arith) h.most (omega (arith, h.kinds)) in absurd (omega (arith, h.kinds))

  pub kind_valid : (k w : ℕ) → T (is_valid o.n w) → is_kind o' k w ≡ is_kind o k w
  kind_valid k w v = same_test (is_kind o' k w) (is_kind o k w) (λ t. back (named o' k w t) (valid_cases o.n w v)) (kind_kept k w)
    where
      back : Named o' k w → Valid o.n w → T (is_kind o k w)
      back h (odd q) = absurd (omega (arith, h.even))
      back h (names a b c) = kind_back k w h c

  pub nil_or_same : (k w : ℕ) → class_kind ≤ k → k ≤ method_kind → is_nil_or o' k w ≡ is_nil_or o k w
  nil_or_same k w l u = ap (λ (b : Bool). eqb w nil_word || b) (kind_same k w l u)

  pub class_same : (w : ℕ) → T (is_valid o.n w) → class_of o' w ≡ class_of o w
  unfolding class_of
  class_same w t = go (valid_cases o.n w t)
    where
      go : Valid o.n w → (when is_integer w then integer_class else class_word o' (w / 2)) ≡ (when is_integer w then integer_class else class_word o (w / 2))
      go (odd h) = if_yes _ _ (eq-eqb (w % 2) 1 h) ∙ sym (if_yes _ _ (eq-eqb (w % 2) 1 h))
      go (names a b c) = ap (λ (z : ℕ). when is_integer w then integer_class else z) (x.entries (w / 2) 0 b c (omega arith))

pub extends_trans : {o o' o'' : Objects} → Extends o o' → Extends o' o'' → Extends o o''
extends_trans {o} {o'} {o''} x y =
    record {
      grows = x.grows |> y.grows;
      longer = x.longer |> y.longer;
      entries = λ k i a b c. y.entries k i a (b |> x.grows) c ∙ x.entries k i a b c;
      bodies = words;
      new = fresh;
    }
  where
    infixl 60 ◌|>◌
    ◌|>◌ : {a b c : ℕ} → a ≤ b → b ≤ c → a ≤ c
    h |> g = omega arith

    words : (k i : ℕ) → 1 ≤ k → k ≤ o.n → 2 ≤ kind o k → i < body_words o k → body_word o'' k i ≡ body_word o k i
    words k i a b c d =
        let e = x.entries k 1 a b (omega arith) in
        let s = words_same x k a b in
        y.bodies k i a (b |> x.grows) (omega arith) (omega arith) ∙ x.bodies k i a b c d

    fresh : (k : ℕ) → o.n < k → k ≤ o''.n → Free (kind o'' k)
    fresh k a b = go (dec_le k o'.n)
      where
        go : Dec (k ≤ o'.n) → Free (kind o'' k)
        go (yes q) = subst Free (sym (y.entries k 1 (omega arith) q (omega arith))) (x.new k a q)
        go (no q) = y.new k (omega arith) b

module _ {e : ℕ} {o o' : Objects} (x : Extends o o') (r : Right e o) where
  room : (k : ℕ) → 1 ≤ k → k ≤ o.n → start o k + body_words o k ≤ length o.bodies
  room k h g = let i = inside r k h g in let s = r.bodies in omega arith

  -- the body of a class, list or method
  pub body_same : (k : ℕ) → 1 ≤ k → k ≤ o.n → 2 ≤ kind o k → body_of o' k ≡ body_of o k
  unfolding body_of
  body_same k h g l =
      let q = room k h g in
      let w = x.longer in
      let s : start o' k ≡ start o k = x.entries k 2 h g (omega arith) in
      ap₂ (λ (a b : ℕ). part o'.bodies a b) s (words_same x k h g)
      ∙ part_same o.bodies o'.bodies (start o k) (body_words o k) q (omega arith)
      (λ i b. ap (λ (a : ℕ). get_or o'.bodies (a + i) 0) (sym s) ∙ x.bodies k i h g l b)

  -- classes
  pub class_word_same : (c i : ℕ) → T (is_kind o class_kind c) → i < class_words → body_word o' (c / 2) i ≡ body_word o (c / 2) i
  class_word_same c i t l =
      let h = named o class_kind c t in
      let w = class_words_lem r c t in
      x.bodies (c / 2) i h.least h.most (omega (arith, h.kinds)) (omega arith)

  pub superclass_same : (c : ℕ) → T (is_kind o class_kind c) → superclass_word o' c ≡ superclass_word o c
  superclass_same c t = class_word_same c 0 t (omega arith)

  pub dictionary_same : (c : ℕ) → T (is_kind o class_kind c) → dictionary_word o' c ≡ dictionary_word o c
  dictionary_same c t = class_word_same c 1 t (omega arith)

  pub fields_same : (c : ℕ) → T (is_kind o class_kind c) → field_count o' c ≡ field_count o c
  fields_same c t = ap (λ (w : ℕ). w / 2) (class_word_same c 2 t (omega arith))

  pub form_same : (c : ℕ) → T (is_kind o class_kind c) → form o' c ≡ form o c
  form_same c t = ap (λ (w : ℕ). w / 2) (class_word_same c 3 t (omega arith))

  -- dictionaries
  pub pair_count_same : (d : ℕ) → T (is_kind o list_kind d) → pair_count o' d ≡ pair_count o d
  pair_count_same d t = let h = named o list_kind d t in ap (λ (w : ℕ). w / 2) (x.entries (d / 2) 3 h.least h.most (omega arith))

  list_word_same : (d i : ℕ) → T (is_kind o list_kind d) → i < size o (d / 2) → body_word o' (d / 2) i ≡ body_word o (d / 2) i
  list_word_same d i t l =
      let h = named o list_kind d t in
      let w = list_words r d t in
      x.bodies (d / 2) i h.least h.most (omega (arith, h.kinds)) (omega arith)

  pub pair_selector_same : (d i : ℕ) → T (is_kind o list_kind d) → i < pair_count o d → pair_selector o' d i ≡ pair_selector o d i
  pair_selector_same d i t l = list_word_same d (2 * i) t (omega arith)

  pub pair_method_same : (d i : ℕ) → T (is_kind o list_kind d) → i < pair_count o d → pair_method o' d i ≡ pair_method o d i
  pair_method_same d i t l = list_word_same d (2 * i + 1) t (omega arith)

  -- methods
  method_word_same : (m i : ℕ) → T (is_kind o method_kind m) → i < body_words o (m / 2) → body_word o' (m / 2) i ≡ body_word o (m / 2) i
  method_word_same m i t l = let h = named o method_kind m t in x.bodies (m / 2) i h.least h.most (omega (arith, h.kinds)) l

  module _ (m : ℕ) (t : T (is_kind o method_kind m)) where
    pub method_size_same : size o' (m / 2) ≡ size o (m / 2)
    method_size_same = let h = named o method_kind m t in x.entries (m / 2) 3 h.least h.most (omega arith)

    pub header_same : header o' m ≡ header o m
    header_same = let w = method_words r m t in let f = (method_facts r m t).long in method_word_same m 0 t (omega arith)

    pub home_same : home o' m ≡ home o m
    home_same = let w = method_words r m t in let f = (method_facts r m t).long in method_word_same m 1 t (omega arith)

    pub flag_same : flag o' m ≡ flag o m
    flag_same = ap (λ (w : ℕ). w / 8192 % 8) header_same

    pub temporaries_same : temporary_count o' m ≡ temporary_count o m
    temporaries_same = ap (λ (w : ℕ). w / 256 % 32) header_same

    pub literal_count_same : literal_count o' m ≡ literal_count o m
    literal_count_same = ap (λ (w : ℕ). w / 2 % 64) header_same

    pub literal_same : (i : ℕ) → i < literal_count o m → literal o' m i ≡ literal o m i
    literal_same i l = let w = method_words r m t in let f = (method_facts r m t).holds in method_word_same m (2 + i) t (omega arith)

    pub home_fields_same : field_count o' (home o' m) ≡ field_count o (home o m)
    home_fields_same = ap (field_count o') home_same ∙ fields_same (home o m) (method_facts r m t).homes

    pub frame_same : frame_words o' m ≡ frame_words o m
    unfolding frame_words
    frame_same = ap (λ (w : ℕ). when eqb (w / 128 % 2) 1 then large_frame_words else small_frame_words) header_same

    pub code_size_same : code_size o' m ≡ code_size o m
    unfolding code_size
    code_size_same = ap₂ (λ (a b : ℕ). a - (4 + 2 * b)) method_size_same literal_count_same

    pub code_same : code_words o' m ≡ code_words o m
    unfolding code_words
    code_same =
        let h = named o method_kind m t in
        let q = room (m / 2) h.least h.most in
        let w = x.longer in
        let v = method_words r m t in
        let f = (method_facts r m t).holds in
        let s : start o' (m / 2) ≡ start o (m / 2) = x.entries (m / 2) 2 h.least h.most (omega arith) in
        ap₂ (λ (a b : ℕ). part o'.bodies (a + (2 + b)) (body_words o' (m / 2) - (2 + b))) s literal_count_same
        ∙ ap (λ (a : ℕ). part o'.bodies (start o (m / 2) + (2 + literal_count o m)) (a - (2 + literal_count o m))) (words_same x (m / 2) h.least h.most)
        ∙ part_same o.bodies o'.bodies (start o (m / 2) + (2 + literal_count o m)) (body_words o (m / 2) - (2 + literal_count o m)) (omega arith) (omega arith)
        (λ i b. ap (λ (a : ℕ). get_or o'.bodies a 0) (ap (λ (a : ℕ). a + (2 + literal_count o m) + i) (sym s) ∙ moved (start o' (m / 2)) (literal_count o m) i)
        ∙ method_word_same m (2 + literal_count o m + i) t (omega arith) ∙ ap (λ (a : ℕ). get_or o.bodies a 0) (sym (moved (start o (m / 2)) (literal_count o m) i)))
      where
        moved : (a b i : ℕ) → a + (2 + b) + i ≡ a + (2 + b + i)
        moved a b i = omega arith

    -- flag 7 has 2 literals
    pub extension_same : flag o m ≡ primitive_flag → extension o' m ≡ extension o m
    extension_same h =
        let g = ((method_facts r m t).extended h).two in
        ap (λ (w : ℕ). literal o' m (w - 2)) literal_count_same ∙ literal_same (literal_count o m - 2) (omega arith)

    pub primitive_same : flag o m ≡ primitive_flag → primitive_number o' m ≡ primitive_number o m
    primitive_same h = ap (λ (w : ℕ). w / 2 % 256) (extension_same h)

    pub arguments_same : argument_count o' m ≡ argument_count o m
    unfolding argument_count
    arguments_same = ap (λ (a : ℕ). when leb a last_count_flag then a else when eqb a primitive_flag then extension o' m / 512 % 32 else 0) flag_same
        ∙ ap (λ (a : ℕ). when leb (flag o m) last_count_flag then flag o m else a) (go (ℕ_discrete (flag o m) primitive_flag))
      where
        go : Dec (flag o m ≡ primitive_flag) → (when eqb (flag o m) primitive_flag then extension o' m / 512 % 32 else 0) ≡ (when eqb (flag o m) primitive_flag then extension o m / 512 % 32 else 0)
        go (yes q) = ap (λ (a : ℕ). when eqb (flag o m) primitive_flag then a / 512 % 32 else 0) (extension_same q)
        go (no q) = if_no _ _ (ne_eqb (flag o m) primitive_flag q) ∙ sym (if_no _ _ (ne_eqb (flag o m) primitive_flag q))

    pub runs_same : runs_code o' m ≡ runs_code o m
    runs_same = ap (λ (a : ℕ). leb a last_count_flag || eqb a primitive_flag) flag_same
