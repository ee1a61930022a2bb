-- Which activation a method's flag leads to, by the tests of the code.
use Prim.Native.Nat.{ℕ, ◌*◌, ◌/◌, ◌%◌, ◌≤◌, ◌<◌}
use mathlib.Core.Path.{◌≡◌, refl, sym, ap, ap₂, ◌∙◌, subst}
use mathlib.Core.Logic.{◌≢◌}
use mathlib.Core.Bool.{Bool, true, false, ◌&&◌}
use mathlib.Core.List.{List, [], ◌∷◌}
use native.Mathlib.Omega.{arith}
use borrow.Author.Tests.{eq-eqb, ne_eqb, le-leb, lt-leb, lt-ltb, le-ltb}
use lib.Dec.{T, leb, ltb, leb→le}
use lib.ListN.{length, get_or}
use Rattle.bytecode.proofs.Choice.{if_yes, if_no}
use Rattle.bytecode.proofs.TestLaws.{true→T, and_left, and_right}
use Rattle.std.specs.Prelude.{Option, Some, None}
use Rattle.model.specs.Limits.{entry_words, fields_kind, method_kind, last_count_flag, receiver_flag, field_flag, primitive_flag}
use Rattle.model.specs.Word.{object_number}
use Rattle.model.specs.Objects.{Objects, objects_at, is_kind, size, body_word}
use Rattle.model.specs.Method.{flag, temporary_count, extension, primitive_number, argument_count}
use Rattle.model.specs.Arithmetic.{arithmetic}
use Rattle.model.specs.Image.{Room}
use Rattle.model.specs.Primitive.{Outcome, answers, fails, at, at_put, computed, perform, primitive_count, primitive}
use Rattle.objects.specs.Lent.{Holds}
use Rattle.objects.proofs.Buffers.{contents_room, bodies_room, front_same}
use Rattle.primitives.specs.declared.Done.{Done}
use Rattle.primitives.specs.Outcomes.{answer_of, objects_after, room_of, done_with, Puts, Does}
use Rattle.primitives.proofs.Growing.{does_computed}
use Rattle.primitives.proofs.Performing.{does_put, is_60, is_61, count_one, count_61, own_count, other_count, primitive_same}
use Rattle.plain.specs.Step.{Activation, answered, unfit, entering, field_of, field_answered, primitive_answered, activate}
use Rattle.plain.specs.FlatCalls.{at_front}
use Rattle.activation.specs.declared.Activated.{Activated}
use Rattle.activation.specs.Activating.{outcome, Activable, Answers, Leaves, ActivatedIs}

-- ---- 1 to 17

pub arithmetic_range : (k : ℕ) (t : Bool) → t ≡ (leb 1 k && leb k 17) → t ≡ true → (1 ≤ k) × (k ≤ 17)
arithmetic_range k t e h =
    let s : T (leb 1 k && leb k 17) = true→T (sym e ∙ h) in
    (leb→le 1 k (and_left (leb 1 k) (leb k 17) s), leb→le k 17 (and_right (leb 1 k) (leb k 17) s))

pub not_arithmetic : (k : ℕ) (t : Bool) → t ≡ (leb 1 k && leb k 17) → t ≡ false → 1 ≤ k → 17 < k
not_arithmetic k t e h l = go (native.Mathlib.Decide.dec_le k 17)
  where
    go : Dec (k ≤ 17) → 17 < k
    go (no q) = omega arith
    go (yes q) =
        let z : (leb 1 k && leb k 17) ≡ true = ap₂ ◌&&◌ (le-leb 1 k l) (le-leb k 17 q) in
        let w : true ≡ false = sym z ∙ sym e ∙ h in
        absurd (subst T w tt)

-- they take one argument
one_argument : (k : ℕ) → k ≤ 17 → primitive_count k ≡ 1
one_argument k h =
    sym (count_one {k = k} (λ q. omega arith) (λ q. omega arith) (λ q. omega arith) (λ q. omega arith))

pub arithmetic_is : (edition : ℕ) (room : Room) (o : Objects) (k count w x y : ℕ) (r : Option ℕ) → (1 ≤ k) × (k ≤ 17) → count ≡ 1 → r ≡ arithmetic k w x
    → computed o r ≡ primitive edition room o k count w (x ∷ y ∷ [])
unfolding perform
arithmetic_is edition room o k count w x y r h c e = ap (computed o) e ∙ here ∙ own_count edition room o k w x y count (c ∙ sym (one_argument k h.1))
  where
    here : computed o (arithmetic k w x) ≡ perform edition room o k w x y
    here = sym (if_yes _ _ (ap₂ ◌&&◌ (le-leb 1 k h.0) (le-leb k 17 h.1)))

pub arithmetic_other : (edition : ℕ) (room : Room) (o : Objects) (k count w x y : ℕ) → (1 ≤ k) × (k ≤ 17) → count ≢ 1 → fails ≡ primitive edition room o k count w (x ∷ y ∷ [])
arithmetic_other edition room o k count w x y h d = other_count edition room o k w x y count (λ q. d (q ∙ one_argument k h.1))

-- ---- the flags

module _ {n b : ℕ} {contents bodies : List ℕ} {m receiver : ℕ} (a : Activable n b contents bodies m receiver) where
  abbrev o : Objects
  o = objects_at n b contents bodies

  pub holds_method : Holds method_kind n b contents bodies m
  holds_method = record { right = a.right; kinds = a.method }

  pub entries_room : entry_words * n ≤ length contents
  entries_room = contents_room n b contents bodies a.right.1

  -- an answer that leaves the objects
  pub answers_same : (x : Activation) (w : ℕ) → x ≡ answered w o → Answers x w n b contents bodies contents bodies
  answers_same x w e =
      record {
        after = o;
        answer = e;
        count = refl;
        size = refl;
        entries = sym (front_same (entry_words * n) contents (contents_room n b contents bodies a.right.1));
        words = sym (front_same b bodies (bodies_room n b contents bodies a.right.1));
      }

  -- the primitive that was performed is the method's, on its arguments
  pub performed : {r : Done} {k count x y : ℕ} {contents' bodies' : List ℕ} (edition : ℕ) (arguments : List ℕ) → k ≡ primitive_number o m → count ≡ argument_count o m → x ≡ get_or arguments 0 0
      → y ≡ get_or arguments 1 0
      → Does o (primitive edition (room_of contents bodies) o k count receiver (x ∷ y ∷ [])) r contents bodies contents' bodies'
      → Does o (primitive edition (room_of contents bodies) o (primitive_number o m) (argument_count o m) receiver (get_or arguments 0 0 ∷ get_or arguments 1 0 ∷ [])) r contents bodies contents' bodies'
  performed {r} {k} {count} {x} {y} {contents'} {bodies'} edition arguments p q s t d =
      subst (λ (z : Outcome). Does o z r contents bodies contents' bodies')
      (λ i. primitive edition (room_of contents bodies) o (p i) (q i) receiver (s i ∷ t i ∷ [])) d

  module _ (edition : ℕ) (room : Room) (arguments : List ℕ) (f : ℕ) (e : f ≡ flag o m) where
    pub by_receiver : f ≡ 5 → activate edition room o m receiver arguments ≡ answered receiver o
    unfolding activate
    by_receiver h = if_yes _ _ (eq-eqb (flag o m) receiver_flag (sym e ∙ h))

    by_field : f ≡ 6 → activate edition room o m receiver arguments ≡ field_answered o (field_of o receiver (temporary_count o m))
    unfolding activate
    by_field h =
        let g : flag o m ≡ 6 = sym e ∙ h in
        if_no _ _ (ne_eqb (flag o m) receiver_flag (λ q. omega arith)) ∙ if_yes _ _ (eq-eqb (flag o m) field_flag g)

    by_primitive : f ≡ 7 → activate edition room o m receiver arguments ≡ primitive_answered o m receiver
        (primitive edition room o (primitive_number o m) (argument_count o m) receiver arguments)
    unfolding activate
    by_primitive h =
        let g : flag o m ≡ 7 = sym e ∙ h in
        if_no _ _ (ne_eqb (flag o m) receiver_flag (λ z. omega arith)) ∙ if_no _ _ (ne_eqb (flag o m) field_flag (λ z. omega arith)) ∙ if_yes _ _ (eq-eqb (flag o m) primitive_flag g)

    pub by_code : f ≢ 5 → f ≢ 6 → f ≢ 7 → activate edition room o m receiver arguments ≡ entering o m receiver
    unfolding activate
    by_code p q h =
        if_no _ _ (ne_eqb (flag o m) receiver_flag (λ z. p (e ∙ z))) ∙ if_no _ _ (ne_eqb (flag o m) field_flag (λ z. q (e ∙ z))) ∙ if_no _ _ (ne_eqb (flag o m) primitive_flag (λ z. h (e ∙ z)))

    pub below_flags : f < 5 → Leaves (activate edition room o m receiver arguments) (entering o m receiver) contents bodies contents bodies
    below_flags h = record { leads = by_code (λ q. omega arith) (λ q. omega arith) (λ q. omega arith); entries = refl; words = refl }

    -- flag 6
    pub no_fields : f ≡ 6 → is_kind o fields_kind receiver ≡ false → activate edition room o m receiver arguments ≡ unfit
    unfolding field_of
    no_fields h k = by_field h ∙ ap (field_answered o) (if_no _ _ (ap (λ (t : Bool). t && ltb (temporary_count o m) (size o (object_number receiver))) k))

    pub no_field : f ≡ 6 → is_kind o fields_kind receiver ≡ true → size o (object_number receiver) ≤ temporary_count o m → activate edition room o m receiver arguments ≡ unfit
    unfolding field_of
    no_field h k l =
        by_field h ∙ ap (field_answered o) (if_no _ _ (ap₂ ◌&&◌ k (le-ltb (temporary_count o m) (size o (object_number receiver)) l)))

    pub the_field : f ≡ 6 → is_kind o fields_kind receiver ≡ true → (i : ℕ) → i ≡ temporary_count o m → (w : ℕ) → w ≡ body_word o (object_number receiver) i
        → temporary_count o m < size o (object_number receiver) → activate edition room o m receiver arguments ≡ answered w o
    unfolding field_of
    the_field h k i g w q l =
        by_field h ∙ ap (field_answered o) (if_yes _ _ (ap₂ ◌&&◌ k (lt-ltb (temporary_count o m) (size o (object_number receiver)) l)))
        ∙ ap (λ (v : ℕ). answered v o) (sym (q ∙ ap (body_word o (object_number receiver)) g))

    -- flag 7
    module _ (h : f ≡ 7) (s : room.contents ≡ length contents) (t : room.bodies ≡ length bodies) (r : Done) (contents' bodies' : List ℕ) where
      abbrev done : Outcome
      done = primitive edition (room_of contents bodies) o (primitive_number o m) (argument_count o m) receiver (get_or arguments 0 0 ∷ get_or arguments 1 0 ∷ [])

      is_outcome : activate edition room o m receiver arguments ≡ primitive_answered o m receiver done
      is_outcome = by_primitive h ∙ ap (primitive_answered o m receiver) (sym (primitive_same edition room contents bodies o (primitive_number o m) (argument_count o m) receiver arguments s t))

      module _ (d : Does o done r contents bodies contents' bodies') where
        primitive_word : (w : ℕ) → r.answer ≡ Some w → Answers (activate edition room o m receiver arguments) w r.n r.b contents bodies contents' bodies'
        unfolding answer_of objects_after
        primitive_word w g = go done refl (sym g ∙ d.answer)
          where
            go : (z : Outcome) → done ≡ z → Some w ≡ answer_of done → Answers (activate edition room o m receiver arguments) w r.n r.b contents bodies contents' bodies'
            go (answers v o') z y =
                let u : Some w ≡ answer_of (answers v o') = y ∙ ap answer_of z in
                let after : objects_after o done ≡ o' = ap (objects_after o) z in
                let wv : v ≡ w = cc in
                record {
                  after = o';
                  answer = is_outcome ∙ ap (primitive_answered o m receiver) z ∙ ap (λ (k : ℕ). answered k o') wv;
                  count = sym (d.count ∙ ap (λ (k : Objects). k.n) after);
                  size = sym (d.size ∙ ap (λ (k : Objects). k.b) after);
                  entries = d.entries ∙ ap (λ (k : Objects). at_front k.contents contents) after;
                  words = d.words ∙ ap (λ (k : Objects). at_front k.bodies bodies) after;
                }
            go fails z y =
                let u : Some w ≡ answer_of fails = y ∙ ap answer_of z in
                let bad : ◌≡◌ {A = ℕ} 0 1 = cc in absurd (omega arith)

        primitive_failed : r.answer ≡ None → Leaves (activate edition room o m receiver arguments) (entering o m receiver) contents bodies contents' bodies'
        unfolding answer_of objects_after
        primitive_failed g = go done refl (sym g ∙ d.answer)
          where
            go : (z : Outcome) → done ≡ z → None ≡ answer_of done → Leaves (activate edition room o m receiver arguments) (entering o m receiver) contents bodies contents' bodies'
            go (answers v o') z y =
                let u : None ≡ answer_of (answers v o') = y ∙ ap answer_of z in
                let bad : ◌≡◌ {A = ℕ} 0 1 = cc in absurd (omega arith)
            go fails z y =
                let after : objects_after o done ≡ o = ap (objects_after o) z in
                record {
                  leads = is_outcome ∙ ap (primitive_answered o m receiver) z;
                  entries = d.entries ∙ ap (λ (k : Objects). at_front k.contents contents) after ∙ front_same (entry_words * n) contents (contents_room n b contents bodies a.right.1);
                  words = d.words ∙ ap (λ (k : Objects). at_front k.bodies bodies) after ∙ front_same b bodies (bodies_room n b contents bodies a.right.1);
                }

        -- what the code makes of the answer
        pub primitive_led : (z : Activated) → z ≡ outcome r.answer r.n r.b
            → ActivatedIs (activate edition room o m receiver arguments) (entering o m receiver) contents bodies contents' bodies' z
        unfolding outcome
        primitive_led z e = subst (ActivatedIs (activate edition room o m receiver arguments) (entering o m receiver) contents bodies contents' bodies') (sym e) (go r.answer refl)
          where
            go : (y : Option ℕ) → r.answer ≡ y
                → ActivatedIs (activate edition room o m receiver arguments) (entering o m receiver) contents bodies contents' bodies' (outcome y r.n r.b)
            go (Some w) g = primitive_word w g
            go None g = primitive_failed g

  -- ---- at: and at:put:

  module _ (edition : ℕ) (arguments : List ℕ) {x y : ℕ} (p : x ≡ get_or arguments 0 0) (q : y ≡ get_or arguments 1 0) (seven : flag o m ≡ 7) where
    abbrev room : Room
    room = room_of contents bodies

    abbrev called : Outcome
    called = primitive edition room o (primitive_number o m) (argument_count o m) receiver (get_or arguments 0 0 ∷ get_or arguments 1 0 ∷ [])

    numbered : (j : ℕ) → extension o m ≡ j → j / 2 % 256 ≡ primitive_number o m
    numbered j e = ap (λ (i : ℕ). i / 2 % 256) (sym e)

    counted : (j : ℕ) → extension o m ≡ j → j / 512 % 32 ≡ argument_count o m
    unfolding argument_count
    counted j e =
        ap (λ (i : ℕ). i / 512 % 32) (sym e)
        ∙ sym (if_no _ _ (lt-leb (flag o m) last_count_flag (omega arith)) ∙ if_yes _ _ (eq-eqb (flag o m) primitive_flag seven))

    pub at_done : (r : Option ℕ) → extension o m ≡ 633 → computed o r ≡ at o receiver x → Does o called (done_with r n b) contents bodies contents bodies
    at_done r e d =
        performed edition arguments (numbered 633 e) (counted 633 e) p q
        (does_computed r a.right.1 refl (d ∙ is_60 edition room o 60 receiver x y refl ∙ own_count edition room o 60 receiver x y 1 one))
      where
        one : 1 ≡ primitive_count 60
        one = count_one {k = 60} (λ z. omega arith) (λ z. omega arith) (λ z. omega arith) (λ z. omega arith)

    pub put_done : (r : Option ℕ) (after : List ℕ) → extension o m ≡ 1147 → Puts o (at_put o receiver x y) r bodies after
        → Does o called (done_with r n b) contents bodies contents after
    put_done r after e d =
        performed edition arguments (numbered 1147 e) (counted 1147 e) p q
        (does_put receiver x y a.right.1 refl (is_61 edition room o 61 receiver x y refl ∙ own_count edition room o 61 receiver x y 2 (count_61 {k = 61} refl)) d)
