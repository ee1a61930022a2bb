-- The words of a frame that stands: header, note, temporaries and operands.
use Prim.Native.Nat.{ℕ, zero, suc, ◌+◌, ◌-◌, ◌*◌, ◌%◌, ◌≤◌, ◌<◌}
use mathlib.Core.Path.{◌≡◌, refl, sym, ap, ap₂, ◌∙◌, subst}
use mathlib.Core.Bool.{Bool, true, false, not, ◌&&◌}
use mathlib.Core.List.{List}
use native.Mathlib.Omega.{arith}
use native.Mathlib.Decide.{dec_lt}
use borrow.Author.Tests.{eq-eqb, ne_eqb, not-true, not-false}
use lib.Dec.{T, eqb, leb→le, eqb→eq}
use lib.ListN.{length, get_or}
use Rattle.bytecode.specs.Test.{every, all_of}
use Rattle.bytecode.specs.Constant.{nil_word}
use Rattle.bytecode.proofs.TestLaws.{true→T, and_left, and_right, and_both, rule, every_at, at_every, never}
use Rattle.bytecode.proofs.Choice.{if_yes, if_no}
use Rattle.model.specs.Limits.{class_kind, method_kind}
use Rattle.model.specs.Word.{is_valid, pointer, object_number}
use Rattle.model.specs.Objects.{Objects, objects_at, class_of, is_kind, is_nil_or, part}
use Rattle.model.specs.Method.{header, home, temporary_count, code_words, code_size, frame_words}
use Rattle.model.specs.Depth.{note_at, rulesAt, fineAt}
use Rattle.model.specs.Lookup.{in_chain}
use Rattle.model.specs.Rules.{Right, method_table, allowed}
use Rattle.model.specs.Notes.{MethodNoted}
use Rattle.model.proofs.Parts.{same_test, or_right, length_part, part_at}
use Rattle.model.proofs.ChainLaws.{named}
use Rattle.model.proofs.DepthLaws.{spot, fine_inside}
use Rattle.model.proofs.Facts.{inside, method_words, method_facts}
use Rattle.model.proofs.SendFacts.{class_kind_lem}
use Rattle.readers.proofs.Loops.{failed}
use Rattle.readers.specs.Header.{temporaries_of}
use Rattle.objects.specs.Lent.{Holds, CodeAt}
use Rattle.objects.specs.declared.Code.{Code}
use Rattle.plain.specs.State.{Frame, no_mark}
use Rattle.plain.specs.Flat.{frame_at, frame_method, frame_position, frame_depth, frame_receiver}
use Rattle.plain.specs.Check.{note_of, frame_rules}
use Rattle.plain.proofs.FrameLaws.{FrameRight, frame_right, right_frame, table_depth, note_is}
use Rattle.checks.specs.Frame.{stands_at_of, six_words_fine, Noted, Stands}
use Rattle.checks.proofs.Standing.{standing}

-- the six words and the method of a frame that stands
module _ {e n b base : ℕ} {contents bodies stack notes : List ℕ} (h : Stands e n b contents bodies stack notes base) where
  pub header_inside : base + 18 ≤ length stack
  header_inside = (standing (objects_at n b contents bodies) stack base h.frame).header

  pub holds_method : Holds method_kind n b contents bodies (frame_method stack base)
  holds_method = record { right = (e, h.image.right); kinds = (standing (objects_at n b contents bodies) stack base h.frame).kinds }

pub valid_read : (n w : ℕ) (x : Bool) → x ≡ is_valid n w → not x ≡ false → T (is_valid n w)
valid_read n w x p q = true→T (sym p ∙ not-false x q)

-- a valid word's class is a class
pub class_named : {e : ℕ} {o : Objects} → Right e o → (w c : ℕ) (x : Bool) → x ≡ is_valid o.n w → not x ≡ false → c ≡ class_of o w → T (is_nil_or o class_kind c)
class_named {e} {o} r w c x p n q =
    or_right (eqb c nil_word) (is_kind o class_kind c) (subst (λ (k : ℕ). T (is_kind o class_kind k)) (sym q) (class_kind_lem r w (valid_read o.n w x p n)))

-- a note is inside the code
module _ (e : ℕ) (o : Objects) (m p : ℕ) where
  noted_inside : (d : ℕ) → note_at (method_table e o m) p ≡ suc d → p < code_size o m
  noted_inside d n =
      fine_inside (code_words o m) (code_size o m) (temporary_count o m) (frame_words o m) (allowed e o m) p d
      (unfold fineAt in (spot e o m p d n).kept)

  -- with temporaries and operands in the frame
  pub noted_within : (d : ℕ) → note_at (method_table e o m) p ≡ suc d → temporary_count o m + d ≤ frame_words o m
  unfolding rulesAt
  noted_within d n =
      leb→le (temporary_count o m + d) (frame_words o m)
      (rule (rulesAt (code_words o m) (code_size o m) (temporary_count o m) (frame_words o m) (allowed e o m) p d) (spot e o m p d n).kept 3)

  pub none_outside : code_size o m ≤ p → 0 ≡ note_at (method_table e o m) p
  none_outside h = go (note_at (method_table e o m) p) refl
    where
      go : (x : ℕ) → note_at (method_table e o m) p ≡ x → 0 ≡ note_at (method_table e o m) p
      go zero q = sym q
      go (suc d) q = let i = noted_inside d q in absurd (omega arith)

-- where the note stands
module _ {e n b : ℕ} {contents bodies notes : List ℕ} (i : Noted e n b contents bodies notes) (m : ℕ) (k : T (is_kind (objects_at n b contents bodies) method_kind m))
    (c : Code) (a : CodeAt n b contents bodies m c) (p : ℕ)
  where
    abbrev here : Objects
    here = objects_at n b contents bodies

    pub note_outside : c.size ≤ p → 0 ≡ note_at (method_table e here m) p
    note_outside h = let s = a.size in none_outside e here m p (omega arith)

    pub note_room : p < c.size → 2 * c.from + p < length notes
    unfolding code_size
    note_room h =
        let r = i.room in
        let s = a.size in
        let f = a.from in
        let g = named here method_kind m k in
        let w = method_words i.right m k in
        let l = inside i.right (object_number m) g.least g.most in
        let z = (method_facts i.right m k).holds in
        omega arith

    pub note_read : p < c.size → get_or notes (2 * c.from + p) 0 ≡ note_at (method_table e here m) p
    note_read h =
        let s = a.size in
        let g = named here method_kind m k in
        let q : MethodNoted e here notes m = subst (MethodNoted e here notes) (whole g.even) (i.noted (object_number m) g.least (omega arith) g.kinds) in
        ap (λ (x : ℕ). get_or notes (2 * x + p) 0) a.from ∙ q p (omega arith)
      where
        whole : m % 2 ≡ 0 → pointer (object_number m) ≡ m
        whole q = omega arith

module _ (e : ℕ) (o : Objects) (stack : List ℕ) (base : ℕ) (is_top : Bool) where
  abbrev frame : Frame
  frame = frame_at o stack base

  -- the tests of the header, one after another
  pub mark_no : (get_or stack (base + 4) 0 ≡ 0 → ⊥) → false ≡ six_words_fine e o is_top frame
  unfolding six_words_fine frame_at
  mark_no h = simp (ne_eqb (get_or stack (base + 4) 0) 0 h)

  module _ (unmarked : get_or stack (base + 4) 0 ≡ 0) (x : Bool) (v : x ≡ is_valid o.n (frame_receiver stack base)) where
    pub receiver_no : not x ≡ true → false ≡ six_words_fine e o is_top frame
    unfolding six_words_fine frame_at
    receiver_no q = simp (eq-eqb (get_or stack (base + 4) 0) 0 unmarked, sym v ∙ not-true x q)

    module _ (q : not x ≡ false) (h c : ℕ) (p : h ≡ home o (frame_method stack base)) (r : c ≡ class_of o (frame_receiver stack base)) (y : Bool) (s : y ≡ in_chain o h c) where
      chain_is : in_chain o (home o (frame_method stack base)) (class_of o (frame_receiver stack base)) ≡ y
      chain_is = sym (s ∙ ap₂ (in_chain o) p r)

      pub chain_no : not y ≡ true → false ≡ six_words_fine e o is_top frame
      unfolding six_words_fine frame_at
      chain_no t = simp (eq-eqb (get_or stack (base + 4) 0) 0 unmarked, sym v ∙ not-false x q, chain_is ∙ not-true y t)

      pub header_note : not y ≡ false → (z w : ℕ) → z ≡ note_at (method_table e o (frame_method stack base)) (frame_position stack base) → w ≡ note_of is_top frame
          → eqb z w ≡ six_words_fine e o is_top frame
      unfolding six_words_fine frame_at
      header_note t z w g f =
          ap₂ eqb g f ∙ simp (eq-eqb (get_or stack (base + 4) 0) 0 unmarked, sym v ∙ not-false x q, chain_is ∙ not-false y t)

  pub note_top : is_top ≡ true → frame_depth stack base + 1 ≡ note_of is_top frame
  unfolding note_of frame_at
  note_top q = one (frame_depth stack base) ∙ sym (if_yes _ _ q)
    where
      one : (d : ℕ) → d + 1 ≡ suc d
      one d = omega arith

  pub note_below : is_top ≡ false → frame_depth stack base + 2 ≡ note_of is_top frame
  unfolding note_of frame_at
  note_below q = two (frame_depth stack base) ∙ sym (if_no _ _ q)
    where
      two : (d : ℕ) → d + 2 ≡ suc (suc d)
      two d = omega arith

  record HeaderRight : Type 0 where
    unmarked : frame.mark ≡ no_mark
    receiver : T (is_valid o.n frame.receiver)
    chain : T (in_chain o (home o frame.method) (class_of o frame.receiver))
    note : note_at (method_table e o frame.method) frame.position ≡ note_of is_top frame

  header_right : T (six_words_fine e o is_top frame) → HeaderRight
  unfolding six_words_fine
  header_right t =
      let a = eqb frame.mark no_mark in
      let b = is_valid o.n frame.receiver in
      let c = in_chain o (home o frame.method) (class_of o frame.receiver) in
      let d = eqb (note_at (method_table e o frame.method) frame.position) (note_of is_top frame) in
      let u = and_right a (b && (c && d)) t in
      let v = and_right b (c && d) u in
      record {
        unmarked = eqb→eq frame.mark no_mark (and_left a (b && (c && d)) t);
        receiver = and_left b (c && d) u;
        chain = and_left c d v;
        note = eqb→eq (note_at (method_table e o frame.method) frame.position) (note_of is_top frame) (and_right c d v);
      }

  right_header : FrameRight e o is_top frame → T (six_words_fine e o is_top frame)
  unfolding six_words_fine
  right_header r =
      let c = in_chain o (home o frame.method) (class_of o frame.receiver) in
      let d = eqb (note_at (method_table e o frame.method) frame.position) (note_of is_top frame) in
      and_both (eqb frame.mark no_mark) (is_valid o.n frame.receiver && (c && d)) (true→T (eq-eqb frame.mark no_mark r.unmarked))
      (and_both (is_valid o.n frame.receiver) (c && d) r.receiver
      (and_both c d r.chain (true→T (eq-eqb (note_at (method_table e o frame.method) frame.position) (note_of is_top frame) r.note))))

  pub rules_no : (x : Bool) → x ≡ six_words_fine e o is_top frame → not x ≡ true → false ≡ all_of (frame_rules e o is_top frame)
  rules_no x p q =
      sym (never (all_of (frame_rules e o is_top frame)) (λ t. failed (sym p ∙ not-true x q) (right_header (frame_right e o is_top frame t))))

  module _ (s : T (stands_at_of o stack base)) (x : Bool) (p : x ≡ six_words_fine e o is_top frame) (q : not x ≡ false) where
    h : T (six_words_fine e o is_top frame)
    h = true→T (sym p ∙ not-false x q)

    within : temporary_count o (frame_method stack base) + frame_depth stack base ≤ frame_words o (frame_method stack base)
    unfolding frame_at
    within = go is_top (noted_within e o (frame_method stack base) (frame_position stack base) (table_depth is_top (frame_depth stack base)) ((header_right h).note ∙ note_is is_top frame))
      where
        go : (x : Bool) → temporary_count o (frame_method stack base) + table_depth x (frame_depth stack base) ≤ frame_words o (frame_method stack base)
            → temporary_count o (frame_method stack base) + frame_depth stack base ≤ frame_words o (frame_method stack base)
        go true l = l
        go false l = omega arith

    -- temporaries and operands stand in the stack
    words_inside : base + 6 + (temporary_count o (frame_method stack base) + frame_depth stack base) ≤ length stack
    words_inside = let w = within in let i = (standing o stack base s).inside in omega arith

    abbrev words : List ℕ
    words = part stack (base + 6) (temporary_count o (frame_method stack base) + frame_depth stack base)

    temporaries_long : length frame.temporaries ≡ temporary_count o (frame_method stack base)
    unfolding frame_at
    temporaries_long = let w = words_inside in length_part stack (base + 6) (temporary_count o (frame_method stack base)) (omega arith)

    operands_long : length frame.operands ≡ frame_depth stack base
    unfolding frame_at
    operands_long = let w = words_inside in length_part stack (base + 6 + temporary_count o (frame_method stack base)) (frame_depth stack base) (omega arith)

    temporary_at : (i : ℕ) → i < temporary_count o (frame_method stack base) → get_or frame.temporaries i 0 ≡ get_or stack (base + 6 + i) 0
    unfolding frame_at
    temporary_at i l = part_at stack (base + 6) (temporary_count o (frame_method stack base)) i l

    operand_at : (i : ℕ) → i < frame_depth stack base → get_or frame.operands i 0 ≡ get_or stack (base + 6 + (temporary_count o (frame_method stack base) + i)) 0
    unfolding frame_at
    operand_at i l =
        part_at stack (base + 6 + temporary_count o (frame_method stack base)) (frame_depth stack base) i l
        ∙ ap (λ (k : ℕ). get_or stack k 0) (sum (base + 6) (temporary_count o (frame_method stack base)) i)
      where
        sum : (a c i : ℕ) → a + c + i ≡ a + (c + i)
        sum a c i = omega arith

    words_long : length words ≡ temporary_count o (frame_method stack base) + frame_depth stack base
    words_long = length_part stack (base + 6) (temporary_count o (frame_method stack base) + frame_depth stack base) words_inside

    word_at : (i : ℕ) → i < temporary_count o (frame_method stack base) + frame_depth stack base → get_or words i 0 ≡ get_or stack (base + 6 + i) 0
    word_at i l = part_at stack (base + 6) (temporary_count o (frame_method stack base) + frame_depth stack base) i l

    valid_temporaries_lem : T (every (is_valid o.n) words) → T (every (is_valid o.n) frame.temporaries)
    valid_temporaries_lem t =
        let q = words_long in
        let z = temporaries_long in
        at_every (is_valid o.n) frame.temporaries
        (λ i l. subst (λ (x : ℕ). T (is_valid o.n x)) (word_at i (omega arith) ∙ sym (temporary_at i (omega arith))) (every_at (is_valid o.n) words t i (omega arith)))

    valid_operands_lem : T (every (is_valid o.n) words) → T (every (is_valid o.n) frame.operands)
    valid_operands_lem t =
        let q = words_long in
        let z = operands_long in
        at_every (is_valid o.n) frame.operands
        (λ i l. subst (λ (x : ℕ). T (is_valid o.n x)) (word_at (temporary_count o (frame_method stack base) + i) (omega arith)
        ∙ sym (operand_at i (omega arith))) (every_at (is_valid o.n) words t (temporary_count o (frame_method stack base) + i) (omega arith)))

    valid_words : FrameRight e o is_top frame → T (every (is_valid o.n) words)
    valid_words r =
        let q = words_long in
        at_every (is_valid o.n) words (λ i l. subst (λ (x : ℕ). T (is_valid o.n x)) (sym (word_at i (omega arith))) (go i (omega arith) (dec_lt i (temporary_count o (frame_method stack base)))))
      where
        back : (i : ℕ) → temporary_count o (frame_method stack base) ≤ i → temporary_count o (frame_method stack base) + (i - temporary_count o (frame_method stack base)) ≡ i
        back i l = omega arith

        go : (i : ℕ) → i < temporary_count o (frame_method stack base) + frame_depth stack base → Dec (i < temporary_count o (frame_method stack base)) → T (is_valid o.n (get_or stack (base + 6 + i) 0))
        go i l (yes g) =
            let z = temporaries_long in
            subst (λ (x : ℕ). T (is_valid o.n x)) (temporary_at i g) (every_at (is_valid o.n) frame.temporaries r.valid_temporaries i (omega arith))
        go i l (no g) =
            let z = operands_long in
            let j = i - temporary_count o (frame_method stack base) in
            subst (λ (x : ℕ). T (is_valid o.n x)) (operand_at j (omega arith) ∙ ap (λ (k : ℕ). get_or stack (base + 6 + k) 0) (back i (omega arith)))
            (every_at (is_valid o.n) frame.operands r.valid_operands j (omega arith))

    all_right : T (every (is_valid o.n) words) → FrameRight e o is_top frame
    unfolding frame_at
    all_right t =
        let r = header_right h in
        record {
          is_method = (standing o stack base s).kinds;
          unmarked = r.unmarked;
          receiver = r.receiver;
          chain = r.chain;
          note = r.note;
          temporaries = temporaries_long;
          depth = operands_long;
          valid_temporaries = valid_temporaries_lem t;
          valid_operands = valid_operands_lem t;
        }

    rules_all : every (is_valid o.n) words ≡ all_of (frame_rules e o is_top frame)
    rules_all =
        same_test (every (is_valid o.n) words) (all_of (frame_rules e o is_top frame)) (λ t. right_frame e o is_top frame (all_right t)) (λ t. valid_words (frame_right e o is_top frame t))

    -- the words from the first temporary to the last operand, by the count that the header gives
    module _ (g count : ℕ) (d : g ≡ header o (frame_method stack base)) (f : count ≡ temporaries_of g) where
      count_is : count ≡ temporary_count o (frame_method stack base)
      count_is = f ∙ ap temporaries_of d

      pub words_end : base + 6 + (count + frame_depth stack base) ≤ length stack
      words_end = let i = words_inside in let k = count_is in omega arith

      pub rules_here : (y : Bool) → y ≡ every (is_valid o.n) (part stack (base + 6) (base + 6 + (count + frame_depth stack base) - (base + 6)))
          → y ≡ all_of (frame_rules e o is_top frame)
      rules_here y r = r ∙ ap (λ (k : ℕ). every (is_valid o.n) (part stack (base + 6) k)) same ∙ rules_all
        where
          same : base + 6 + (count + frame_depth stack base) - (base + 6) ≡ temporary_count o (frame_method stack base) + frame_depth stack base
          same = let k = count_is in omega arith
