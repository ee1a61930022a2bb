-- Special sends: arithmetic, == and class, and those that are sent.
use Prim.Native.Nat.{ℕ, suc, ◌+◌, ◌-◌, ◌≤◌, ◌<◌}
use mathlib.Core.Path.{◌≡◌, refl, sym, ap, ◌∙◌, subst}
use mathlib.Core.Bool.{Bool, true, false, ◌||◌}
use mathlib.Core.Logic.{◌≢◌}
use mathlib.Core.List.Memᴰ
use mathlib.Core.List.{List, [], ◌∷◌}
use mathlib.Core.Option.{Option, some}
use native.Mathlib.Omega.{arith}
use borrow.Author.Tests.{eq-eqb, ne_eqb}
use lib.Dec.{T, ltb, eqb, ltb→lt}
use lib.ListN.{get_or}
use Rattle.bytecode.specs.Test.{when◌then◌else◌}
use Rattle.bytecode.specs.Effect.{special_count, need, leaves, successors}
use Rattle.bytecode.specs.declared.Instruction.TheVariants.{SpecialSend}
use Rattle.bytecode.proofs.Choice.{if_yes, if_no, if_lt, if_ge}
use Rattle.bytecode.proofs.TestLaws.{below_at}
use Rattle.std.specs.Prelude.{Some, None}
use Rattle.model.specs.Word.{boolean_word}
use Rattle.model.specs.Objects.{Objects, objects_at, class_of}
use Rattle.model.specs.Method.{code_words, code_size}
use Rattle.model.specs.Depth.{note_at}
use Rattle.model.specs.Rules.{allowed, send_fine, method_table, special_selector, is_same, is_class}
use Rattle.model.specs.Arithmetic.{arithmetic}
use Rattle.model.proofs.Unchanged.{Small, small_at}
use Rattle.plain.specs.State.{Frame, Plain}
use Rattle.plain.specs.Step.{Stepped, no_lookup, ◌>>=◌, operand, without, pushed, sends, tried_primitive, or_sends, arithmetic_sends, special_sends, execute}
use Rattle.plain.specs.Flat.{frame_method, frame_position}
use Rattle.plain.specs.Running.{Moved, running_at, top_frame, rest_frames}
use Rattle.plain.proofs.RunningLaws.{step_is, now_is}
use Rattle.readers.specs.Places.{Inside}
use Rattle.objects.proofs.Bodies.{special_inside}
use Rattle.steps.specs.Events.{Here, HereAt, answered, SendsAt}
use Rattle.steps.proofs.HereLaws.{operand_is}
use Rattle.steps.proofs.MoveLaws.{Does, answers}
use Rattle.steps.proofs.SayLaws.{noted, needed}

special_one : (k : ℕ) → k < 16 → special_count k ≡ 1
unfolding special_count
special_one k h = if_lt k 16 1 _ h

special_same : special_count 22 ≡ 1
unfolding special_count when◌then◌else◌
special_same = refl

special_class : special_count 23 ≡ 0
unfolding special_count when◌then◌else◌
special_class = refl

neither : (a b c : Bool) → a ≡ false → b ≡ false → T (a || (b || c)) → T c
neither true b c p q u = absurd (subst T p tt)
neither false true c p q u = absurd (subst T q tt)
neither false false c p q u = u

-- the counts of 192 to 207, as the code has them
pub special_counted : (k : ℕ) → 16 ≤ k → get_or (1 ∷ 2 ∷ 0 ∷ 0 ∷ 1 ∷ 0 ∷ 1 ∷ 0 ∷ 1 ∷ 0 ∷ 1 ∷ 1 ∷ 0 ∷ 1 ∷ 0 ∷ 0 ∷ []) (k - 16) 0 ≡ special_count k
unfolding special_count
special_counted k h = sym (if_ge k 16 1 _ h)

pub special_fits : (i : ℕ) → i < 16 → get_or {A = ℕ} (1 ∷ 2 ∷ 0 ∷ 0 ∷ 1 ∷ 0 ∷ 1 ∷ 0 ∷ 1 ∷ 0 ∷ 1 ∷ 1 ∷ 0 ∷ 1 ∷ 0 ∷ 0 ∷ []) i 0 < 3
special_fits i h =
    ltb→lt (get_or {A = ℕ} (1 ∷ 2 ∷ 0 ∷ 0 ∷ 1 ∷ 0 ∷ 1 ∷ 0 ∷ 1 ∷ 0 ∷ 1 ∷ 1 ∷ 0 ∷ 1 ∷ 0 ∷ 0 ∷ []) i 0) 3
    (below_at 16 (λ j. ltb (get_or {A = ℕ} (1 ∷ 2 ∷ 0 ∷ 0 ∷ 1 ∷ 0 ∷ 1 ∷ 0 ∷ 1 ∷ 0 ∷ 1 ∷ 1 ∷ 0 ∷ 1 ∷ 0 ∷ 0 ∷ []) j 0) 3) tt i h)

module _ {n b top : ℕ} {contents bodies stack : List ℕ} {h : Here} {k : ℕ} (a : HereAt n b top contents bodies stack h (SpecialSend k)) where
  abbrev o : Objects
  o = objects_at n b contents bodies

  abbrev f : Frame
  f = top_frame n b top contents bodies stack

  abbrev rest : List Frame
  rest = rest_frames n b top contents bodies stack

  abbrev at : ℕ → ℕ → ℕ → Plain
  at edition receiver selector = running_at edition receiver selector n b top contents bodies stack

  abbrev last : ℕ
  last = get_or stack (h.operands + (h.depth - 1)) 0

  abbrev under : ℕ
  under = get_or stack (h.operands + (h.depth - 2)) 0

  pub special_small : k < 32
  special_small =
      subst Small (sym a.at.decoded) (small_at (code_words o (frame_method stack top)) (code_size o (frame_method stack top)) (frame_position stack top))

  pub selector_inside : Inside n b contents bodies 10 k
  selector_inside = special_inside k a.at.runs.right special_small

  rule_of : T (is_same k || (is_class k || send_fine o (special_selector o k) (special_count k)))
  unfolding allowed
  rule_of = (now_is a.at).allowed

  special_depth : suc (special_count k) ≤ h.depth
  unfolding need
  special_depth = let x = needed a in omega arith

  pub special_needs : 1 ≤ h.depth
  special_needs = let x = special_depth in omega arith

  special_noted : note_at (method_table a.at.runs.edition o (frame_method stack top)) h.next ≡ suc (h.depth - (1 + special_count k) + 1)
  unfolding successors need leaves
  special_noted = noted a h.next (Memᴰ.head refl)

  noted_as : (c : ℕ) → special_count k ≡ c → note_at (method_table a.at.runs.edition o (frame_method stack top)) h.next ≡ suc (suc (h.depth - suc c))
  noted_as c e = special_noted ∙ ap suc (omega arith)

  sent_when : (s count : ℕ) → s ≡ special_selector o k → count ≡ special_count k → k ≢ 22 → k ≢ 23
      → Does a (λ p room. sends room p f rest h.next (class_of o) (special_selector o k) (special_count k)) → SendsAt n b top contents bodies stack h s count
  sent_when s count e c p q d =
      record {
        instruction = SpecialSend k;
        here = a;
        needs = let x = special_depth in let y = a.is_depth in omega arith;
        noted = noted_as count (sym c) ∙ ap (λ (x : ℕ). suc (suc (x - suc count))) a.is_depth;
        fine = subst (λ (x : ℕ). T (send_fine o x count)) (sym e) (subst (λ (x : ℕ). T (send_fine o (special_selector o k) x)) (sym c)
            (neither (is_same k) (is_class k) (send_fine o (special_selector o k) (special_count k)) (ne_eqb k 22 p) (ne_eqb k 23 q) rule_of));
        steps = λ edition receiver selector room. step_is a.at edition receiver selector room ∙ d edition receiver selector room
            ∙ ap (λ (x : ℕ). sends room (at edition receiver selector) f rest h.next (class_of o) x (special_count k)) (sym e)
            ∙ ap (λ (x : ℕ). sends room (at edition receiver selector) f rest h.next (class_of o) s x) (sym c);
      }

  pub special_sends_lem : (s count : ℕ) → 16 ≤ k → k ≢ 22 → k ≢ 23 → s ≡ special_selector o k → count ≡ special_count k → SendsAt n b top contents bodies stack h s count
  unfolding execute special_sends
  special_sends_lem s count g p q e c =
      sent_when s count e c p q (λ edition receiver selector room. if_ge k 16 _ _ g ∙ if_no _ _ (ne_eqb k 22 p) ∙ if_no _ _ (ne_eqb k 23 q))

  -- the two uppermost operands
  module _ (two : 2 ≤ h.depth) where
    under_is : operand f 1 ≡ some under
    under_is = operand_is a 1 (h.operands + (h.depth - 2)) two refl

    last_is : operand f 0 ≡ some last
    last_is = operand_is a 0 (h.operands + (h.depth - 1)) special_needs refl

    both : (x : ℕ → ℕ → Stepped) → (operand f 1 >>= λ u. operand f 0 >>= λ v. x u v) ≡ x under last
    both x = ap (λ (y : Option ℕ). y >>= λ u. operand f 0 >>= λ v. x u v) under_is ∙ ap (λ (y : Option ℕ). y >>= λ v. x under v) last_is

  -- 176 to 191
  module _ (small : k < 16) where
    pub arithmetic_two : 2 ≤ h.depth
    arithmetic_two = let x = special_depth in let y = special_one k small in omega arith

    arithmetic_noted : note_at (method_table a.at.runs.edition o (frame_method stack top)) h.next ≡ suc (suc (h.depth - 2))
    arithmetic_noted = noted_as 1 (special_one k small)

    computes : (t : ℕ) (x : Rattle.std.specs.declared.option.Option.Option ℕ) → t ≡ tried_primitive k → x ≡ arithmetic t under last
        → Does a (λ p room. or_sends x (λ w. pushed p f rest h.next (without f 2) w no_lookup) (sends room p f rest h.next (class_of o) (special_selector o k) 1))
    unfolding execute special_sends arithmetic_sends
    computes t x e d edition receiver selector room =
        if_lt k 16 _ _ small
        ∙ both arithmetic_two (λ u v. or_sends (arithmetic (tried_primitive k) u v) (λ w. pushed (at edition receiver selector) f rest h.next (without f 2) w
        no_lookup) (sends room (at edition receiver selector) f rest h.next (class_of o) (special_selector o k) 1))
        ∙ ap (λ (y : Rattle.std.specs.declared.option.Option.Option ℕ). or_sends y (λ w. pushed (at edition receiver selector) f rest h.next (without f 2) w no_lookup)
        (sends room (at edition receiver selector) f rest h.next (class_of o) (special_selector o k) 1)) (sym (d ∙ ap (λ (y : ℕ). arithmetic y under last) e))

    pub arithmetic_says : (t w : ℕ) (x : Rattle.std.specs.declared.option.Option.Option ℕ) (stack' : List ℕ) → t ≡ tried_primitive k → x ≡ arithmetic t under last → x ≡ Some w
        → stack' ≡ answered stack top h 2 w → Moved n b top contents bodies stack bodies stack'
    arithmetic_says t w x stack' e d g q =
        subst (λ (l : List ℕ). Moved n b top contents bodies stack bodies l) (sym q)
        (answers a 2 w arithmetic_two arithmetic_noted (computes t (Some w) e (sym g ∙ d)))

    pub arithmetic_sends_lem : (t s : ℕ) (x : Rattle.std.specs.declared.option.Option.Option ℕ) → t ≡ tried_primitive k → x ≡ arithmetic t under last → x ≡ None → s ≡ special_selector o k → SendsAt n b top contents bodies stack h s 1
    arithmetic_sends_lem t s x e d g q =
        sent_when s 1 q (sym (special_one k small)) (λ y. omega arith) (λ y. omega arith)
        (λ edition receiver selector room. computes t None e (sym g ∙ d) edition receiver selector room ∙ ap (λ (c : ℕ). sends room (at edition receiver selector) f rest h.next
        (class_of o) (special_selector o k) c) (sym (special_one k small)))

  -- 198
  module _ (same : k ≡ 22) where
    same_count : special_count k ≡ 1
    same_count = ap special_count same ∙ special_same

    pub same_two : 2 ≤ h.depth
    same_two = let x = special_depth in let y = same_count in omega arith

    same_noted : note_at (method_table a.at.runs.edition o (frame_method stack top)) h.next ≡ suc (suc (h.depth - 2))
    same_noted = noted_as 1 same_count

    pub same_says : (w : ℕ) (stack' : List ℕ) → w ≡ boolean_word (eqb under last)
        → stack' ≡ answered stack top h 2 w → Moved n b top contents bodies stack bodies stack'
    unfolding execute special_sends
    same_says w stack' e q =
        subst (λ (l : List ℕ). Moved n b top contents bodies stack bodies l) (sym q)
        (answers a 2 w same_two same_noted
        (λ edition receiver selector room. if_ge k 16 _ _ (omega arith) ∙ if_yes _ _ (eq-eqb k 22 same) ∙ both same_two (λ u v. pushed (at edition receiver selector) f rest
        h.next (without f 2) (boolean_word (eqb u v)) no_lookup) ∙ ap (λ (x : ℕ). pushed (at edition receiver selector) f rest h.next (without f 2) x no_lookup) (sym e)))

  -- 199
  module _ (class : k ≡ 23) where
    class_noted : note_at (method_table a.at.runs.edition o (frame_method stack top)) h.next ≡ suc (suc (h.depth - 1))
    class_noted = noted_as 0 (ap special_count class ∙ special_class)

    pub class_says : (w : ℕ) (stack' : List ℕ) → w ≡ class_of o last
        → stack' ≡ answered stack top h 1 w → Moved n b top contents bodies stack bodies stack'
    unfolding execute special_sends
    class_says w stack' e q =
        subst (λ (l : List ℕ). Moved n b top contents bodies stack bodies l) (sym q)
        (answers a 1 w special_needs class_noted
        (λ edition receiver selector room. if_ge k 16 _ _ (omega arith) ∙ if_no _ _ (ne_eqb k 22 (λ y. omega arith)) ∙ if_yes _ _ (eq-eqb k 23 class)
        ∙ ap (λ (x : Option ℕ). x >>= λ u. pushed (at edition receiver selector) f rest h.next (without f 1) (class_of o u) no_lookup)
        (operand_is a 0 (h.operands + (h.depth - 1)) special_needs refl)
        ∙ ap (λ (x : ℕ). pushed (at edition receiver selector) f rest h.next (without f 1) x no_lookup) (sym e)))
