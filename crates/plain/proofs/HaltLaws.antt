-- A step halts only for a cause that stands at the top frame's position (specs/Causes.antt).
use Prim.Native.Nat.{ℕ, suc, ◌+◌, ◌≤◌}
use mathlib.Core.Path.{◌≡◌, refl, sym, subst}
use mathlib.Core.Logic.{inl, inr}
use mathlib.Core.Bool.{Bool, true, false, ◌||◌}
use mathlib.Core.List.{List, [], ◌∷◌}
use mathlib.Core.Option.{Option, none, some}
use native.Mathlib.Omega.{arith}
use borrow.Author.Tests.{eqb-false, ltb-true, ne_eqb}
use lib.Dec.{T, leb, ltb, eqb}
use lib.ListN.{length, get_elem?}
use Rattle.bytecode.proofs.Choice.{if_yes, if_cases}
use Rattle.bytecode.specs.Constant.{false_word, true_word}
use Rattle.bytecode.specs.Effect.{special_count}
use Rattle.bytecode.specs.declared.Place.{Place}
use Rattle.bytecode.specs.declared.Place.TheVariants.{Field, Temporary, Literal, LiteralVariable}
use Rattle.bytecode.specs.declared.Instruction.{Instruction}
use Rattle.bytecode.specs.declared.Instruction.TheVariants.{Push, Store, PopStore, PushSelf, PushConstant, ReturnSelf, ReturnConstant, ReturnTop, Pop, Duplicate, Jump, JumpOn, Send, SuperSend, SpecialSend, Unused}
use Rattle.model.specs.declared.Pointer.{Pointer}
use Rattle.std.specs.Prelude.{Some, None}
use Rattle.model.specs.Limits.{has_messages}
use Rattle.model.specs.Word.{boolean_word, failure_selector}
use Rattle.model.specs.Objects.{Objects, class_of}
use Rattle.model.specs.Lookup.{lookup}
use Rattle.model.specs.Rules.{special_selector, is_same, is_class}
use Rattle.model.specs.Arithmetic.{arithmetic}
use Rattle.model.specs.Image.{Room}
use Rattle.model.specs.Primitive.{message_word, has_message_room}
use Rattle.plain.specs.Registers.{Cause, not_understood, no_boolean, no_stack_room}
use Rattle.plain.specs.State.{Frame, Plain, objects, moved_to}
use Rattle.plain.specs.Step.{Looked, no_lookup, looked_up, Stepped, leads_to, halts, missing, ◌>>=◌, provided, operand, without, literal_of, field_of, has_word_of, pushed, read, stored_field, stored, returned, Activation, answered, entered, unfit, activate, framed, changed, activated, messaged, resent, failed, after_lookup, popped, sends, above_home, tried_primitive, or_sends, arithmetic_sends, special_sends, jumps, execute, step_frame, step}
use Rattle.plain.specs.Calls.{halted}
use Rattle.plain.specs.Causes.{SendsOf, Sent, arguments_of, Fails, with_message, Because, HaltsFor}

-- Where a step halts, something holds of its cause.
abbrev Caused : (Cause → Type 0) → Stepped → Type 0
Caused C (leads_to s l) = Unit {0}
Caused C (halts c) = C c
Caused C missing = Unit {0}

after_read : {A : Type 0} (C : Cause → Type 0) (a : Option A) (k : A → Stepped) → ((w : A) → a ≡ some w → Caused C (k w)) → Caused C (a >>= k)
after_read C none k h = tt
after_read C (some w) k h = h w refl

after_test : (C : Cause → Type 0) (b : Bool) (x : Stepped) → Caused C x → Caused C (provided b x)
after_test C true x h = h
after_test C false x h = tt

neither : (a b : Bool) → (a || b) ≡ false → (a ≡ false) × (b ≡ false)
neither true b e = absurd (subst T e tt)
neither false b e = (refl, e)

module _ (room : Room) (s : Plain) (f : Frame) (rest : List Frame) where
  -- ---- what never halts

  pushes_in : (C : Cause → Type 0) (p : Plain) (g : Frame) (q : ℕ) (ops : List ℕ) (w : ℕ) (l : Looked) → Caused C (pushed p g rest q ops w l)
  unfolding pushed
  pushes_in C p g q ops w l = after_test C (has_word_of (objects p) g (length ops)) _ tt

  pushes : (C : Cause → Type 0) (g : Frame) (q : ℕ) (ops : List ℕ) (w : ℕ) (l : Looked) → Caused C (pushed s g rest q ops w l)
  pushes C g q ops w l = pushes_in C s g q ops w l

  field_stored : (C : Cause → Type 0) (g : Frame) (v i w : ℕ) → Caused C (stored_field s g rest v i w)
  unfolding stored_field
  field_stored C g v i w = after_read C (field_of (objects s) v i) _ (λ old e. tt)

  stores : (C : Cause → Type 0) (g : Frame) (p : Place) (w : ℕ) → Caused C (stored s g rest p w)
  unfolding stored
  stores C g (Field i) w = field_stored C g g.receiver i w
  stores C g (Temporary i) w = after_read C (get_elem? g.temporaries i) _ (λ old e. tt)
  stores C g (Literal i) w = tt
  stores C g (LiteralVariable i) w = after_read C (literal_of (objects s) g.method i) _ (λ v e. field_stored C g v 1 w)

  returns : (C : Cause → Type 0) (w : ℕ) (fs : List Frame) → Caused C (returned s f fs w)
  unfolding returned
  returns C w [] = tt
  returns C w (g ∷ gs) = after_test C (has_word_of (objects s) g g.depth) _ tt

  -- ---- sends

  module _ (i : Instruction) where
    abbrev C : Cause → Type 0
    C cause = Because room s f i cause

    changes : (o : Objects) (x : Stepped) → Caused C x → Caused C (changed o x)
    changes o (leads_to p l) h = tt
    changes o (halts c) h = h
    changes o missing h = tt

    -- the message of a send that failed
    message_halts : (t : Sent (objects s) f i) (q : ℕ) → Fails room s f t → has_messages s.registers.edition ≡ true
        → has_message_room room (objects s) (length (arguments_of f t.count)) ≡ true → (m : Pointer) → lookup (objects s) failure_selector t.class ≡ Some m
        → (a : Activation) → activate s.registers.edition room (with_message s f t) m.0 t.receiver (message_word (objects s) ∷ []) ≡ a → (l : Looked)
        → Caused C (activated room (messaged s t.selector (arguments_of f t.count)) (popped f q (suc t.count)) rest m.0 t.receiver (message_word (objects s) ∷ []) l
        (halts not_understood) a)
    unfolding framed
    message_halts t q g h r m e (answered w o) d l =
        let p = messaged s t.selector (arguments_of f t.count) in
        let k = popped f q (suc t.count) in
        changes o (pushed p k rest k.position k.operands w l) (pushes_in C p k k.position k.operands w l)
    message_halts t q g h r m e entered d l = if_cases (Caused C) _ _ _ (λ b. tt) (λ b. (t, inr (g, h, r, m, e, (d, b))))
    message_halts t q g h r m e unfit d l = (t, g, inr (inr (inr (m, e, d))))

    resent_halts : (t : Sent (objects s) f i) (q : ℕ) → Fails room s f t → has_messages s.registers.edition ≡ true → (x : Rattle.std.specs.declared.option.Option.Option Pointer) → lookup (objects s) failure_selector t.class ≡ x
        → Caused C (resent room s (popped f q (suc t.count)) rest t.selector t.class t.receiver (arguments_of f t.count) x)
    resent_halts t q g h None e = (t, g, inr (inl e))
    resent_halts t q g h (Some m) e =
        if_cases (Caused C) (has_message_room room (objects s) (length (arguments_of f t.count))) _ _
        (λ b. message_halts t q g h b m e _ refl (looked_up (objects s) failure_selector t.class m.0)) (λ b. (t, g, inr (inr (inl b))))

    failed_halts : (t : Sent (objects s) f i) (q : ℕ) → Fails room s f t
        → Caused C (failed room s (popped f q (suc t.count)) rest t.selector t.class t.receiver (arguments_of f t.count))
    unfolding failed
    failed_halts t q g = if_cases (Caused C) (has_messages s.registers.edition) _ _ (λ b. resent_halts t q g b _ refl) (λ b. (t, g, inl b))

    found_halts : (t : Sent (objects s) f i) (q : ℕ) (m : Pointer) → lookup (objects s) t.selector t.class ≡ Some m
        → (a : Activation) → activate s.registers.edition room (objects s) m.0 t.receiver (arguments_of f t.count) ≡ a → (l : Looked)
        → Caused C (activated room s (popped f q (suc t.count)) rest m.0 t.receiver (arguments_of f t.count) l
        (failed room s (popped f q (suc t.count)) rest t.selector t.class t.receiver (arguments_of f t.count)) a)
    unfolding framed
    found_halts t q m e (answered w o) h l =
        let g = popped f q (suc t.count) in
        changes o (pushed s g rest g.position g.operands w l) (pushes C g g.position g.operands w l)
    found_halts t q m e entered h l = if_cases (Caused C) _ _ _ (λ b. tt) (λ b. (t, inl (m, e, (h, b))))
    found_halts t q m e unfit h l = failed_halts t q (inr (m, e, h))

    lookup_halts : (t : Sent (objects s) f i) (q : ℕ) (x : Rattle.std.specs.declared.option.Option.Option Pointer) → lookup (objects s) t.selector t.class ≡ x
        → Caused C (after_lookup room s (popped f q (suc t.count)) rest t.selector t.class t.receiver (arguments_of f t.count) x)
    lookup_halts t q None e = failed_halts t q (inl e)
    lookup_halts t q (Some m) e = found_halts t q m e _ refl (looked_up (objects s) t.selector t.class m.0)

    send_halts : (q : ℕ) (from : ℕ → ℕ) (selector count : ℕ) → ((receiver : ℕ) → SendsOf (objects s) f receiver selector (from receiver) count i)
        → Caused C (sends room s f rest q from selector count)
    unfolding sends
    send_halts q from selector count h =
        after_read C (operand f count) _
        (λ receiver e. lookup_halts (record { receiver = receiver; selector = selector; class = from receiver; count = count; below = e; sends = h receiver }) q _ refl)

  -- ---- special sends and jumps

  computes : (k q : ℕ) (x : Rattle.std.specs.declared.option.Option.Option ℕ) (C : Cause → Type 0) → Caused C (sends room s f rest q (class_of (objects s)) (special_selector (objects s) k) 1)
      → Caused C (or_sends x (λ w. pushed s f rest q (without f 2) w no_lookup) (sends room s f rest q (class_of (objects s)) (special_selector (objects s) k) 1))
  computes k q (Some w) C h = pushes C f q (without f 2) w no_lookup
  computes k q None C h = h

  module _ (k : ℕ) where
    abbrev D : Cause → Type 0
    D cause = Because room s f (SpecialSend k) cause

    one : ltb k 16 ≡ true → 1 ≡ special_count k
    unfolding special_count
    one b = sym (if_yes _ _ b)

    unlike : ltb k 16 ≡ true → (n : ℕ) → 16 ≤ n → eqb k n ≡ false
    unlike b n h = ne_eqb k n (λ e. let l = ltb-true k 16 b in omega arith)

    special_halts : (q : ℕ) → Caused D (special_sends room s f rest q k)
    unfolding special_sends arithmetic_sends
    special_halts q =
        if_cases (Caused D) (ltb k 16) _ _
        (λ b. after_read D (operand f 1) _
        (λ x e. after_read D (operand f 0) _
        (λ y d. computes k q (arithmetic (tried_primitive k) x y) D
        (send_halts (SpecialSend k) q (class_of (objects s)) (special_selector (objects s) k) 1
        (λ receiver. (refl, one b, refl, unlike b 22 (omega arith), unlike b 23 (omega arith)))))))
        (λ b. if_cases (Caused D) (is_same k) _ _
        (λ x. after_read D (operand f 1) _ (λ y e. after_read D (operand f 0) _ (λ z d. pushes D f q (without f 2) _ no_lookup)))
        (λ x. if_cases (Caused D) (is_class k) _ _
        (λ y. after_read D (operand f 0) _ (λ z d. pushes D f q (without f 1) _ no_lookup))
        (λ y. send_halts (SpecialSend k) q (class_of (objects s)) (special_selector (objects s) k) (special_count k) (λ receiver. (refl, refl, refl, x, y)))))

  module _ (condition : Bool) (ahead : ℕ) where
    abbrev J : Cause → Type 0
    J cause = Because room s f (JumpOn condition ahead) cause

    jump_halts : (q : ℕ) → Caused J (jumps s f rest q condition ahead)
    unfolding jumps
    jump_halts q =
        after_read J (operand f 0) _
        (λ w e. if_cases (Caused J) (eqb w (boolean_word condition)) _ _ (λ b. tt)
        (λ b. if_cases (Caused J) (eqb w true_word || eqb w false_word) _ _ (λ c. tt)
        (λ c. let n = neither (eqb w true_word) (eqb w false_word) c in ((condition, ahead, refl), w, e, eqb-false w true_word n.0, eqb-false w false_word n.1))))

  -- ---- every instruction

  execute_halts : (q : ℕ) (i : Instruction) → Caused (Because room s f i) (execute room s f rest q i)
  unfolding execute
  execute_halts q (Push p) = after_read _ (read (objects s) f p) _ (λ w e. pushes _ f q f.operands w no_lookup)
  execute_halts q (Store p) = after_read _ (operand f 0) _ (λ w e. stores _ (moved_to f q f.operands) p w)
  execute_halts q (PopStore p) = after_read _ (operand f 0) _ (λ w e. stores _ (popped f q 1) p w)
  execute_halts q PushSelf = pushes _ f q f.operands f.receiver no_lookup
  execute_halts q (PushConstant w) = pushes _ f q f.operands w no_lookup
  execute_halts q ReturnSelf = returns _ f.receiver rest
  execute_halts q (ReturnConstant w) = returns _ w rest
  execute_halts q ReturnTop = after_read _ (operand f 0) _ (λ w e. returns _ w rest)
  execute_halts q Pop = after_read _ (operand f 0) _ (λ w e. tt)
  execute_halts q Duplicate = after_read _ (operand f 0) _ (λ w e. pushes _ f q f.operands w no_lookup)
  execute_halts q (Jump ahead back) = after_test _ (leb back (q + ahead)) _ tt
  execute_halts q (JumpOn condition ahead) = jump_halts condition ahead q
  execute_halts q (Send l n) =
      after_read _ (literal_of (objects s) f.method l) _ (λ w e. send_halts (Send l n) q (class_of (objects s)) w n (λ receiver. (e, refl, refl)))
  execute_halts q (SuperSend l n) =
      after_read _ (literal_of (objects s) f.method l) _ (λ w e. send_halts (SuperSend l n) q (above_home s f) w n (λ receiver. (e, refl, refl)))
  execute_halts q (SpecialSend k) = special_halts k q
  execute_halts q Unused = tt

-- the phase says nothing of the cause
still : (room : Room) (s : Plain) (cause : Cause) (fs : List Frame) → HaltsFor room s cause fs → HaltsFor room (halted s cause) cause fs
still room s cause [] h = h
still room s not_understood (f ∷ rest) h = h
still room s no_boolean (f ∷ rest) h = h
still room s no_stack_room (f ∷ rest) h = h

-- A step that halts does so for a cause that stands at the top frame's position, in the state that it leaves.
pub halts_for : (room : Room) (s : Plain) (cause : Cause) → step room s ≡ halts cause → HaltsFor room (halted s cause) cause s.frames
unfolding step
halts_for room s cause e = still room s cause s.frames (go s.frames e)
  where
    go : (fs : List Frame) → elim fs as (λ _. Stepped) [ [] ↦ missing | f ∷ rest ↦ step_frame room s f rest ] ≡ halts cause → HaltsFor room s cause fs
    go [] e = subst (Caused (λ c. ⊥)) e tt
    go (f ∷ rest) e = unfold step_frame in
        subst (Caused _) e (execute_halts room s f rest _ _)
