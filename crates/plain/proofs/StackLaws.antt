-- Calls that need no more than k words of stack go the same on a stack of k words.
use Prim.Native.Nat.{ℕ, zero, suc, ◌+◌, ◌-◌, ◌≤◌}
use mathlib.Core.Path.{◌≡◌, refl, sym, ap, ◌∙◌, subst}
use mathlib.Core.Bool.{Bool, true, false}
use mathlib.Core.List.{List, [], ◌∷◌}
use mathlib.Core.Option.{Option, some, none}
use native.Mathlib.Omega.{arith}
use lib.Dec.{T, ltb, eqb}
use lib.ListN.{length, drop}
use Rattle.bytecode.specs.Test.{when◌then◌else◌}
use Rattle.bytecode.proofs.Choice.{if_yes, if_no}
use Rattle.bytecode.proofs.TestLaws.{true→T, T→true}
use Rattle.bytecode.specs.declared.Instruction.{Instruction}
use Rattle.bytecode.specs.declared.Instruction.TheVariants as I
use Rattle.bytecode.specs.Effect.{special_count}
use Rattle.std.specs.Prelude.{Some, None}
use Rattle.model.specs.declared.Pointer.{Pointer}
use Rattle.model.specs.Objects.{Objects, class_of}
use Rattle.model.specs.Method.{frame_size}
use Rattle.model.specs.Lookup.{lookup}
use Rattle.model.specs.Rules.{rule8, special_selector, is_same, is_class}
use Rattle.model.specs.Limits.{has_messages}
use Rattle.model.specs.Word.{boolean_word, failure_selector}
use Rattle.model.specs.Arithmetic.{arithmetic}
use Rattle.model.specs.Image.{Room, buffers_fine, load_verdict}
use Rattle.model.specs.Primitive.{message_word, has_message_room, has_room, make, new, new_with, perform, primitive}
use Rattle.plain.specs.Registers.{running, not_understood, no_boolean, no_stack_room, phase_of}
use Rattle.plain.specs.State.{Frame, Plain, objects, new_frame, fits_stack}
use Rattle.plain.specs.Step.{Looked, looked_up, Stepped, leads_to, halts, missing, ◌>>=◌, Activation, answered, entered, unfit, activate, framed, activated, messaged, resent, failed, after_lookup, sends, or_sends, arithmetic_sends, special_sends, no_lookup, operand, without, pushed, popped, literal_of, above_home, tried_primitive, execute, step_frame, step}
use Rattle.plain.specs.Calls.{loaded, Begun, begun, declined, begin_activated, begin_found, begin, taken, Ran, ran, stuck, counted, onward, if_running, steps, largest_end, standing_end, reach_of}
use Rattle.plain.specs.Calls.{Call, begin_call, run_call, drop_call, forget_call, after_begin, after_run, run_if, call}
use Rattle.plain.specs.Flat.{room_of}
use Rattle.plain.specs.CallLists.{Agrees}
use Rattle.plain.specs.Reach.{with_stack, Within, state_after, AllWithin, Suffices}
use Rattle.plain.proofs.FrameLaws.{fits, fitting}
use Rattle.plain.proofs.TurnLaws.{reach_least}
use Rattle.plain.proofs.Theorem.{from_load}
use Rattle.plain.proofs.Consequences.{same_calls}

-- ---- one step

-- What a step gives with a stack of n words, and with one of k
Alike : (n k : ℕ) → Stepped → Stepped → Type 0
Alike n k (leads_to p l) x = standing_end p ≤ k → x ≡ leads_to p l
Alike n k (halts not_understood) x = x ≡ halts not_understood
Alike n k (halts no_boolean) x = x ≡ halts no_boolean
Alike n k (halts no_stack_room) x = k ≤ n → x ≡ halts no_stack_room
Alike n k missing x = Unit {0}

same : (n k : ℕ) (x : Stepped) → Alike n k x x
unfolding Alike
same n k (leads_to p l) = λ h. refl
same n k (halts not_understood) = refl
same n k (halts no_boolean) = refl
same n k (halts no_stack_room) = λ h. refl
same n k missing = tt

bound : {A : Type 0} (n k : ℕ) (r : Option A) (f g : A → Stepped) → ((a : A) → Alike n k (f a) (g a)) → Alike n k (r >>= f) (r >>= g)
unfolding Alike
bound n k none f g h = tt
bound n k (some a) f g h = h a

-- where a frame is on top, the frames end no lower than it
above : (o : Objects) (base : ℕ) (f : Frame) (rest : List Frame) → base + frame_size o f.method ≤ largest_end o base (f ∷ rest)
unfolding largest_end
above o base f rest = omega arith

fits_too : (n k base words end : ℕ) → fits_stack n base words ≡ true → base + words ≤ end → end ≤ k → fits_stack k base words ≡ true
fits_too n k base words end e a h =
    let f = fits n base words (true→T e) in
    T→true (fits_stack k base words) (fitting k base words (record { inside = omega arith; most = f.most }))

-- what has no room has none in less
fits_nor : (n k base words : ℕ) → k ≤ n → fits_stack n base words ≡ false → fits_stack k base words ≡ false
fits_nor n k base words h e = go (fits_stack k base words) refl
  where
    go : (b : Bool) → fits_stack k base words ≡ b → b ≡ false
    go false q = refl
    go true q = absurd (subst T (sym (fits_too k n base words (base + words) q (omega arith) (let f = fits k base words (true→T q) in let i = f.inside in omega arith)) ∙ e) tt)

-- a test for a frame, with either stack
tested : (n k base words : ℕ) (p : Plain) (l : Looked) → base + words ≤ standing_end p
    → Alike n k (when fits_stack n base words then leads_to p l else halts no_stack_room) (when fits_stack k base words then leads_to p l else halts no_stack_room)
unfolding Alike when◌then◌else◌
tested n k base words p l a = go (fits_stack n base words) refl
  where
    go : (b : Bool) → fits_stack n base words ≡ b
        → Alike n k (when b then leads_to p l else halts no_stack_room) (when fits_stack k base words then leads_to p l else halts no_stack_room)
    go true e = λ h. if_yes _ _ (fits_too n k base words (standing_end p) e a h)
    go false e = λ h. if_no _ _ (fits_nor n k base words h e)

module _ (room : Room) (k : ℕ) where
  abbrev other : Room
  other = with_stack room k

  activates : (e : ℕ) (o : Objects) (m receiver : ℕ) (arguments : List ℕ) → activate e room o m receiver arguments ≡ activate e other o m receiver arguments
  unfolding activate primitive perform new new_with make has_room
  activates e o m receiver arguments = refl

  -- the stack's length is asked for a new frame alone
  framed_alike : (s : Plain) (f : Frame) (rest : List Frame) (m receiver : ℕ) (arguments : List ℕ) (l : Looked)
      → Alike room.stack k (framed room s f rest m receiver arguments l) (framed other s f rest m receiver arguments l)
  unfolding framed standing_end new_frame
  framed_alike s f rest m receiver arguments l =
      let base : ℕ = s.registers.top + frame_size (objects s) f.method in
      tested room.stack k base (frame_size (objects s) m) _ l (above (objects s) base (new_frame (objects s) s.registers.top m receiver arguments) (f ∷ rest))

  activated_alike : (s : Plain) (f : Frame) (rest : List Frame) (m receiver : ℕ) (arguments : List ℕ) (l : Looked) (y y' : Stepped) → Alike room.stack k y y' → (x : Activation)
      → Alike room.stack k (activated room s f rest m receiver arguments l y x) (activated other s f rest m receiver arguments l y' x)
  activated_alike s f rest m receiver arguments l y y' h (answered w o) = same room.stack k _
  activated_alike s f rest m receiver arguments l y y' h entered = framed_alike s f rest m receiver arguments l
  activated_alike s f rest m receiver arguments l y y' h unfit = h

  choice_alike : (b : Bool) (x x' y y' : Stepped) → Alike room.stack k x x' → Alike room.stack k y y' → Alike room.stack k (when b then x else y) (when b then x' else y')
  unfolding when◌then◌else◌
  choice_alike true x x' y y' a b = a
  choice_alike false x x' y y' a b = b

  -- what a method that was found leads to
  acts_alike : (s : Plain) (f : Frame) (rest : List Frame) (e m receiver : ℕ) (arguments : List ℕ) (l : Looked) (y y' : Stepped) → Alike room.stack k y y'
      → Alike room.stack k (activated room s f rest m receiver arguments l y (activate e room (objects s) m receiver arguments))
      (activated other s f rest m receiver arguments l y' (activate e other (objects s) m receiver arguments))
  acts_alike s f rest e m receiver arguments l y y' h =
      subst (λ (x : Activation). Alike room.stack k (activated room s f rest m receiver arguments l y (activate e room (objects s) m receiver arguments)) (activated other s f rest m receiver arguments l y' x))
      (activates e (objects s) m receiver arguments) (activated_alike s f rest m receiver arguments l y y' h (activate e room (objects s) m receiver arguments))

  resent_alike : (s : Plain) (f : Frame) (rest : List Frame) (selector class receiver : ℕ) (arguments : List ℕ) (x : Rattle.std.specs.declared.option.Option.Option Pointer)
      → Alike room.stack k (resent room s f rest selector class receiver arguments x) (resent other s f rest selector class receiver arguments x)
  unfolding has_message_room
  resent_alike s f rest selector class receiver arguments None = same room.stack k _
  resent_alike s f rest selector class receiver arguments (Some m) =
      choice_alike (has_message_room room (objects s) (length arguments)) _ _ _ _
      (acts_alike (messaged s selector arguments) f rest s.registers.edition m.0 receiver (message_word (objects s) ∷ []) (looked_up (objects s) failure_selector class m.0) (halts not_understood)
      (halts not_understood) (same room.stack k (halts not_understood)))
      (same room.stack k (halts not_understood))

  failed_alike : (s : Plain) (f : Frame) (rest : List Frame) (selector class receiver : ℕ) (arguments : List ℕ)
      → Alike room.stack k (failed room s f rest selector class receiver arguments) (failed other s f rest selector class receiver arguments)
  unfolding failed
  failed_alike s f rest selector class receiver arguments =
      choice_alike (has_messages s.registers.edition) _ _ _ _ (resent_alike s f rest selector class receiver arguments (lookup (objects s) failure_selector class))
      (same room.stack k (halts not_understood))

  looked_alike : (s : Plain) (f : Frame) (rest : List Frame) (selector class receiver : ℕ) (arguments : List ℕ) (x : Rattle.std.specs.declared.option.Option.Option Pointer)
      → Alike room.stack k (after_lookup room s f rest selector class receiver arguments x) (after_lookup other s f rest selector class receiver arguments x)
  looked_alike s f rest selector class receiver arguments None = failed_alike s f rest selector class receiver arguments
  looked_alike s f rest selector class receiver arguments (Some m) =
      acts_alike s f rest s.registers.edition m.0 receiver arguments (looked_up (objects s) selector class m.0) _ _ (failed_alike s f rest selector class receiver arguments)

  sends_alike : (s : Plain) (f : Frame) (rest : List Frame) (position : ℕ) (from : ℕ → ℕ) (selector count : ℕ)
      → Alike room.stack k (sends room s f rest position from selector count) (sends other s f rest position from selector count)
  unfolding sends
  sends_alike s f rest position from selector count = bound room.stack k (operand f count) _ _
      (λ receiver. looked_alike s (popped f position (suc count)) rest selector (from receiver) receiver (drop (f.depth - count) f.operands)
      (lookup (objects s) selector (from receiver)))

  or_alike : (x : Rattle.std.specs.declared.option.Option.Option ℕ) (answer : ℕ → Stepped) (y y' : Stepped) → Alike room.stack k y y' → Alike room.stack k (or_sends x answer y) (or_sends x answer y')
  or_alike (Some w) answer y y' h = same room.stack k (answer w)
  or_alike None answer y y' h = h

  arithmetic_alike : (s : Plain) (f : Frame) (rest : List Frame) (position i : ℕ)
      → Alike room.stack k (arithmetic_sends room s f rest position i) (arithmetic_sends other s f rest position i)
  unfolding arithmetic_sends
  arithmetic_alike s f rest position i =
      bound room.stack k (operand f 1) _ _ (λ a. bound room.stack k (operand f 0) _ _ (λ b. or_alike (arithmetic (tried_primitive i) a b) (λ w. pushed s f rest position (without f 2) w no_lookup) _ _
      (sends_alike s f rest position (class_of (objects s)) (special_selector (objects s) i) 1)))

  special_alike : (s : Plain) (f : Frame) (rest : List Frame) (position i : ℕ)
      → Alike room.stack k (special_sends room s f rest position i) (special_sends other s f rest position i)
  unfolding special_sends
  special_alike s f rest position i =
      choice_alike (ltb i 16) _ _ _ _ (arithmetic_alike s f rest position i)
      (choice_alike (is_same i) _ _ _ _
      (same room.stack k (operand f 1 >>= λ a. operand f 0 >>= λ b. pushed s f rest position (without f 2) (boolean_word (eqb a b)) no_lookup))
      (choice_alike (is_class i) _ _ _ _ (same room.stack k (operand f 0 >>= λ a. pushed s f rest position (without f 1) (class_of (objects s) a) no_lookup))
      (sends_alike s f rest position (class_of (objects s)) (special_selector (objects s) i) (special_count i))))

  execute_alike : (s : Plain) (f : Frame) (rest : List Frame) (position : ℕ) (i : Instruction) → Alike room.stack k (execute room s f rest position i) (execute other s f rest position i)
  unfolding execute
  execute_alike s f rest position (I.Push p) = same room.stack k (execute room s f rest position (I.Push p))
  execute_alike s f rest position (I.Store p) = same room.stack k (execute room s f rest position (I.Store p))
  execute_alike s f rest position (I.PopStore p) = same room.stack k (execute room s f rest position (I.PopStore p))
  execute_alike s f rest position I.PushSelf = same room.stack k (execute room s f rest position I.PushSelf)
  execute_alike s f rest position (I.PushConstant w) = same room.stack k (execute room s f rest position (I.PushConstant w))
  execute_alike s f rest position I.ReturnSelf = same room.stack k (execute room s f rest position I.ReturnSelf)
  execute_alike s f rest position (I.ReturnConstant w) = same room.stack k (execute room s f rest position (I.ReturnConstant w))
  execute_alike s f rest position I.ReturnTop = same room.stack k (execute room s f rest position I.ReturnTop)
  execute_alike s f rest position I.Pop = same room.stack k (execute room s f rest position I.Pop)
  execute_alike s f rest position I.Duplicate = same room.stack k (execute room s f rest position I.Duplicate)
  execute_alike s f rest position (I.Jump ahead back) = same room.stack k (execute room s f rest position (I.Jump ahead back))
  execute_alike s f rest position (I.JumpOn condition ahead) = same room.stack k (execute room s f rest position (I.JumpOn condition ahead))
  execute_alike s f rest position (I.Send l n) = bound room.stack k (literal_of (objects s) f.method l) _ _ (λ w. sends_alike s f rest position (class_of (objects s)) w n)
  execute_alike s f rest position (I.SuperSend l n) = bound room.stack k (literal_of (objects s) f.method l) _ _ (λ w. sends_alike s f rest position (above_home s f) w n)
  execute_alike s f rest position (I.SpecialSend j) = special_alike s f rest position j
  execute_alike s f rest position I.Unused = same room.stack k (execute room s f rest position I.Unused)

  step_alike : (p : Plain) → Alike room.stack k (step room p) (step other p)
  unfolding step step_frame
  step_alike p = go p.frames
    where
      go : (fs : List Frame)
          → Alike room.stack k (elim fs as (λ _. Stepped) [ [] ↦ missing | f ∷ rest ↦ step_frame room p f rest ]) (elim fs as (λ _. Stepped) [ [] ↦ missing | f ∷ rest ↦ step_frame other p f rest ])
      go [] = same room.stack k missing
      go (f ∷ rest) = execute_alike p f rest _ _

  -- ---- a run
  RunAlike : Plain → Ran → Ran → Type 0
  RunAlike p (ran j q ts) x = reach_of p ts ≤ k → (q.registers.phase ≡ phase_of no_stack_room → k ≤ room.stack) → x ≡ ran j q ts
  RunAlike p stuck x = Unit {0}

  run_alike : (n : ℕ) (p : Plain) → RunAlike p (steps room n p) (steps other n p)
  unfolding steps reach_of Alike RunAlike
  run_alike zero p = λ h d. refl
  run_alike (suc n) p = by_phase (eqb p.registers.phase running) (λ q. run_alike n q)
    where
      Again : Type 0
      Again = (q : Plain) → RunAlike q (steps room n q) (steps other n q)

      counts : (p' : Plain) (l : Looked) (y : Stepped) → Alike room.stack k (leads_to p' l) y → (x : Ran) → RunAlike p' x (steps other n p')
          → RunAlike p (counted (taken l p') x) (onward (λ s'. steps other n s') p y)
      counts p' l y a (ran j q ts) r = λ h d.
          let z = reach_least p' ts in
          ap (onward (λ s'. steps other n s') p) (a (omega arith)) ∙ ap (counted (taken l p')) (r (omega arith) d)
      counts p' l y a stuck r = tt

      by_step : Again → (x y : Stepped) → Alike room.stack k x y → RunAlike p (onward (λ s'. steps room n s') p x) (onward (λ s'. steps other n s') p y)
      by_step again (leads_to p' l) y a = counts p' l y a (steps room n p') (again p')
      by_step again (halts not_understood) y a = λ h d. ap (onward (λ s'. steps other n s') p) a
      by_step again (halts no_boolean) y a = λ h d. ap (onward (λ s'. steps other n s') p) a
      by_step again (halts no_stack_room) y a = λ h d. ap (onward (λ s'. steps other n s') p) (a (d refl))
      by_step again missing y a = tt

      by_phase : (b : Bool) → Again → RunAlike p (if_running (λ s'. steps room n s') room p b) (if_running (λ s'. steps other n s') other p b)
      by_phase true again = by_step again (step room p) (step other p) (step_alike p)
      by_phase false again = λ h d. refl

  -- ---- begin
  BeginAlike : Begun → Begun → Type 0
  BeginAlike (begun p) x = standing_end p ≤ k → x ≡ begun p
  BeginAlike (declined i) x = (i ≡ 13 → k ≤ room.stack) → x ≡ declined i

  begun_same : (x : Begun) → BeginAlike x x
  unfolding BeginAlike
  begun_same (begun p) = λ h. refl
  begun_same (declined i) = λ h. refl

  begun_choice : (b : Bool) (x x' y y' : Begun) → BeginAlike x x' → BeginAlike y y' → BeginAlike (when b then x else y) (when b then x' else y')
  unfolding when◌then◌else◌
  begun_choice true x x' y y' a b = a
  begun_choice false x x' y y' a b = b

  begun_tested : (base words : ℕ) (p : Plain) → base + words ≤ standing_end p
      → BeginAlike (when fits_stack room.stack base words then begun p else declined 13) (when fits_stack k base words then begun p else declined 13)
  unfolding when◌then◌else◌ BeginAlike
  begun_tested base words p a = go (fits_stack room.stack base words) refl
    where
      go : (b : Bool) → fits_stack room.stack base words ≡ b
          → BeginAlike (when b then begun p else declined 13) (when fits_stack k base words then begun p else declined 13)
      go true e = λ h. if_yes _ _ (fits_too room.stack k base words (standing_end p) e a h)
      go false e = λ d. if_no _ _ (fits_nor room.stack k base words (d refl) e)

  activated_begins : (s : Plain) (m receiver : ℕ) (arguments : List ℕ) (x : Activation)
      → BeginAlike (begin_activated room s m receiver arguments x) (begin_activated other s m receiver arguments x)
  unfolding standing_end new_frame
  activated_begins s m receiver arguments (answered w o) = begun_same _
  activated_begins s m receiver arguments entered =
      begun_tested 0 (frame_size (objects s) m) _ (above (objects s) 0 (new_frame (objects s) 0 m receiver arguments) [])
  activated_begins s m receiver arguments unfit = begun_same _

  found_begins : (s : Plain) (receiver : ℕ) (arguments : List ℕ) (x : Rattle.std.specs.declared.option.Option.Option Pointer) → BeginAlike (begin_found room s receiver arguments x) (begin_found other s receiver arguments x)
  found_begins s receiver arguments None = begun_same _
  found_begins s receiver arguments (Some m) =
      begun_choice _ _ _ _ _
      (subst (λ (x : Activation). BeginAlike (begin_activated room s m.0 receiver arguments (activate s.registers.edition room (objects s) m.0 receiver arguments))
      (begin_activated other s m.0 receiver arguments x)) (activates s.registers.edition (objects s) m.0 receiver arguments)
      (activated_begins s m.0 receiver arguments (activate s.registers.edition room (objects s) m.0 receiver arguments)))
      (begun_same _)

  begin_alike : (s : Plain) (receiver selector : ℕ) (arguments : List ℕ) → BeginAlike (begin room s receiver selector arguments) (begin other s receiver selector arguments)
  unfolding begin
  begin_alike s receiver selector arguments =
      begun_choice (eqb s.registers.phase running) _ _ _ _ (begun_same (declined 12))
      (begun_choice (rule8 (objects s) receiver selector arguments) _ _ _ _
      (found_begins s receiver arguments (lookup (objects s) selector (class_of (objects s) receiver))) (begun_same (declined 8)))

  -- ---- a call
  begin_called : (p : Plain) (x y : Begun) → BeginAlike x y → Within room k (after_begin p x) → after_begin p y ≡ after_begin p x
  unfolding BeginAlike
  begin_called p (begun q) y a n = ap (after_begin p) (a n)
  begin_called p (declined i) y a n = ap (after_begin p) (a n)

  run_called : (p : Plain) (x y : Ran) → RunAlike p x y → Within room k (after_run p x) → after_run p y ≡ after_run p x
  unfolding RunAlike
  run_called p (ran j q ts) y a n = ap (after_run p) (a n.0 n.1)
  run_called p stuck y a n = absurd n

  run_by : (n : ℕ) (p : Plain) (b : Bool) → Within room k (run_if room n p b) → run_if other n p b ≡ run_if room n p b
  run_by n p true h = run_called p (steps room n p) (steps other n p) (run_alike n p) h
  run_by n p false h = refl

  call_same : (p : Plain) (c : Call) → Within room k (call room p c) → call other p c ≡ call room p c
  unfolding call
  call_same p (begin_call receiver selector arguments) h =
      begin_called p (begin room p receiver selector arguments) (begin other p receiver selector arguments) (begin_alike p receiver selector arguments) h
  call_same p (run_call n) h = run_by n p (eqb p.registers.phase running) h
  call_same p drop_call h = refl
  call_same p forget_call h = refl

  -- ---- a list of calls
  goes_same : (c : Call) (cs : List Call) (p : Plain) → AllWithin room k (c ∷ cs) p → (call other p c ≡ call room p c) × AllWithin room k cs (state_after p (call room p c))
  unfolding AllWithin
  goes_same c cs p n = (call_same p c n.0, n.1)

  -- load does not look at the stack
  verdict_same : (image : List ℕ) → load_verdict other image ≡ load_verdict room image
  unfolding load_verdict buffers_fine
  verdict_same image = refl

pub suffices : Suffices
suffices s s' image k e a =
    let l = from_load s image a in
    let l' = from_load s' image (ap (λ (r : Room). load_verdict r image) e ∙ verdict_same (room_of s) k image ∙ a) in (
      l.0,
      l'.0,
      l.1.gave,
      l'.1.gave,
      λ cs n. same_calls (room_of s) (with_stack (room_of s) k) (AllWithin (room_of s) k) (goes_same (room_of s) k) cs l.0 l'.0 (loaded image) n (l.1.agrees cs) (subst (λ (r : Room). Agrees r cs l'.0 (loaded image)) e (l'.1.agrees cs)),
    )
