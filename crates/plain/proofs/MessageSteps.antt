-- A send that failed, in editions with messages: what its message leads to, and the words of the buffers that it writes (02, M-104).
use Prim.Native.Nat.{ℕ, suc, ◌+◌, ◌-◌, ◌%◌}
use mathlib.Core.Path.{◌≡◌, refl, sym, ap, ◌∙◌}
use mathlib.Core.Logic.{◌≢◌}
use mathlib.Core.Bool.{Bool, true, false}
use mathlib.Core.List.{List, [], ◌∷◌, ◌++◌}
use native.Mathlib.Omega.{arith}
use borrow.Author.Tests.{eqb-true}
use lib.Dec.{T, eqb}
use lib.ListN.{length, take, set}
use lib.Seq.{sets}
use Rattle.bytecode.specs.Test.{when◌then◌else◌, every}
use Rattle.bytecode.specs.Constant.{false_word}
use Rattle.bytecode.proofs.Choice.{if_yes, if_no, if_eq, if_ne, if_cases}
use Rattle.bytecode.proofs.TestLaws.{T→true}
use Rattle.std.specs.Prelude.{None}
use Rattle.model.specs.Limits.{has_messages, receiver_flag, field_flag, primitive_flag}
use Rattle.model.specs.Word.{is_valid, failure_selector}
use Rattle.model.specs.Objects.{Objects, objects_at}
use Rattle.model.specs.Method.{flag, temporary_count, frame_size, argument_count, primitive_number}
use Rattle.model.specs.Lookup.{found, lookup, dictionaries_read}
use Rattle.model.specs.Image.{Room}
use Rattle.model.specs.Primitive.{Outcome, answers, fails, primitive, message_made, message_word, has_message_room}
use Rattle.model.proofs.MessageLaws.{message_fails, identity_answers}
use Rattle.plain.specs.Registers.{running, not_understood, no_stack_room}
use Rattle.plain.specs.State.{Frame, Plain, with_objects, with_frames, moved_to, new_frame, fits_stack}
use Rattle.plain.specs.Step.{Looked, looked, looked_up, Stepped, leads_to, halts, provided, without, has_word_of, on_top, pushed, Activation, answered, entered, unfit, entering, primitive_answered, activate, framed, changed, activated, messaged, resent, failed, popped}
use Rattle.plain.specs.Flat.{frame_depth, frame_method, operands_start, frame_at}
use Rattle.plain.specs.FlatCalls.{at_front}
use Rattle.plain.specs.Cache.{filled}
use Rattle.plain.specs.Running.{running_with, running_at, top_frame, rest_frames, Made, Sending, sent_receiver, sent_arguments, failed_step}
use Rattle.plain.proofs.StepLaws.{arguments_length, arguments_valid}
use Rattle.plain.proofs.RunningLaws.{top_right}
use Rattle.plain.proofs.FramedLaws.{new_image, answer_written, frame_written}

-- ---- what a method under object 6 does on a message

module _ (e : ℕ) (room : Room) (o : Objects) (m receiver w : ℕ) (one : argument_count o m ≡ 1) (even : w % 2 ≡ 0) where
  -- flags 5 and 6 take no arguments
  not_self : flag o m ≢ receiver_flag
  not_self q = let z : argument_count o m ≡ 0 = (unfold argument_count when◌then◌else◌ in rw q refl) in omega arith

  not_field : flag o m ≢ field_flag
  not_field q = let z : argument_count o m ≡ 0 = (unfold argument_count when◌then◌else◌ in rw q refl) in omega arith

  no_answer : activate e room o m receiver (w ∷ [])
      ≡ (when eqb (flag o m) primitive_flag then primitive_answered o m receiver (primitive e room o (primitive_number o m) (argument_count o m) receiver (w ∷ [])) else entering o m receiver)
  unfolding activate
  no_answer = if_ne (flag o m) receiver_flag _ _ not_self ∙ if_ne (flag o m) field_flag _ _ not_field

  tried : (x : Outcome) → primitive e room o (primitive_number o m) 1 receiver (w ∷ []) ≡ x
      → primitive_answered o m receiver (primitive e room o (primitive_number o m) (argument_count o m) receiver (w ∷ [])) ≡ primitive_answered o m receiver x
  tried x q = ap (λ (k : ℕ). primitive_answered o m receiver (primitive e room o (primitive_number o m) k receiver (w ∷ []))) one ∙ ap (primitive_answered o m receiver) q

  -- It runs in a frame, but for one that answers by primitive 110.
  pub message_enters : (flag o m ≡ primitive_flag → primitive_number o m ≢ 110) → activate e room o m receiver (w ∷ []) ≡ entering o m receiver
  message_enters h =
      no_answer ∙ if_cases (λ (x : Activation). x ≡ entering o m receiver) (eqb (flag o m) primitive_flag) _ _
      (λ p. tried fails (message_fails e room o receiver w even (primitive_number o m) (h (eqb-true (flag o m) primitive_flag p)))) (λ p. refl)

  pub message_answers : flag o m ≡ primitive_flag → primitive_number o m ≡ 110 → receiver ≢ w → activate e room o m receiver (w ∷ []) ≡ answered false_word o
  message_answers p q h =
      no_answer ∙ if_eq (flag o m) primitive_flag _ _ p
      ∙ tried (answers false_word o) (ap (λ (k : ℕ). primitive e room o k 1 receiver (w ∷ [])) q ∙ identity_answers e room o receiver w even h)

-- ---- the step

module _ {n b top : ℕ} {contents bodies stack : List ℕ} {selector count class position : ℕ} {sure : Bool} (s : Sending n b top contents bodies stack selector count class position sure)
    (room : Room) (edition receiver₀ selector₀ : ℕ) where
  abbrev o : Objects
  o = objects_at n b contents bodies

  abbrev f : Frame
  f = top_frame n b top contents bodies stack

  abbrev rest : List Frame
  rest = rest_frames n b top contents bodies stack

  abbrev given : List ℕ
  given = sent_arguments n b top contents bodies stack count

  abbrev receiver : ℕ
  receiver = sent_receiver n b top contents bodies stack count

  abbrev depth : ℕ
  depth = frame_depth stack top

  abbrev p : Plain
  p = running_at edition receiver₀ selector₀ n b top contents bodies stack

  abbrev y : Stepped
  y = failed_step room edition receiver₀ selector₀ n b top contents bodies stack selector count class position

  pub given_length : length given ≡ count
  given_length = let h = s.needs in arguments_length o f (top_right s.runs) count (unfold frame_at in omega arith)

  pub given_valid : T (every (is_valid n) given)
  given_valid = arguments_valid o f (top_right s.runs) count

  -- an edition without messages
  pub no_messages : has_messages edition ≡ false → y ≡ halts not_understood
  unfolding failed
  no_messages h = if_no _ _ h

  module _ (t : has_messages edition ≡ true) where
    sought : y ≡ resent room p (popped f position (suc count)) rest selector class receiver given (lookup o failure_selector class)
    unfolding failed
    sought = if_yes _ _ t

    -- object 6 is not found
    pub message_none : lookup o failure_selector class ≡ None → y ≡ halts not_understood
    message_none e = sought ∙ ap (resent room p (popped f position (suc count)) rest selector class receiver given) e

    module _ (m : ℕ) (e : lookup o failure_selector class ≡ found m) where
      -- or there is no room
      pub message_roomless : has_message_room room o count ≡ false → y ≡ halts not_understood
      message_roomless h =
          sought ∙ ap (resent room p (popped f position (suc count)) rest selector class receiver given) e ∙ if_no _ _ (ap (has_message_room room o) given_length ∙ h)

      module _ (h : has_message_room room o count ≡ true) where
        -- the objects with array and message
        abbrev o₁ : Objects
        o₁ = message_made o selector given

        abbrev sent : List ℕ
        sent = message_word o ∷ []

        abbrev l : Looked
        l = looked_up o failure_selector class m

        abbrev activation : Activation
        activation = activate edition room o₁ m receiver sent

        made : y ≡ activated room (messaged p selector given) (popped f position (suc count)) rest m receiver sent l (halts not_understood) activation
        made =
            sought ∙ ap (resent room p (popped f position (suc count)) rest selector class receiver given) e ∙ if_yes _ _ (ap (has_message_room room o) given_length ∙ h)

        by_activation : (x : Activation) → activation ≡ x → y ≡ activated room (messaged p selector given) (popped f position (suc count)) rest m receiver sent l (halts not_understood) x
        by_activation x a = made ∙ ap (activated room (messaged p selector given) (popped f position (suc count)) rest m receiver sent l (halts not_understood)) a

        pub message_unfit : activation ≡ unfit → y ≡ halts not_understood
        message_unfit a = by_activation unfit a

        pub message_full : activation ≡ entered → fits_stack room.stack (top + frame_size o₁ (frame_method stack top)) (frame_size o₁ m) ≡ false → y ≡ halts no_stack_room
        unfolding framed frame_at
        message_full a q = by_activation entered a ∙ if_no _ _ q

        -- an answer
        abbrev answeredTop : ℕ → Frame
        answeredTop w = moved_to f position (take (f.depth - suc count) f.operands ++ (w ∷ []))

        message_answered : T (has_word_of o₁ (popped f position (suc count)) (length (without f (suc count)))) → (w : ℕ) (o' : Objects) → activation ≡ answered w o'
            → y ≡ leads_to (with_objects (on_top p (answeredTop w) rest) o') l
        unfolding pushed frame_at
        message_answered has w o' a =
            by_activation (answered w o') a
            ∙ ap (λ (t : Bool). changed o' (provided t (leads_to (on_top (messaged p selector given) (answeredTop w) rest) l)))
            (T→true (has_word_of o₁ (popped f position (suc count)) (length (without f (suc count)))) has)

        -- the number that the search for object 6 gave
        number : {d : ℕ} (s : Plain) → d ≡ dictionaries_read o failure_selector class → leads_to s l ≡ leads_to s (looked failure_selector class m d)
        number s read = ap (λ (k : ℕ). leads_to s (looked failure_selector class m k)) (sym read)

        pub message_answer_made : {d : ℕ} → d ≡ dictionaries_read o failure_selector class → (cache : List ℕ) (w : ℕ) (o' : Objects) (n' b' : ℕ) (contents' bodies' stack' cache' : List ℕ)
            → T (has_word_of o₁ (popped f position (suc count)) (length (without f (suc count)))) → activation ≡ answered w o' → o'.n ≡ n' → o'.b ≡ b'
            → contents' ≡ at_front o'.contents contents → bodies' ≡ at_front o'.bodies bodies
            → stack' ≡ set (set (set stack (operands_start o (frame_method stack top) top + (depth - suc count)) w) (top + 1) position) (top + 2) (depth - suc count + 1)
            → cache' ≡ filled cache (looked failure_selector class m d)
            → Made y d (running_with edition receiver₀ selector₀ n' b' top) contents bodies stack cache contents' bodies' stack' cache'
        message_answer_made {d = d} read cache w o' n' b' contents' bodies' stack' cache' has a en eb ec ed es ek =
            record {
              state = with_objects (on_top p (answeredTop w) rest) o';
              lookup = looked failure_selector class m d;
              steps = message_answered has w o' a ∙ number (with_objects (on_top p (answeredTop w) rest) o') read;
              reads = refl;
              registers = λ i. running_with edition receiver₀ selector₀ (en i) (eb i) top;
              entries = ec;
              words = ed;
              frames = es ∙ answer_written s w;
              cached = ek;
            }

        -- a frame that fits
        abbrev enteredState : ℕ → Plain
        enteredState base = with_frames (messaged p selector given) (new_frame o₁ top m receiver sent ∷ popped f position (suc count) ∷ rest) running base 0

        message_framed : (base : ℕ) → base ≡ top + frame_size o₁ (frame_method stack top) → activation ≡ entered
            → fits_stack room.stack (top + frame_size o₁ (frame_method stack top)) (frame_size o₁ m) ≡ true → y ≡ leads_to (enteredState base) l
        unfolding framed frame_at
        message_framed base g a q = by_activation entered a ∙ if_yes _ _ q ∙ ap (λ (k : ℕ). leads_to (enteredState k) l) (sym g)

        pub message_frame_made : {d : ℕ} → d ≡ dictionaries_read o failure_selector class → (cache : List ℕ) (base n' b' : ℕ) (contents' bodies' stack' cache' : List ℕ) → base ≡ top + frame_size o₁ (frame_method stack top) → activation ≡ entered
            → fits_stack room.stack (top + frame_size o₁ (frame_method stack top)) (frame_size o₁ m) ≡ true → o₁.n ≡ n' → o₁.b ≡ b'
            → contents' ≡ at_front o₁.contents contents → bodies' ≡ at_front o₁.bodies bodies
            → stack' ≡ sets (set (set stack (top + 1) position) (top + 2) (depth - suc count)) base (new_image top m receiver (temporary_count o₁ m) sent)
            → cache' ≡ filled cache (looked failure_selector class m d)
            → Made y d (running_with edition receiver₀ selector₀ n' b' base) contents bodies stack cache contents' bodies' stack' cache'
        message_frame_made {d = d} read cache base n' b' contents' bodies' stack' cache' g a q en eb ec ed es ek =
            record {
              state = enteredState base;
              lookup = looked failure_selector class m d;
              steps = message_framed base g a q ∙ number (enteredState base) read;
              reads = refl;
              registers = λ i. running_with edition receiver₀ selector₀ (en i) (eb i) base;
              entries = ec;
              words = ed;
              frames = es ∙ frame_written s o₁ m base sent;
              cached = ek;
            }
