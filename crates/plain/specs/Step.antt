-- One bytecode of the plain machine (01, "Plain machine").
use Rattle.std.specs.Prelude.{ℕ, suc, ◌+◌, ◌-◌, Bool, true, false, ◌&&◌, ◌||◌, List, [], ◌∷◌, ◌++◌, leb, ltb, eqb, length, get_or, take, drop, set, Some, None}
use Rattle.std.proofs.Math.Option.{Option, none, some}
use Rattle.std.proofs.Math.ListN.{get_elem?}
use Rattle.bytecode.specs.Test.{when◌then◌else◌}
use Rattle.bytecode.specs.Constant.{false_word, true_word}
use Rattle.bytecode.specs.Code.{next_at, decode_at}
use Rattle.bytecode.specs.Effect.{special_count}
use Rattle.bytecode.specs.declared.Place.{Place}
use Rattle.bytecode.specs.declared.Place.TheVariants.{Field, Temporary, Literal, LiteralVariable}
use Rattle.bytecode.specs.declared.Instruction.{Instruction}
use Rattle.bytecode.specs.declared.Instruction.TheVariants.{Push, Store, PopStore, PushSelf, PushConstant, ReturnSelf, ReturnConstant, ReturnTop, Pop, Duplicate, Jump, JumpOn, Send, SuperSend, SpecialSend, Unused}
use Rattle.model.specs.declared.Pointer.{Pointer}
use Rattle.model.specs.Limits.{has_messages, fields_kind, receiver_flag, field_flag, primitive_flag}
use Rattle.model.specs.Word.{boolean_word, object_number, failure_selector}
use Rattle.model.specs.Objects.{Objects, class_of, size, body_word, superclass_word, is_kind}
use Rattle.model.specs.Method.{home, flag, temporary_count, literal_count, literal, code_words, code_size, frame_words, frame_size, primitive_number, argument_count}
use Rattle.model.specs.Lookup.{lookup, dictionaries_read, in_chain}
use Rattle.model.specs.Rules.{special_selector, is_same, is_class}
use Rattle.model.specs.Image.{Room}
use Rattle.model.specs.Arithmetic.{arithmetic}
use Rattle.model.specs.Primitive.{Outcome, answers, fails, primitive, store_word, message_made, message_word, has_message_room}
use Rattle.plain.specs.Registers.{running, finished, Cause, not_understood, no_boolean, no_stack_room}
use Rattle.plain.specs.State.{Frame, Plain, objects, with_objects, with_frames, moved_to, with_temporaries, new_frame, fits_stack}

-- What a step looked up: nothing, or a selector and a class with the method found and the number of dictionaries read (02, M-105). The cache is filled by it.
pub data Looked : Type 0 where
  no_lookup : Looked
  looked : ℕ → ℕ → ℕ → ℕ → Looked

-- The dictionaries that it read: none where nothing was looked up
abbrev pub read_in : Looked → ℕ
read_in no_lookup = 0
read_in (looked s c m k) = k

-- A lookup that found a method
abbrev pub looked_up : Objects → ℕ → ℕ → ℕ → Looked
looked_up o s c m = looked s c m (dictionaries_read o s c)

-- A step leads to a state; or halts, which leaves the state before the bytecode; or does not exist.
pub data Stepped : Type 0 where
  leads_to : Plain → Looked → Stepped
  halts : Cause → Stepped
  missing : Stepped

-- No step exists where an operand, field, temporary, literal or position is missing: a read that may find nothing, and what follows it
infixl 1 ◌>>=◌
abbrev pub ◌>>=◌ : {A : Type 0} → Option A → (A → Stepped) → Stepped
none >>= f = missing
some a >>= f = f a

-- or where a test fails
abbrev pub provided : Bool → Stepped → Stepped
provided true s = s
provided false s = missing

-- The operand under k others
unfoldable pub operand : Frame → ℕ → Option ℕ
operand f k = when ltb k f.depth then get_elem? f.operands (f.depth - suc k) else none

-- The operands without the k uppermost
abbrev pub without : Frame → ℕ → List ℕ
without f k = take (f.depth - k) f.operands

-- Field i (from 0) of a word: only objects of kind 0 have fields.
unfoldable pub field_of : Objects → ℕ → ℕ → Option ℕ
field_of o w i = when is_kind o fields_kind w && ltb i (size o (object_number w)) then some (body_word o (object_number w) i) else none

unfoldable pub literal_of : Objects → ℕ → ℕ → Option ℕ
literal_of o m i = when ltb i (literal_count o m) then some (literal o m i) else none

-- The state that runs on with f as its top frame
abbrev pub on_top : Plain → Frame → List Frame → Plain
on_top s f rest = with_frames s (f ∷ rest) running s.registers.top 0

-- The frame has a word to push into, above so many operands.
abbrev pub has_word_of : Objects → Frame → ℕ → Bool
has_word_of o f depth = ltb (temporary_count o f.method + depth) (frame_words o f.method)

unfoldable pub pushed : Plain → Frame → List Frame → ℕ → List ℕ → ℕ → Looked → Stepped
pushed s f rest position operands w l =
    provided (has_word_of (objects s) f (length operands)) (leads_to (on_top s (moved_to f position (operands ++ (w ∷ []))) rest) l)

-- The value of a place
unfoldable pub read : Objects → Frame → Place → Option ℕ
read o f (Field i) = field_of o f.receiver i
read o f (Temporary i) = get_elem? f.temporaries i
read o f (Literal i) = literal_of o f.method i
read o f (LiteralVariable i) = elim (literal_of o f.method i) [ none ↦ none | some w ↦ field_of o w 1 ]

-- The state in which the top frame f has stored w in a place: field i of the word v, or one of its temporaries
unfoldable pub stored_field : Plain → Frame → List Frame → ℕ → ℕ → ℕ → Stepped
stored_field s f rest v i w =
    field_of (objects s) v i >>= λ old.
    leads_to (with_objects (on_top s f rest) (store_word (objects s) (object_number v) i w)) no_lookup

unfoldable pub stored : Plain → Frame → List Frame → Place → ℕ → Stepped
stored s f rest (Field i) w = stored_field s f rest f.receiver i w
stored s f rest (Temporary i) w =
    get_elem? f.temporaries i >>= λ old. leads_to (on_top s (with_temporaries f (set f.temporaries i w)) rest) no_lookup
stored s f rest (Literal i) w = missing
stored s f rest (LiteralVariable i) w = literal_of (objects s) f.method i >>= λ v. stored_field s f rest v 1 w

-- A return pushes on the sender and does nothing else; from the bottom frame it finishes with the value.
unfoldable pub returned : Plain → Frame → List Frame → ℕ → Stepped
returned s f [] w = leads_to (with_frames s [] finished 0 w) no_lookup
returned s f (g ∷ rest) w =
    provided (has_word_of (objects s) g g.depth)
    (leads_to (with_frames s (moved_to g g.position (g.operands ++ (w ∷ [])) ∷ rest) running f.sender 0) no_lookup)

-- What a method does on a receiver and arguments: it answers without a frame, or runs in a new one; or the receiver is not one that it
-- can run on, which only a super send can meet (docs/DECISIONS.md, "Super sends to another receiver").
pub data Activation : Type 0 where
  answered : ℕ → Objects → Activation
  entered : Activation
  unfit : Activation

-- The frame of a method is for receivers that have its home in their class chain.
unfoldable pub entering : Objects → ℕ → ℕ → Activation
entering o m receiver = when in_chain o (home o m) (class_of o receiver) then entered else unfit

abbrev pub field_answered : Objects → Option ℕ → Activation
field_answered o (some w) = answered w o
field_answered o none = unfit

abbrev pub primitive_answered : Objects → ℕ → ℕ → Outcome → Activation
primitive_answered o m receiver (answers w o') = answered w o'
primitive_answered o m receiver fails = entering o m receiver

-- Flag 5 answers the receiver, flag 6 its field T; `e` is the edition. Where a primitive fails, the code runs.
unfoldable pub activate : ℕ → Room → Objects → ℕ → ℕ → List ℕ → Activation
activate e room o m receiver arguments =
    when eqb (flag o m) receiver_flag then answered receiver o else
    when eqb (flag o m) field_flag then field_answered o (field_of o receiver (temporary_count o m)) else
    when eqb (flag o m) primitive_flag
    then primitive_answered o m receiver (primitive e room o (primitive_number o m) (argument_count o m) receiver arguments)
    else entering o m receiver

-- A new frame above the top one, f, whose receiver and arguments are popped; phase 5 where it does not fit
unfoldable pub framed : Room → Plain → Frame → List Frame → ℕ → ℕ → List ℕ → Looked → Stepped
framed room s f rest m receiver arguments l =
    when fits_stack room.stack (s.registers.top + frame_size (objects s) f.method) (frame_size (objects s) m)
    then leads_to
    (with_frames s (new_frame (objects s) s.registers.top m receiver arguments ∷ f ∷ rest) running
    (s.registers.top + frame_size (objects s) f.method) 0) l
    else halts no_stack_room

-- The same step with the objects that a primitive left
abbrev pub changed : Objects → Stepped → Stepped
changed o (leads_to s l) = leads_to (with_objects s o) l
changed o (halts c) = halts c
changed o missing = missing

-- What follows an activation; `otherwise` where the method cannot run on the receiver
abbrev pub activated : Room → Plain → Frame → List Frame → ℕ → ℕ → List ℕ → Looked → Stepped → Activation → Stepped
activated room s f rest m receiver arguments l otherwise (answered w o) = changed o (pushed s f rest f.position f.operands w l)
activated room s f rest m receiver arguments l otherwise entered = framed room s f rest m receiver arguments l
activated room s f rest m receiver arguments l otherwise unfit = otherwise

-- 02, M-104: the state with the array and the message of a send made
abbrev pub messaged : Plain → ℕ → List ℕ → Plain
messaged s selector arguments = with_objects s (message_made (objects s) selector arguments)

-- The message is sent to the same receiver, with object 6 as its selector; phase 3 where that finds no method either, or one that cannot run on the
-- receiver, or where there is no room for both objects.
abbrev pub resent : Room → Plain → Frame → List Frame → ℕ → ℕ → ℕ → List ℕ → Rattle.std.specs.declared.option.Option.Option Pointer → Stepped
resent room s f rest selector class receiver arguments None = halts not_understood
resent room s f rest selector class receiver arguments (Some m) =
    when has_message_room room (objects s) (length arguments)
    then activated room (messaged s selector arguments) f rest m.0 receiver (message_word (objects s) ∷ []) (looked_up (objects s) failure_selector class m.0) (halts not_understood)
    (activate s.registers.edition room (message_made (objects s) selector arguments) m.0 receiver (message_word (objects s) ∷ []))
    else halts not_understood

-- A send fails where no method is found, or one that cannot run on the receiver. Editions without messages have phase 3 there; the others seek object 6
-- from the class where the failed search started.
unfoldable pub failed : Room → Plain → Frame → List Frame → ℕ → ℕ → ℕ → List ℕ → Stepped
failed room s f rest selector class receiver arguments =
    when has_messages s.registers.edition
    then resent room s f rest selector class receiver arguments (lookup (objects s) failure_selector class)
    else halts not_understood

abbrev pub after_lookup : Room → Plain → Frame → List Frame → ℕ → ℕ → ℕ → List ℕ → Rattle.std.specs.declared.option.Option.Option Pointer → Stepped
after_lookup room s f rest selector class receiver arguments None = failed room s f rest selector class receiver arguments
after_lookup room s f rest selector class receiver arguments (Some m) =
    activated room s f rest m.0 receiver arguments (looked_up (objects s) selector class m.0) (failed room s f rest selector class receiver arguments)
    (activate s.registers.edition room (objects s) m.0 receiver arguments)

-- The frame at its next position without the k uppermost operands
abbrev pub popped : Frame → ℕ → ℕ → Frame
popped f position k = moved_to f position (without f k)

-- A send of a selector with `count` arguments: receiver and arguments are popped, and the method is sought from the class that `from`
-- gives for the receiver.
unfoldable pub sends : Room → Plain → Frame → List Frame → ℕ → (ℕ → ℕ) → ℕ → ℕ → Stepped
sends room s f rest position from selector count =
    operand f count >>= λ receiver.
    after_lookup room s (popped f position (suc count)) rest selector (from receiver) receiver (drop (f.depth - count) f.operands)
    (lookup (objects s) selector (from receiver))

-- A super send starts above the home of the running method.
abbrev pub above_home : Plain → Frame → ℕ → ℕ
above_home s f receiver = superclass_word (objects s) (home (objects s) f.method)

-- 176–191 try these primitives on the two uppermost operands; 0 is none.
abbrev pub tried_primitive : ℕ → ℕ
tried_primitive k =
    get_or (1 ∷ 2 ∷ 3 ∷ 4 ∷ 5 ∷ 6 ∷ 7 ∷ 8 ∷ 9 ∷ 10 ∷ 11 ∷ 0 ∷ 17 ∷ 12 ∷ 14 ∷ 15 ∷ []) k 0

abbrev pub or_sends : Rattle.std.specs.declared.option.Option.Option ℕ → (ℕ → Stepped) → Stepped → Stepped
or_sends (Some w) answer otherwise = answer w
or_sends None answer otherwise = otherwise

unfoldable pub arithmetic_sends : Room → Plain → Frame → List Frame → ℕ → ℕ → Stepped
arithmetic_sends room s f rest position k =
    operand f 1 >>= λ a. operand f 0 >>= λ b.
    or_sends (arithmetic (tried_primitive k) a b)
    (λ w. pushed s f rest position (without f 2) w no_lookup)
    (sends room s f rest position (class_of (objects s)) (special_selector (objects s) k) 1)

-- Special send k: arithmetic first for 176–191; 198 (==) and 199 (class) never look up.
unfoldable pub special_sends : Room → Plain → Frame → List Frame → ℕ → ℕ → Stepped
special_sends room s f rest position k =
    when ltb k 16 then arithmetic_sends room s f rest position k else
    when is_same k
    then (operand f 1 >>= λ a. operand f 0 >>= λ b. pushed s f rest position (without f 2) (boolean_word (eqb a b)) no_lookup)
    else
    when is_class k
    then (operand f 0 >>= λ a. pushed s f rest position (without f 1) (class_of (objects s) a) no_lookup)
    else sends room s f rest position (class_of (objects s)) (special_selector (objects s) k) (special_count k)

-- A jump on a boolean pops it; phase 4 where it is neither.
unfoldable pub jumps : Plain → Frame → List Frame → ℕ → Bool → ℕ → Stepped
jumps s f rest position condition ahead =
    operand f 0 >>= λ w.
    when eqb w (boolean_word condition) then leads_to (on_top s (popped f (position + ahead) 1) rest) no_lookup else
    when eqb w true_word || eqb w false_word then leads_to (on_top s (popped f position 1) rest) no_lookup else
    halts no_boolean

-- One instruction, the next one at `position`
unfoldable pub execute : Room → Plain → Frame → List Frame → ℕ → Instruction → Stepped
execute room s f rest position (Push p) = read (objects s) f p >>= λ w. pushed s f rest position f.operands w no_lookup
execute room s f rest position (Store p) = operand f 0 >>= λ w. stored s (moved_to f position f.operands) rest p w
execute room s f rest position (PopStore p) = operand f 0 >>= λ w. stored s (popped f position 1) rest p w
execute room s f rest position PushSelf = pushed s f rest position f.operands f.receiver no_lookup
execute room s f rest position (PushConstant w) = pushed s f rest position f.operands w no_lookup
execute room s f rest position ReturnSelf = returned s f rest f.receiver
execute room s f rest position (ReturnConstant w) = returned s f rest w
execute room s f rest position ReturnTop = operand f 0 >>= λ w. returned s f rest w
execute room s f rest position Pop = operand f 0 >>= λ w. leads_to (on_top s (popped f position 1) rest) no_lookup
execute room s f rest position Duplicate = operand f 0 >>= λ w. pushed s f rest position f.operands w no_lookup
execute room s f rest position (Jump ahead back) =
    provided (leb back (position + ahead)) (leads_to (on_top s (moved_to f (position + ahead - back) f.operands) rest) no_lookup)
execute room s f rest position (JumpOn condition ahead) = jumps s f rest position condition ahead
execute room s f rest position (Send l n) =
    literal_of (objects s) f.method l >>= λ w. sends room s f rest position (class_of (objects s)) w n
execute room s f rest position (SuperSend l n) =
    literal_of (objects s) f.method l >>= λ w. sends room s f rest position (above_home s f) w n
execute room s f rest position (SpecialSend k) = special_sends room s f rest position k
execute room s f rest position Unused = missing

-- The step of a state whose top frame is f: the instruction at its position
unfoldable pub step_frame : Room → Plain → Frame → List Frame → Stepped
step_frame room s f rest =
    execute room s f rest (next_at (code_words (objects s) f.method) f.position)
    (decode_at (code_words (objects s) f.method) (code_size (objects s) f.method) f.position)

unfoldable pub step : Room → Plain → Stepped
step room s = elim s.frames [ [] ↦ missing | f ∷ rest ↦ step_frame room s f rest ]
