-- Why a run halts (01, "Plain machine"): what stands at the top frame's position. A halt leaves the state before the bytecode, so its cause can be read
-- from the state that it leaves.
use Rattle.std.specs.Prelude.{ℕ, ◌+◌, ◌-◌, ◌≡◌, ◌⊎◌, ◌≢◌, Bool, true, false, List, [], ◌∷◌, length, drop, Some, None}
use Rattle.std.proofs.Math.Option.{some}
use Rattle.bytecode.specs.Constant.{false_word, true_word}
use Rattle.bytecode.specs.Code.{decode_at}
use Rattle.bytecode.specs.Effect.{special_count}
use Rattle.bytecode.specs.declared.Instruction.{Instruction}
use Rattle.bytecode.specs.declared.Instruction.TheVariants.{Push, Store, PopStore, PushSelf, PushConstant, ReturnSelf, ReturnConstant, ReturnTop, Pop, Duplicate, Jump, JumpOn, Send, SuperSend, SpecialSend, Unused}
use Rattle.model.specs.declared.Pointer.{Pointer}
use Rattle.model.specs.Limits.{has_messages}
use Rattle.model.specs.Word.{failure_selector}
use Rattle.model.specs.Objects.{Objects, class_of, superclass_word}
use Rattle.model.specs.Method.{home, code_words, code_size, frame_size}
use Rattle.model.specs.Lookup.{lookup}
use Rattle.model.specs.Rules.{special_selector, is_same, is_class}
use Rattle.model.specs.Image.{Room}
use Rattle.model.specs.Primitive.{message_made, message_word, has_message_room}
use Rattle.plain.specs.Registers.{Cause, not_understood, no_boolean, no_stack_room}
use Rattle.plain.specs.State.{Frame, Plain, objects, fits_stack}
use Rattle.plain.specs.Step.{operand, literal_of, Activation, entered, unfit, activate}

-- The instruction sends a selector with `count` arguments, and looks for the method from a class on. 198 (==) and 199 (class) send nothing.
abbrev pub SendsOf : Objects → Frame → ℕ → ℕ → ℕ → ℕ → Instruction → Type 0
SendsOf o f receiver selector class count (Send l n) =
    (literal_of o f.method l ≡ some selector) × (count ≡ n) × (class ≡ class_of o receiver)
SendsOf o f receiver selector class count (SuperSend l n) =
    (literal_of o f.method l ≡ some selector) × (count ≡ n) × (class ≡ superclass_word o (home o f.method))
SendsOf o f receiver selector class count (SpecialSend k) =
    (selector ≡ special_selector o k) × (count ≡ special_count k) × (class ≡ class_of o receiver) × (is_same k ≡ false) × (is_class k ≡ false)
SendsOf o f receiver selector class count (Push p) = ⊥
SendsOf o f receiver selector class count (Store p) = ⊥
SendsOf o f receiver selector class count (PopStore p) = ⊥
SendsOf o f receiver selector class count PushSelf = ⊥
SendsOf o f receiver selector class count (PushConstant w) = ⊥
SendsOf o f receiver selector class count ReturnSelf = ⊥
SendsOf o f receiver selector class count (ReturnConstant w) = ⊥
SendsOf o f receiver selector class count ReturnTop = ⊥
SendsOf o f receiver selector class count Pop = ⊥
SendsOf o f receiver selector class count Duplicate = ⊥
SendsOf o f receiver selector class count (Jump ahead back) = ⊥
SendsOf o f receiver selector class count (JumpOn condition ahead) = ⊥
SendsOf o f receiver selector class count Unused = ⊥

-- The send that an instruction makes from a frame: the receiver lies below the arguments.
pub record Sent (o : Objects) (f : Frame) (i : Instruction) : Type 0 where
  pub receiver : ℕ
  pub selector : ℕ
  pub class : ℕ
  pub count : ℕ
  pub below : operand f count ≡ some receiver
  pub sends : SendsOf o f receiver selector class count i

abbrev pub arguments_of : Frame → ℕ → List ℕ
arguments_of f count = drop (f.depth - count) f.operands

abbrev pub IsJump : Instruction → Type 0
IsJump i = (condition : Bool) × (ahead : ℕ) × (i ≡ JumpOn condition ahead)

-- What a method that was found does on the receiver of a send with these arguments, in objects o
abbrev pub activation_in : Room → Plain → Objects → ℕ → ℕ → List ℕ → Activation
activation_in room p o m receiver arguments = activate p.registers.edition room o m receiver arguments

-- A send fails: lookup finds nothing, or a method that cannot run on the receiver, which only a super send can find (docs/DECISIONS.md, "Super sends to
-- another receiver").
abbrev pub Fails : Room → (p : Plain) (f : Frame) {i : Instruction} → Sent (objects p) f i → Type 0
Fails room p f s =
    (lookup (objects p) s.selector s.class ≡ None)
    ⊎ ((m : Pointer) × (lookup (objects p) s.selector s.class ≡ Some m)
    × (activation_in room p (objects p) m.0 s.receiver (arguments_of f s.count) ≡ unfit))

-- The objects with the array and the message of a send
abbrev pub with_message : (p : Plain) (f : Frame) {i : Instruction} → Sent (objects p) f i → Objects
with_message p f s = message_made (objects p) s.selector (arguments_of f s.count)

-- Its message is not sent (02, M-104): the edition has none, object 6 is not found, there is no room for array and message, or its method cannot run
-- on the receiver.
abbrev pub Unsent : Room → (p : Plain) (f : Frame) {i : Instruction} → Sent (objects p) f i → Type 0
Unsent room p f s =
    (has_messages p.registers.edition ≡ false)
    ⊎ ((lookup (objects p) failure_selector s.class ≡ None)
    ⊎ ((has_message_room room (objects p) (length (arguments_of f s.count)) ≡ false)
    ⊎ ((m : Pointer) × (lookup (objects p) failure_selector s.class ≡ Some m)
    × (activation_in room p (with_message p f s) m.0 s.receiver (message_word (objects p) ∷ []) ≡ unfit))))

-- A method needs a frame, in objects o, and none fits behind the top one.
abbrev pub FitsNot : Room → Plain → Objects → Frame → ℕ → ℕ → List ℕ → Type 0
FitsNot room p o f m receiver arguments =
    (activation_in room p o m receiver arguments ≡ entered) × (fits_stack room.stack (p.registers.top + frame_size o f.method) (frame_size o m) ≡ false)

-- Phase 3: a send that fails, and whose message is not sent. Phase 4: a jump on a boolean whose operand is neither true nor false. Phase 5: a send that found a
-- method which needs a frame, and none fits behind the top one; or one that failed, whose message found such a method.
abbrev pub Because : Room → Plain → Frame → Instruction → Cause → Type 0
Because room p f i not_understood = (s : Sent (objects p) f i) × Fails room p f s × Unsent room p f s
Because room p f i no_boolean = IsJump i × (w : ℕ) × (operand f 0 ≡ some w) × (w ≢ true_word) × (w ≢ false_word)
Because room p f i no_stack_room =
    (s : Sent (objects p) f i)
    × (((m : Pointer) × (lookup (objects p) s.selector s.class ≡ Some m) × FitsNot room p (objects p) f m.0 s.receiver (arguments_of f s.count))
    ⊎ (Fails room p f s × (has_messages p.registers.edition ≡ true) × (has_message_room room (objects p) (length (arguments_of f s.count)) ≡ true)
    × (m : Pointer) × (lookup (objects p) failure_selector s.class ≡ Some m)
    × FitsNot room p (with_message p f s) f m.0 s.receiver (message_word (objects p) ∷ [])))

-- The state stands before a bytecode that cannot be made, for this cause.
abbrev pub HaltsFor : Room → Plain → Cause → List Frame → Type 0
HaltsFor room p cause [] = ⊥
HaltsFor room p cause (f ∷ rest) =
    Because room p f (decode_at (code_words (objects p) f.method) (code_size (objects p) f.method) f.position) cause
