-- What a bytecode is to the run loop.
use Rattle.std.specs.Prelude.{ℕ, suc, ◌+◌, ◌-◌, ◌≤◌, ◌<◌, ◌≡◌, Bool, true, false, List, T, length, get_or, set, Option}
use Rattle.bytecode.specs.declared.Place.{Place}
use Rattle.bytecode.specs.declared.Instruction.{Instruction}
use Rattle.bytecode.specs.declared.Instruction.TheVariants.{Store, PopStore, SpecialSend}
use Rattle.model.specs.Objects.{objects_at, class_of}
use Rattle.model.specs.Depth.{note_at}
use Rattle.model.specs.Rules.{send_fine, method_table}
use Rattle.model.specs.Image.{Room}
use Rattle.model.specs.Arithmetic.{arithmetic}
use Rattle.model.specs.Numbers.{phase_of as halt_phase}
use Rattle.plain.specs.Registers.{Cause, phase_of}
use Rattle.plain.specs.Step.{Stepped, halts, returned, sends, step, tried_primitive}
use Rattle.plain.specs.Flat.{frame_depth, frame_method, operands_start}
use Rattle.plain.specs.Running.{At, Moved, Sending, send_step, running_at, top_frame, rest_frames}
use Rattle.readers.specs.declared.Memory.{Memory}
use Rattle.frames.specs.declared.Active.{Active}
use Rattle.frames.specs.Active.{written, moved_on, Onward, IsActive}
use Rattle.steps.specs.declared.Event.{Event}
use Rattle.steps.specs.declared.Event.TheVariants.{Next, Send, Return, Halt}

-- A running frame about to do an instruction, in the numbers that the laws speak of: its method, its first operand, how many there are, and
-- the position behind the instruction
pub record Here : Type 0 where
  pub method : ℕ
  pub operands : ℕ
  pub depth : ℕ
  pub next : ℕ

pub record HereAt (n b top : ℕ) (contents bodies stack : List ℕ) (h : Here) (i : Instruction) : Type 0 where
  pub at : At n b top contents bodies stack h.next i
  pub is_method : h.method ≡ frame_method stack top
  pub is_operands : h.operands ≡ operands_start (objects_at n b contents bodies) (frame_method stack top) top
  pub is_depth : h.depth ≡ frame_depth stack top

-- The frame that the loop holds and its instruction, with the position behind it
pub record Doing (n b : ℕ) (contents bodies stack : List ℕ) (a : Active) (next : ℕ) (i : Instruction) : Type 0 where
  pub active : IsActive n b contents bodies stack a
  pub at : At n b a.base.0 contents bodies (written a stack) next i

-- A push: what it asks, and what it does
abbrev pub Pushing : List ℕ → Active → Type 0
Pushing stack a = (a.end.0 < length stack) × (a.end.0 ≤ 65536)

pub record Pushed (stack : List ℕ) (a : Active) (next w : ℕ) (stack' : List ℕ) (r : Event) : Type 0 where
  pub event : r ≡ Next (record { 0 = next }) (record { 0 = a.end.0 + 1 })
  pub words : stack' ≡ set stack a.end.0 w

-- The step that buffers are about to make
abbrev pub step_at : Room → ℕ → ℕ → ℕ → ℕ → ℕ → ℕ → List ℕ → List ℕ → List ℕ → Stepped
step_at room edition receiver selector n b top contents bodies stack = step room (running_at edition receiver selector n b top contents bodies stack)

-- The stack in which a word stands in the place of the `taken` uppermost operands and the frame goes on
abbrev pub answered : List ℕ → ℕ → Here → ℕ → ℕ → List ℕ
answered stack top h taken w = set (set (set stack (h.operands + (h.depth - taken)) w) (top + 1) h.next) (top + 2) (h.depth - taken + 1)

-- A store, with or without a pop, and the operands that it leaves
abbrev pub storing : Bool → Place → Instruction
storing true p = PopStore p
storing false p = Store p

abbrev pub left_by : Bool → ℕ → ℕ
left_by true depth = depth - 1
left_by false depth = depth

pub record StoringAt (n b top : ℕ) (contents bodies stack : List ℕ) (h : Here) (p : Place) (left : ℕ) : Type 0 where
  pub pop : Bool
  pub here : HereAt n b top contents bodies stack h (storing pop p)
  pub after : left ≡ left_by pop h.depth

-- the same of the frame that the loop holds, with the end of its operands after it
pub record Storing (n b : ℕ) (contents bodies stack : List ℕ) (a : Active) (next : ℕ) (p : Place) (end : ℕ) : Type 0 where
  pub pop : Bool
  pub doing : Doing n b contents bodies stack a next (storing pop p)
  pub after : end ≡ left_by pop a.end.0

-- A send whose search starts at the receiver's class
pub record SendsAt (n b top : ℕ) (contents bodies stack : List ℕ) (h : Here) (s count : ℕ) : Type 0 where
  pub instruction : Instruction
  pub here : HereAt n b top contents bodies stack h instruction
  pub needs : suc count ≤ frame_depth stack top
  pub noted : note_at (method_table here.at.runs.edition (objects_at n b contents bodies) (frame_method stack top)) h.next ≡ suc (suc (frame_depth stack top - suc count))
  pub fine : T (send_fine (objects_at n b contents bodies) s count)
  pub steps : (edition receiver selector : ℕ) (room : Room)
      → step_at room edition receiver selector n b top contents bodies stack
      ≡ sends room (running_at edition receiver selector n b top contents bodies stack)
      (top_frame n b top contents bodies stack) (rest_frames n b top contents bodies stack) h.next (class_of (objects_at n b contents bodies)) s count

-- 176 plus k, and what its primitive gives for the two uppermost operands
pub record Computing (n b : ℕ) (contents bodies stack : List ℕ) (a : Active) (next k : ℕ) (x : Option ℕ) : Type 0 where
  pub doing : Doing n b contents bodies stack a next (SpecialSend k)
  pub small : k < 16
  pub computed : x ≡ arithmetic (tried_primitive k) (get_or stack (a.end.0 - 2) 0) (get_or stack (a.end.0 - 1) 0)

-- The numbers of the frame that the loop holds
abbrev pub here_of : List ℕ → Active → ℕ → Here
here_of stack a next = record { method = frame_method stack a.base.0; operands = a.operands.0; depth = a.end.0 - a.operands.0; next = next }

pub record Sends (n b : ℕ) (contents bodies stack : List ℕ) (a : Active) (next s count : ℕ) : Type 0 where
  pub active : IsActive n b contents bodies stack a
  pub sends : SendsAt n b a.base.0 contents bodies (written a stack) (here_of stack a next) s count

-- The step is another one,
abbrev pub StepIs : (n b top : ℕ) (contents bodies stack : List ℕ) → (Room → ℕ → ℕ → ℕ → Stepped) → Type 0
StepIs n b top contents bodies stack x =
    (edition receiver selector : ℕ) (room : Room) → step_at room edition receiver selector n b top contents bodies stack ≡ x room edition receiver selector

-- and nothing is written.
pub record Becomes (n b : ℕ) (contents : List ℕ) (a : Active) (bodies stack bodies' stack' : List ℕ) (x : Room → ℕ → ℕ → ℕ → Stepped) : Type 0 where
  pub words : bodies' ≡ bodies
  pub frames : stack' ≡ stack
  pub steps : StepIs n b a.base.0 contents bodies (written a stack) x

-- The same of a halt, with the phase that says why
pub record Halting (n b : ℕ) (contents : List ℕ) (a : Active) (bodies stack bodies' stack' : List ℕ) (k : ℕ) : Type 0 where
  pub cause : Cause
  pub phase : k ≡ phase_of cause
  pub becomes : Becomes n b contents a bodies stack bodies' stack' (λ room edition receiver selector. halts cause)

-- What an event says: the bytecode is done, or it is a send that is to be made, or a return of a word, or it halts.
abbrev pub Says : ℕ → ℕ → List ℕ → Active → List ℕ → List ℕ → List ℕ → List ℕ → Event → Type 0
Says n b contents a bodies stack bodies' stack' (Next q e) =
    Moved n b a.base.0 contents bodies (written a stack) bodies' (written (moved_on a q e) stack')
    × Onward a stack stack' e.0
Says n b contents a bodies stack bodies' stack' (Send m) =
    Sending n b a.base.0 contents bodies (written a stack) m.selector m.count m.class.0 m.next.0 m.sure
    × Becomes n b contents a bodies stack bodies' stack'
    (λ room edition receiver selector. send_step room edition receiver selector n b a.base.0 contents bodies (written a stack) m.selector m.count m.class.0
    m.next.0)
Says n b contents a bodies stack bodies' stack' (Return w) =
    Becomes n b contents a bodies stack bodies' stack'
    (λ room edition receiver selector.
    returned (running_at edition receiver selector n b a.base.0 contents bodies (written a stack))
    (top_frame n b a.base.0 contents bodies (written a stack)) (rest_frames n b a.base.0 contents bodies (written a stack)) w)
Says n b contents a bodies stack bodies' stack' (Halt h) = Halting n b contents a bodies stack bodies' stack' (halt_phase h)

-- of a step that leaves the bodies as they are
abbrev pub SaysIn : Memory → Active → List ℕ → List ℕ → Event → Type 0
SaysIn m a stack stack' e = Says m.n m.b m.contents.now a m.bodies.now stack m.bodies.now stack' e
