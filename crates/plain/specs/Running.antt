-- A handler that runs, in the lent buffers: what the functions of the interpreter ask of the buffers, and what they say of them.
use Rattle.std.specs.Prelude.{ℕ, suc, ◌+◌, ◌*◌, ◌-◌, ◌≤◌, ◌≡◌, Bool, true, List, T, length, get_or, take, drop}
use Rattle.bytecode.specs.Code.{next_at, decode_at}
use Rattle.bytecode.specs.declared.Instruction.{Instruction}
use Rattle.model.specs.Limits.{entry_words, class_kind}
use Rattle.model.specs.Word.{is_valid}
use Rattle.model.specs.Objects.{objects_at, class_of, is_nil_or}
use Rattle.model.specs.Method.{home, code_words, code_size}
use Rattle.model.specs.Depth.{note_at}
use Rattle.model.specs.Lookup.{found, lookup, in_chain}
use Rattle.model.specs.Rules.{Right, takes_count, method_table}
use Rattle.model.specs.Image.{Room}
use Rattle.plain.specs.Registers.{Registers, running, finished}
use Rattle.plain.specs.State.{Frame, Plain}
use Rattle.plain.specs.Step.{Looked, no_lookup, read_in, Stepped, leads_to, after_lookup, failed, popped, step}
use Rattle.plain.specs.Flat.{frame_sender, frame_position, frame_depth, frame_method, operands_start, frame_at, unless_bottom, frames_from}
use Rattle.plain.specs.Check.{frames_fine}
use Rattle.plain.specs.Cache.{filled}
use Rattle.plain.specs.FlatCalls.{at_front, laid}

-- Right objects in some edition, and right frames from `top` down: what check says of a state in phase 1, but for the cache and the start words
pub record Runs (n b top : ℕ) (contents bodies stack : List ℕ) : Type 0 where
  pub edition : ℕ
  pub right : Right edition (objects_at n b contents bodies)
  pub frames : T (frames_fine edition (objects_at n b contents bodies) (length stack) true top (frames_from (suc top) (objects_at n b contents bodies) stack top))

-- The registers and the plain state of such buffers. No bytecode looks at the start words, so they may be any.
abbrev pub running_with : ℕ → ℕ → ℕ → ℕ → ℕ → ℕ → Registers
running_with e receiver selector n b top =
    record { n = n; b = b; start_receiver = receiver; start_selector = selector; phase = running; top = top; value = 0; edition = e }

abbrev pub finished_with : ℕ → ℕ → ℕ → ℕ → ℕ → ℕ → Registers
finished_with e receiver selector n b w =
    record { n = n; b = b; start_receiver = receiver; start_selector = selector; phase = finished; top = 0; value = w; edition = e }

abbrev pub running_at : ℕ → ℕ → ℕ → ℕ → ℕ → ℕ → List ℕ → List ℕ → List ℕ → Plain
running_at e receiver selector n b top contents bodies stack =
    record {
      registers = running_with e receiver selector n b top;
      contents = take (entry_words * n) contents;
      bodies = take b bodies;
      frames = frames_from (suc top) (objects_at n b contents bodies) stack top;
    }

-- The top frame, and the frames below it
abbrev pub top_frame : ℕ → ℕ → ℕ → List ℕ → List ℕ → List ℕ → Frame
top_frame n b top contents bodies stack = frame_at (objects_at n b contents bodies) stack top

abbrev pub rest_frames : ℕ → ℕ → ℕ → List ℕ → List ℕ → List ℕ → List Frame
rest_frames n b top contents bodies stack =
    unless_bottom top (frames_from top (objects_at n b contents bodies) stack (frame_sender stack top))

-- The lengths of the buffers
abbrev pub room_at : List ℕ → List ℕ → List ℕ → List ℕ → Room
room_at contents bodies stack cache = record { contents = length contents; bodies = length bodies; stack = length stack; cache = length cache }

-- The instruction that is about to be done, and the position of the one behind it
pub record At (n b top : ℕ) (contents bodies stack : List ℕ) (position : ℕ) (i : Instruction) : Type 0 where
  pub runs : Runs n b top contents bodies stack
  pub behind : position ≡ next_at (code_words (objects_at n b contents bodies) (frame_method stack top)) (frame_position stack top)
  pub decoded : i ≡ decode_at (code_words (objects_at n b contents bodies) (frame_method stack top)) (code_size (objects_at n b contents bodies) (frame_method stack top)) (frame_position stack top)

-- A bytecode that leaves N, B, the entries and the base of the top frame: the bodies and the stack after it
pub record Moves (room : Room) (p : Plain) (bodies stack bodies' stack' : List ℕ) : Type 0 where
  pub state : Plain
  pub steps : step room p ≡ leads_to state no_lookup
  pub registers : state.registers ≡ p.registers
  pub contents : state.contents ≡ p.contents
  pub words : bodies' ≡ at_front state.bodies bodies
  pub frames : stack' ≡ laid stack p.registers.top state.frames

abbrev pub Moved : ℕ → ℕ → ℕ → List ℕ → List ℕ → List ℕ → List ℕ → List ℕ → Type 0
Moved n b top contents bodies stack bodies' stack' =
    (e receiver selector : ℕ) (room : Room) → Moves room (running_at e receiver selector n b top contents bodies stack) bodies stack bodies' stack'

-- Any bytecode that was made: the dictionaries that its lookup read, the registers and the buffers after it
pub record Made (x : Stepped) (read : ℕ) (r : Registers) (contents bodies stack cache contents' bodies' stack' cache' : List ℕ) : Type 0 where
  pub state : Plain
  pub lookup : Looked
  pub steps : x ≡ leads_to state lookup
  pub reads : read_in lookup ≡ read
  pub registers : state.registers ≡ r
  pub entries : contents' ≡ at_front state.contents contents
  pub words : bodies' ≡ at_front state.bodies bodies
  pub frames : stack' ≡ laid stack state.registers.top state.frames
  pub cached : cache' ≡ filled cache lookup

-- One that was not: nothing changes.
pub record Stays (contents bodies stack cache contents' bodies' stack' cache' : List ℕ) : Type 0 where
  pub entries : contents' ≡ contents
  pub words : bodies' ≡ bodies
  pub frames : stack' ≡ stack
  pub cached : cache' ≡ cache

-- The receiver of a send with `count` arguments, a word of the stack
abbrev pub sent_receiver : ℕ → ℕ → ℕ → List ℕ → List ℕ → List ℕ → ℕ → ℕ
sent_receiver n b top contents bodies stack count =
    get_or stack (operands_start (objects_at n b contents bodies) (frame_method stack top) top + (frame_depth stack top - suc count)) 0

-- and its arguments, the operands above it
abbrev pub sent_arguments : ℕ → ℕ → ℕ → List ℕ → List ℕ → List ℕ → ℕ → List ℕ
sent_arguments n b top contents bodies stack count = drop ((top_frame n b top contents bodies stack).depth - count) (top_frame n b top contents bodies stack).operands

-- A send that is about to be made: its selector, its arguments' number, the class where the search starts, the position behind it. Where
-- it is `sure`, a method that is found can run on the receiver (docs/DECISIONS.md, "Super sends to another receiver").
pub record Sending (n b top : ℕ) (contents bodies stack : List ℕ) (selector count class position : ℕ) (sure : Bool) : Type 0 where
  pub runs : Runs n b top contents bodies stack
  pub needs : suc count ≤ frame_depth stack top
  pub noted : note_at (method_table runs.edition (objects_at n b contents bodies) (frame_method stack top)) position ≡ suc (suc (frame_depth stack top - suc count))
  pub named : 1 ≤ selector
  pub valid : T (is_valid n selector)
  pub starts : T (is_nil_or (objects_at n b contents bodies) class_kind class)
  pub takes : T (takes_count (objects_at n b contents bodies) selector count)
  pub homes : sure ≡ true → (s m : ℕ) → lookup (objects_at n b contents bodies) s class ≡ found m
      → T (in_chain (objects_at n b contents bodies) (home (objects_at n b contents bodies) m) (class_of (objects_at n b contents bodies) (sent_receiver n b top contents bodies stack count)))

-- and the step that it is
abbrev pub send_step : Room → ℕ → ℕ → ℕ → ℕ → ℕ → ℕ → List ℕ → List ℕ → List ℕ → ℕ → ℕ → ℕ → ℕ → Stepped
send_step room e receiver selector n b top contents bodies stack s count class position =
    after_lookup room (running_at e receiver selector n b top contents bodies stack)
    (popped (top_frame n b top contents bodies stack) position (suc count)) (rest_frames n b top contents bodies stack) s class
    (sent_receiver n b top contents bodies stack count) (sent_arguments n b top contents bodies stack count)
    (lookup (objects_at n b contents bodies) s class)

-- or, where it fails, its message
abbrev pub failed_step : Room → ℕ → ℕ → ℕ → ℕ → ℕ → ℕ → List ℕ → List ℕ → List ℕ → ℕ → ℕ → ℕ → ℕ → Stepped
failed_step room e receiver selector n b top contents bodies stack s count class position =
    failed room (running_at e receiver selector n b top contents bodies stack)
    (popped (top_frame n b top contents bodies stack) position (suc count)) (rest_frames n b top contents bodies stack) s class
    (sent_receiver n b top contents bodies stack count) (sent_arguments n b top contents bodies stack count)
