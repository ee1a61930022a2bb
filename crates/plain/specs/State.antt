-- The plain machine's state: registers, objects, frames (01, "Plain machine", first two paragraphs).
use Rattle.std.specs.Prelude.{ℕ, ◌+◌, ◌-◌, Bool, ◌&&◌, List, [], ◌++◌, leb, length, replicate}
use Rattle.bytecode.specs.Constant.{nil_word}
use Rattle.model.specs.Limits.{most_stack_words}
use Rattle.model.specs.Objects.{Objects}
use Rattle.model.specs.Method.{temporary_count}
use Rattle.plain.specs.Registers.{Registers, with_phase, with_sizes}

-- Six words, temporaries and operands. Operands stand lowest first. The depth is a word of its own: it is their number in every
-- state that check accepts, and is compared as it stands. The fifth word, `mark`, is 0.
pub record Frame : Type 0 where
  pub sender : ℕ
  pub position : ℕ
  pub depth : ℕ
  pub method : ℕ
  pub mark : ℕ
  pub receiver : ℕ
  pub temporaries : List ℕ
  pub operands : List ℕ

abbrev pub no_mark : ℕ
no_mark = 0

-- The frames stand top first. `contents` are the 4N words and `bodies` the B words.
pub record Plain : Type 0 where
  pub registers : Registers
  pub contents : List ℕ
  pub bodies : List ℕ
  pub frames : List Frame

abbrev pub objects : Plain → Objects
objects s = record { n = s.registers.n; b = s.registers.b; contents = s.contents; bodies = s.bodies }

-- The state with other objects
abbrev pub with_objects : Plain → Objects → Plain
with_objects s o =
    record { registers = with_sizes s.registers o.n o.b; contents = o.contents; bodies = o.bodies; frames = s.frames }

-- The state with other frames, and another phase, top and value
abbrev pub with_frames : Plain → List Frame → ℕ → ℕ → ℕ → Plain
with_frames s fs p t v =
    record { registers = with_phase s.registers p t v; contents = s.contents; bodies = s.bodies; frames = fs }

-- The frame at another position with other operands
abbrev pub moved_to : Frame → ℕ → List ℕ → Frame
moved_to f p operands =
    record { sender = f.sender; position = p; depth = length operands; method = f.method; mark = f.mark; receiver = f.receiver; temporaries = f.temporaries; operands = operands }

abbrev pub with_temporaries : Frame → List ℕ → Frame
with_temporaries f ts =
    record { sender = f.sender; position = f.position; depth = f.depth; method = f.method; mark = f.mark; receiver = f.receiver; temporaries = ts; operands = f.operands }

-- A new frame: the arguments and then nil in its temporaries, no operands
unfoldable pub new_frame : Objects → ℕ → ℕ → ℕ → List ℕ → Frame
new_frame o sender m receiver arguments =
    record {
      sender = sender;
      position = 0;
      depth = 0;
      method = m;
      mark = no_mark;
      receiver = receiver;
      temporaries = arguments ++ replicate (temporary_count o m - length arguments) nil_word;
      operands = [];
    }

-- A frame of so many words fits at a base: its last word is in the stack, at most at 65,535.
unfoldable pub fits_stack : ℕ → ℕ → ℕ → Bool
fits_stack stack base words = leb (base + words) stack && leb (base + words) most_stack_words
