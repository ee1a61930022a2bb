-- The flat state: registers and the four lent buffers; and the plain state that it stands for (01, "Plain machine": what is compared).
use Rattle.std.specs.Prelude.{ℕ, zero, suc, ◌+◌, ◌*◌, Bool, true, false, List, [], ◌∷◌, length, get_or, take}
use Rattle.model.specs.Limits.{entry_words, frame_header_words}
use Rattle.model.specs.Objects.{Objects, objects_at, part}
use Rattle.model.specs.Method.{temporary_count}
use Rattle.model.specs.Image.{Room}
use Rattle.plain.specs.Registers.{Registers, has_frames}
use Rattle.plain.specs.State.{Frame, Plain}

pub record Flat : Type 0 where
  pub registers : Registers
  pub contents : List ℕ
  pub bodies : List ℕ
  pub stack : List ℕ
  pub cache : List ℕ

abbrev pub flat : Registers → List ℕ → List ℕ → List ℕ → List ℕ → Flat
flat r contents bodies stack cache = record { registers = r; contents = contents; bodies = bodies; stack = stack; cache = cache }

abbrev pub room_of : Flat → Room
room_of s = record { contents = length s.contents; bodies = length s.bodies; stack = length s.stack; cache = length s.cache }

-- The 4N and B words
abbrev pub flat_objects : Flat → Objects
flat_objects s = objects_at s.registers.n s.registers.b s.contents s.bodies

-- The words of the frame at a base
abbrev pub frame_sender : List ℕ → ℕ → ℕ
frame_sender stack base = get_or stack base 0

abbrev pub frame_position : List ℕ → ℕ → ℕ
frame_position stack base = get_or stack (base + 1) 0

abbrev pub frame_depth : List ℕ → ℕ → ℕ
frame_depth stack base = get_or stack (base + 2) 0

abbrev pub frame_method : List ℕ → ℕ → ℕ
frame_method stack base = get_or stack (base + 3) 0

abbrev pub frame_mark : List ℕ → ℕ → ℕ
frame_mark stack base = get_or stack (base + 4) 0

abbrev pub frame_receiver : List ℕ → ℕ → ℕ
frame_receiver stack base = get_or stack (base + 5) 0

-- Where its temporaries start, and its operands
abbrev pub temporaries_start : ℕ → ℕ
temporaries_start base = base + frame_header_words

abbrev pub operands_start : Objects → ℕ → ℕ → ℕ
operands_start o m base = temporaries_start base + temporary_count o m

unfoldable pub frame_at : Objects → List ℕ → ℕ → Frame
frame_at o stack base =
    record {
      sender = frame_sender stack base;
      position = frame_position stack base;
      depth = frame_depth stack base;
      method = frame_method stack base;
      mark = frame_mark stack base;
      receiver = frame_receiver stack base;
      temporaries = part stack (temporaries_start base) (temporary_count o (frame_method stack base));
      operands = part stack (operands_start o (frame_method stack base) base) (frame_depth stack base);
    }

-- The frames from the one at a base down to the bottom one, which is the one at base 0. Where the senders do not lead down to it, as check
-- asks, there are no more than `left`.
abbrev pub unless_bottom : ℕ → List Frame → List Frame
unless_bottom zero fs = []
unless_bottom (suc base) fs = fs

unfoldable pub frames_from : ℕ → Objects → List ℕ → ℕ → List Frame
frames_from zero o stack base = []
frames_from (suc left) o stack base =
    let rest : List Frame = frames_from left o stack (frame_sender stack base) in
    frame_at o stack base ∷ unless_bottom base rest

abbrev pub if_frames : Bool → List Frame → List Frame
if_frames true fs = fs
if_frames false fs = []

-- Each frame but the bottom one lies above its sender, so top + 1 frames are enough.
unfoldable pub plain_of : Flat → Plain
plain_of s =
    let frames : List Frame = frames_from (suc s.registers.top) (flat_objects s) s.stack s.registers.top in
    record {
      registers = s.registers;
      contents = take (entry_words * s.registers.n) s.contents;
      bodies = take s.registers.b s.bodies;
      frames = if_frames (has_frames s.registers.phase) frames;
    }
