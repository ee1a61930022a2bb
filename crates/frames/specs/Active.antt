-- The running frame as the run loop holds it, and what the stack stands for meanwhile.
use Rattle.std.specs.Prelude.{ℕ, ◌+◌, ◌-◌, ◌≤◌, ◌<◌, ◌≡◌, List, length, set}
use Rattle.model.specs.Word.{object_number}
use Rattle.model.specs.Objects.{Objects, objects_at, start, body_words}
use Rattle.model.specs.Limits.{method_kind}
use Rattle.model.specs.Method.{temporary_count, literal_count, frame_size}
use Rattle.model.specs.declared.CodePosition.{CodePosition}
use Rattle.model.specs.declared.StackPosition.{StackPosition}
use Rattle.plain.specs.Flat.{frame_depth, frame_position, frame_method, operands_start}
use Rattle.plain.specs.Running.{Runs}
use Rattle.objects.specs.Lent.{Holds}
use Rattle.frames.specs.declared.Active.{Active}

-- The stack with the frame's position and depth in its words: what the stack stands for while the loop holds the frame
abbrev pub written : Active → List ℕ → List ℕ
written a stack = set (set stack (a.base.0 + 1) a.position.0) (a.base.0 + 2) (a.end.0 - a.operands.0)

-- Where its code stands and its operands start
pub record Stands (n b : ℕ) (contents bodies stack : List ℕ) (a : Active) : Type 0 where
  pub code : a.code ≡ start (objects_at n b contents bodies) (object_number (frame_method stack a.base.0)) +
      (2 + literal_count (objects_at n b contents bodies) (frame_method stack a.base.0))
  pub limit : a.limit ≡ start (objects_at n b contents bodies) (object_number (frame_method stack a.base.0)) +
      body_words (objects_at n b contents bodies) (object_number (frame_method stack a.base.0))
  pub operands : a.operands.0 ≡ operands_start (objects_at n b contents bodies) (frame_method stack a.base.0) a.base.0
  pub above : a.operands.0 ≤ a.end.0

pub record IsActive (n b : ℕ) (contents bodies stack : List ℕ) (a : Active) : Type 0 where
  pub runs : Runs n b a.base.0 contents bodies (written a stack)
  pub stands : Stands n b contents bodies stack a

-- A frame that can be taken from its words, and what is taken
pub record Holdable (n b top : ℕ) (contents bodies stack : List ℕ) : Type 0 where
  pub method : Holds method_kind n b contents bodies (frame_method stack top)
  pub low : top + 18 ≤ length stack
  pub small : top + 18 ≤ 65536
  pub few : temporary_count (objects_at n b contents bodies) (frame_method stack top) + frame_depth stack top ≤ 32
  pub position : frame_position stack top < 65536

pub record Held (n b top : ℕ) (contents bodies stack : List ℕ) (a : Active) : Type 0 where
  pub base : a.base.0 ≡ top
  pub same : written a stack ≡ stack
  pub stands : Stands n b contents bodies stack a

-- The frame of a method before its first bytecode
pub record Fresh (o : Objects) (m : ℕ) (a : Active) : Type 0 where
  pub code : a.code ≡ start o (object_number m) + (2 + literal_count o m)
  pub limit : a.limit ≡ start o (object_number m) + body_words o (object_number m)
  pub operands : a.operands.0 ≡ operands_start o m a.base.0
  pub position : a.position.0 ≡ 0
  pub none : a.end.0 ≡ a.operands.0

-- What writing its words asks
abbrev pub Leaving : List ℕ → Active → Type 0
Leaving stack a = (a.base.0 + 2 < length stack) × (a.position.0 < 65536) × (a.operands.0 ≤ a.end.0) × (a.end.0 - a.operands.0 < 65536)

-- The frame at another position, with its operands up to another end
abbrev pub moved_on : Active → CodePosition → StackPosition → Active
moved_on a q e = record { base = a.base; code = a.code; limit = a.limit; operands = a.operands; position = q; end = e }

-- The stack afterwards still holds the frame's method, and the operands end at or above their start.
pub record Onward (a : Active) (stack stack' : List ℕ) (end : ℕ) : Type 0 where
  pub method : frame_method stack' a.base.0 ≡ frame_method stack a.base.0
  pub above : a.operands.0 ≤ end

-- Where the frame at `top` ends
abbrev pub frame_end : (n b top : ℕ) → List ℕ → List ℕ → List ℕ → ℕ
frame_end n b top contents bodies stack = top + frame_size (objects_at n b contents bodies) (frame_method stack top)
