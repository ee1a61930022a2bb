-- What a whole bytecode leads to.
use Rattle.std.specs.Prelude.{ℕ, suc, ◌+◌, ◌≤◌, ◌≡◌, List, set}
use Rattle.model.specs.Numbers.{phase_of}
use Rattle.model.specs.Objects.{objects_at}
use Rattle.model.specs.Method.{temporary_count}
use Rattle.plain.specs.Flat.{frame_sender, frame_depth, frame_method}
use Rattle.plain.specs.Step.{Stepped, step}
use Rattle.plain.specs.Running.{running_with, running_at, room_at, finished_with, Made, Sending, failed_step}
use Rattle.frames.specs.declared.Active.{Active}
use Rattle.frames.specs.Active.{written, moved_on, Stands, Onward, Held, frame_end}
use Rattle.sends.specs.Sends.{Halts, Fails}
use Rattle.interpreter.specs.declared.Advanced.{Advanced}
use Rattle.interpreter.specs.declared.Advanced.TheVariants.{Next, Answered, Top, Below, Finished, Failed, Halted}

-- The step that the buffers are about to make
abbrev pub step_of : ℕ → ℕ → ℕ → ℕ → ℕ → Active → List ℕ → List ℕ → List ℕ → List ℕ → Stepped
step_of edition receiver selector n b a contents bodies stack cache =
    step (room_at contents bodies (written a stack) cache) (running_at edition receiver selector n b a.base.0 contents bodies (written a stack))

-- The stack with a word pushed on the frame at `sender`
abbrev pub pushed_on : ℕ → ℕ → ℕ → List ℕ → List ℕ → List ℕ → ℕ → List ℕ
pushed_on n b sender contents bodies stack w =
    set (set stack (sender + (6 + (temporary_count (objects_at n b contents bodies) (frame_method stack sender) + frame_depth stack sender))) w) (sender + 2) (suc (frame_depth stack sender))

-- The sender's frame, taken with a word pushed on it
pub record Returned (n b top : ℕ) (contents bodies stack stack' : List ℕ) (w : ℕ) (a : Active) : Type 0 where
  pub base : a.base.0 ≡ frame_sender stack top
  pub words : written a stack' ≡ pushed_on n b a.base.0 contents bodies stack w
  pub stands : Stands n b contents bodies stack' a

-- What an answer says of the frame that the loop holds, where the stack stands for `written a stack`: where the frame goes on, it is still
-- held; another one is held then in its place; else its words are written.
abbrev pub AdvancedIs : ℕ → ℕ → ℕ → ℕ → ℕ → Active → List ℕ → List ℕ → List ℕ → List ℕ → List ℕ → List ℕ → List ℕ → List ℕ → Advanced → Type 0
AdvancedIs edition receiver selector n b a contents bodies stack cache contents' bodies' stack' cache' (Next q e) =
    Made (step_of edition receiver selector n b a contents bodies stack cache) 0 (running_with edition receiver selector n b a.base.0)
    contents bodies (written a stack) cache contents' bodies' (written (moved_on a q e) stack') cache'
    × Onward a stack stack' e.0
AdvancedIs edition receiver selector n b a contents bodies stack cache contents' bodies' stack' cache' (Answered n' b' q e read) =
    Made (step_of edition receiver selector n b a contents bodies stack cache) read (running_with edition receiver selector n' b' a.base.0)
    contents bodies (written a stack) cache contents' bodies' (written (moved_on a q e) stack') cache'
    × Onward a stack stack' e.0
AdvancedIs edition receiver selector n b a contents bodies stack cache contents' bodies' stack' cache' (Top f end read) =
    Made (step_of edition receiver selector n b a contents bodies stack cache) read (running_with edition receiver selector n b f.base.0)
    contents bodies (written a stack) cache contents' bodies' stack' cache'
    × Held n b f.base.0 contents' bodies' stack' f
    × (end ≡ frame_end n b f.base.0 contents' bodies' stack')
AdvancedIs edition receiver selector n b a contents bodies stack cache contents' bodies' stack' cache' (Below f) =
    Made (step_of edition receiver selector n b a contents bodies stack cache) 0 (running_with edition receiver selector n b f.base.0)
    contents bodies (written a stack) cache contents' bodies' (written f stack') cache'
    × Stands n b contents' bodies' stack' f
    × (frame_end n b f.base.0 contents' bodies' (written f stack') ≤ a.base.0)
AdvancedIs edition receiver selector n b a contents bodies stack cache contents' bodies' stack' cache' (Finished w) =
    Made (step_of edition receiver selector n b a contents bodies stack cache) 0 (finished_with edition receiver selector n b w) contents bodies (written a stack) cache contents' bodies' stack' cache'
AdvancedIs edition receiver selector n b a contents bodies stack cache contents' bodies' stack' cache' (Halted h) =
    Halts (step_of edition receiver selector n b a contents bodies stack cache) (phase_of h) contents bodies (written a stack) cache contents' bodies' stack' cache'
AdvancedIs edition receiver selector n b a contents bodies stack cache contents' bodies' stack' cache' (Failed m) =
    Fails (step_of edition receiver selector n b a contents bodies stack cache)
    (failed_step (room_at contents bodies (written a stack) cache) edition receiver selector n b a.base.0 contents bodies (written a stack) m.selector m.count m.class.0 m.next.0)
    contents bodies (written a stack) cache contents' bodies' stack' cache'
    × Sending n b a.base.0 contents bodies (written a stack) m.selector m.count m.class.0 m.next.0 m.sure
