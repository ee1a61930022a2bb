-- What the functions of a send ask of the buffers, and what their answers say.
use Rattle.std.specs.Prelude.{ℕ, ◌+◌, ◌-◌, ◌≤◌, ◌<◌, ◌≡◌, Bool, true, false, List, T, length}
use Rattle.model.specs.Limits.{method_kind}
use Rattle.model.specs.Word.{is_valid}
use Rattle.model.specs.Objects.{Objects, objects_at, class_of, is_kind}
use Rattle.model.specs.Method.{home, temporary_count, frame_size}
use Rattle.model.specs.Lookup.{in_chain}
use Rattle.model.specs.Rules.{IsRight}
use Rattle.plain.specs.Registers.{Cause, no_stack_room, phase_of}
use Rattle.plain.specs.State.{fits_stack}
use Rattle.plain.specs.Step.{Stepped, halts}
use Rattle.plain.specs.Running.{running_with, Made, Stays, room_at, send_step, failed_step}
use Rattle.frames.specs.declared.Active.{Active}
use Rattle.frames.specs.declared.Message.{Message}
use Rattle.frames.specs.Active.{written, moved_on, Onward, Fresh, Held, frame_end}
use Rattle.sends.specs.declared.Base.{Base}
use Rattle.sends.specs.declared.Base.TheVariants as base
use Rattle.sends.specs.declared.Sent.{Sent}
use Rattle.sends.specs.declared.Sent.TheVariants.{Answered, Entered, Full, Failed}

-- A method that may get a frame: where it is `sure`, the receiver is one that the method can run on.
pub record Guarded (n b : ℕ) (contents bodies : List ℕ) (m receiver : ℕ) (sure : Bool) : Type 0 where
  pub right : IsRight (objects_at n b contents bodies)
  pub method : T (is_kind (objects_at n b contents bodies) method_kind m)
  pub valid : T (is_valid n receiver)
  pub homes : sure ≡ true → T (in_chain (objects_at n b contents bodies) (home (objects_at n b contents bodies) m) (class_of (objects_at n b contents bodies) receiver))

-- A frame of it above that of the running method
pub record Framing (n b top : ℕ) (contents bodies : List ℕ) (running m receiver : ℕ) (sure : Bool) : Type 0 where
  pub guarded : Guarded n b contents bodies m receiver sure
  pub below : T (is_kind (objects_at n b contents bodies) method_kind running)
  pub low : top < 65536

-- Where it stands, its temporaries and its end; or it does not fit; or the receiver is none for it
pub record FrameAt (o : Objects) (room top running m receiver : ℕ) (f : Active) (temporaries end : ℕ) : Type 0 where
  pub chain : in_chain o (home o m) (class_of o receiver) ≡ true
  pub above : f.base.0 ≡ top + frame_size o running
  pub holds : temporaries ≡ temporary_count o m
  pub fits : fits_stack room (top + frame_size o running) (frame_size o m) ≡ true
  pub ends : end ≡ f.base.0 + frame_size o m
  pub fresh : Fresh o m f

pub record NoFrame (o : Objects) (room top running m receiver : ℕ) : Type 0 where
  pub chain : in_chain o (home o m) (class_of o receiver) ≡ true
  pub fits : fits_stack room (top + frame_size o running) (frame_size o m) ≡ false

abbrev pub BaseIs : Objects → ℕ → ℕ → ℕ → ℕ → ℕ → Base → Type 0
BaseIs o room top running m receiver (base.At f temporaries end) = FrameAt o room top running m receiver f temporaries end
BaseIs o room top running m receiver base.Full = NoFrame o room top running m receiver
BaseIs o room top running m receiver base.Unfit = in_chain o (home o m) (class_of o receiver) ≡ false

-- The stack with room for the frame
pub record Enters (stack : List ℕ) (top next left base temporaries from count : ℕ) : Type 0 where
  pub below : top + 2 < length stack
  pub least : top < 65536
  pub position : next < 65536
  pub depth : left < 65536
  pub arguments : from + count ≤ length stack
  pub fits : base + (6 + temporaries) ≤ length stack
  pub few : count ≤ temporaries
  pub most : temporaries ≤ 32

-- A halt before the bytecode, with the phase that says why: nothing changes.
pub record Halts (x : Stepped) (k : ℕ) (contents bodies stack cache contents' bodies' stack' cache' : List ℕ) : Type 0 where
  pub cause : Cause
  pub steps : x ≡ halts cause
  pub phase : k ≡ phase_of cause
  pub stays : Stays contents bodies stack cache contents' bodies' stack' cache'

-- A send that fails: nothing changes, and the step is y, that of its message.
pub record Fails (x y : Stepped) (contents bodies stack cache contents' bodies' stack' cache' : List ℕ) : Type 0 where
  pub steps : x ≡ y
  pub stays : Stays contents bodies stack cache contents' bodies' stack' cache'

-- The frame behind an answered send
abbrev pub behind_send : Active → Message → Active
behind_send a m = moved_on a m.next (record { 0 = a.end.0 - m.count })

-- What a send by the frame that the loop holds leads to, of which x is the step, and y that of its message. Where it is made, it says how many dictionaries its lookup
-- read.
abbrev pub SentIs : Stepped → Stepped → ℕ → ℕ → ℕ → ℕ → ℕ → Active → Message → List ℕ → List ℕ → List ℕ → List ℕ → List ℕ → List ℕ → List ℕ → List ℕ → Sent → Type 0
SentIs x y e receiver selector n b a m contents bodies stack cache contents' bodies' stack' cache' (Answered n' b' read) =
    Made x read (running_with e receiver selector n' b' a.base.0) contents bodies (written a stack) cache contents' bodies' (written (behind_send a m) stack') cache'
    × Onward a stack stack' (a.end.0 - m.count)
SentIs x y e receiver selector n b a m contents bodies stack cache contents' bodies' stack' cache' (Entered f end read) =
    Made x read (running_with e receiver selector n b f.base.0) contents bodies (written a stack) cache contents' bodies' stack' cache'
    × Held n b f.base.0 contents' bodies' stack' f
    × (end ≡ frame_end n b f.base.0 contents' bodies' stack')
SentIs x y e receiver selector n b a m contents bodies stack cache contents' bodies' stack' cache' Full =
    Halts x (phase_of no_stack_room) contents bodies stack cache contents' bodies' stack' cache'
SentIs x y e receiver selector n b a m contents bodies stack cache contents' bodies' stack' cache' Failed =
    Fails x y contents bodies stack cache contents' bodies' stack' cache'

-- What `send` promises in an edition, with whatever receiver and selector the run began
abbrev pub Sends : (e n b : ℕ) (a : Active) (m : Message) (contents bodies stack cache contents' bodies' stack' cache' : List ℕ) → Sent → Type 0
Sends e n b a m contents bodies stack cache contents' bodies' stack' cache' r =
    (receiver start_selector : ℕ)
    → SentIs (send_step (room_at contents bodies (written a stack) cache) e receiver start_selector n b a.base.0 contents bodies (written a stack) m.selector m.count m.class.0
    m.next.0)
    (failed_step (room_at contents bodies (written a stack) cache) e receiver start_selector n b a.base.0 contents bodies (written a stack) m.selector m.count m.class.0
    m.next.0)
    e receiver start_selector n b a m contents bodies stack cache contents' bodies' stack' cache' r
