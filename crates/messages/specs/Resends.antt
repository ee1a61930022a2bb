-- What the functions of a message ask of the buffers, and what their answers say.
use Rattle.std.specs.Prelude.{ℕ, suc, ◌+◌, ◌-◌, ◌≤◌, ◌<◌, ◌≡◌, true, false, ◌⊎◌, List, T, length, Option, Some, None, Result, Ok, Err}
use Rattle.model.specs.declared.Pointer.{Pointer}
use Rattle.model.specs.Numbers.{phase_of}
use Rattle.model.specs.declared.numbers.Halt.{Halt}
use Rattle.model.specs.Limits.{has_messages, class_kind}
use Rattle.model.specs.Word.{failure_selector}
use Rattle.model.specs.Objects.{Objects, objects_at, is_nil_or}
use Rattle.model.specs.Method.{temporary_count, frame_size}
use Rattle.model.specs.Lookup.{found, lookup, dictionaries_read}
use Rattle.model.specs.Rules.{Right, IsRight}
use Rattle.model.specs.Primitive.{has_message_room}
use Rattle.plain.specs.State.{fits_stack}
use Rattle.plain.specs.Flat.{frame_depth, frame_method, operands_start}
use Rattle.plain.specs.Running.{running_with, Made, room_at, Sending, failed_step}
use Rattle.frames.specs.declared.Message.{Message}
use Rattle.frames.specs.Active.{frame_end}
use Rattle.cache.specs.declared.Lookup.{Lookup}
use Rattle.cache.specs.Caches.{Caches}
use Rattle.primitives.specs.Outcomes.{room_for}
use Rattle.sends.specs.Sends.{Halts}
use Rattle.messages.specs.declared.Receiver.{Receiver}
use Rattle.messages.specs.declared.Fitting.{Fitting}
use Rattle.messages.specs.declared.Resent.{Resent}

-- A send that failed: the objects are right in their edition, and the cache is.
pub record Resends (e n b top : ℕ) (contents bodies stack cache : List ℕ) (m : Message) : Type 0 where
  pub right : Right e (objects_at n b contents bodies)
  pub sending : Sending n b top contents bodies stack m.selector m.count m.class.0 m.next.0 m.sure
  pub caches : Caches n b contents bodies cache

-- A lookup of object 6, and an array of so many arguments
pub record Seeks (n b : ℕ) (contents bodies cache : List ℕ) (class count : ℕ) : Type 0 where
  pub right : IsRight (objects_at n b contents bodies)
  pub starts : T (is_nil_or (objects_at n b contents bodies) class_kind class)
  pub caches : Caches n b contents bodies cache
  pub few : count < 65536

-- What it found: a method under object 6, where the edition has messages and there is room for one, and how many dictionaries the search read
pub record FailureFound (e : ℕ) (o : Objects) (contents bodies class count m read : ℕ) : Type 0 where
  pub messages : has_messages e ≡ true
  pub finds : lookup o failure_selector class ≡ found m
  pub reads : read ≡ dictionaries_read o failure_selector class
  pub room : has_message_room (room_for contents bodies) o count ≡ true

abbrev pub FoundIs : ℕ → Objects → ℕ → ℕ → ℕ → ℕ → ℕ → Option Pointer → Type 0
FoundIs e o contents bodies class count read (Some m) = FailureFound e o contents bodies class count m.0 read
FoundIs e o contents bodies class count read None =
    (has_messages e ≡ false) ⊎ ((lookup o failure_selector class ≡ None) ⊎ (has_message_room (room_for contents bodies) o count ≡ false))

abbrev pub SoughtIs : ℕ → Objects → ℕ → ℕ → ℕ → ℕ → Lookup → Type 0
SoughtIs e o contents bodies class count r = FoundIs e o contents bodies class count r.dictionaries r.found

-- The receiver's place and the operands below it
pub record ReceiverIs (n b top : ℕ) (contents bodies stack : List ℕ) (count : ℕ) (r : Receiver) : Type 0 where
  pub below : r.left ≡ frame_depth stack top - suc count
  pub stands : r.place ≡ operands_start (objects_at n b contents bodies) (frame_method stack top) top + (frame_depth stack top - suc count)

-- A frame of method m at a base: its temporaries and its end; or it does not fit
pub record FrameFits (o : Objects) (room base m temporaries end : ℕ) : Type 0 where
  pub holds : temporaries ≡ temporary_count o m
  pub ends : end ≡ base + frame_size o m
  pub fits : fits_stack room base (frame_size o m) ≡ true

abbrev pub PlacedIs : Objects → ℕ → ℕ → ℕ → Option Fitting → Type 0
PlacedIs o room base m (Some f) = FrameFits o room base m f.temporaries f.end
PlacedIs o room base m None = fits_stack room base (frame_size o m) ≡ false

-- The stack with room for the frame
pub record Enters (stack : List ℕ) (top next left base temporaries : ℕ) : Type 0 where
  pub below : top + 2 < length stack
  pub least : top < 65536
  pub position : next < 65536
  pub depth : left < 65536
  pub fits : base + (6 + temporaries) ≤ length stack
  pub one : 1 ≤ temporaries

-- What a message leads to: the step of the send that failed is made, or it halts and nothing changes.
abbrev pub ResentIs : (e receiver selector n b top : ℕ) (m : Message) (contents bodies stack cache contents' bodies' stack' cache' : List ℕ) → Result Resent Halt → Type 0
ResentIs e receiver selector n b top m contents bodies stack cache contents' bodies' stack' cache' (Ok r) =
    Made
    (failed_step (room_at contents bodies stack cache) e receiver selector n b top contents bodies stack m.selector m.count m.class.0 m.next.0) r.dictionaries
    (running_with e receiver selector r.n r.b r.top.0) contents bodies stack cache contents' bodies' stack' cache'
    × (r.end ≡ frame_end r.n r.b r.top.0 contents' bodies' stack')
ResentIs e receiver selector n b top m contents bodies stack cache contents' bodies' stack' cache' (Err h) =
    Halts
    (failed_step (room_at contents bodies stack cache) e receiver selector n b top contents bodies stack m.selector m.count m.class.0 m.next.0)
    (phase_of h) contents bodies stack cache contents' bodies' stack' cache'
