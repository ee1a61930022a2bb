-- The calls of the plain machine (01, "Plain machine", last paragraph, and "From the state"). It is never refused by 3 or 11.
use Rattle.std.specs.Prelude.{ℕ, zero, suc, ◌+◌, max, Bool, true, false, List, [], ◌∷◌, eqb, length, Option, Some, None}
use Rattle.bytecode.specs.Test.{when◌then◌else◌}
use Rattle.model.specs.declared.Pointer.{Pointer}
use Rattle.model.specs.Objects.{Objects, class_of}
use Rattle.model.specs.Method.{argument_count, frame_size}
use Rattle.model.specs.Lookup.{lookup}
use Rattle.model.specs.Rules.{rule8}
use Rattle.model.specs.Image.{Room, image_header, image_objects}
use Rattle.plain.specs.Registers.{idle, running, finished, Cause, phase_of}
use Rattle.plain.specs.State.{Frame, Plain, objects, with_objects, with_frames, new_frame, fits_stack}
use Rattle.plain.specs.Step.{Looked, read_in, Stepped, leads_to, halts, missing, Activation, answered, entered, unfit, activate, step}

-- The machine starts with the image's objects and start words, no frames, phase and value 0.
unfoldable pub loaded : List ℕ → Plain
loaded bytes =
    record {
      registers = record {
        n = (image_header bytes).n;
        b = (image_header bytes).b;
        start_receiver = (image_header bytes).receiver;
        start_selector = (image_header bytes).selector;
        phase = idle;
        top = 0;
        value = 0;
        edition = (image_header bytes).edition;
      };
      contents = (image_objects bytes).contents;
      bodies = (image_objects bytes).bodies;
      frames = [];
    }

-- What begin leaves: a state, or the number of a refusal
pub data Begun : Type 0 where
  begun : Plain → Begun
  declined : ℕ → Begun

-- 13: the first frame, where one is needed, does not fit. (No method that begin finds is unfit for its receiver where check accepts the
-- state, since the search starts at the receiver's class.)
abbrev pub begin_activated : Room → Plain → ℕ → ℕ → List ℕ → Activation → Begun
begin_activated room s m receiver arguments (answered w o) = begun (with_frames (with_objects s o) [] finished 0 w)
begin_activated room s m receiver arguments entered =
    when fits_stack room.stack 0 (frame_size (objects s) m)
    then begun (with_frames s (new_frame (objects s) 0 m receiver arguments ∷ []) running 0 0)
    else declined 13
begin_activated room s m receiver arguments unfit = declined 9

-- 9: no method is found; 10: it takes another number of arguments.
abbrev pub begin_found : Room → Plain → ℕ → List ℕ → Option Pointer → Begun
begin_found room s receiver arguments None = declined 9
begin_found room s receiver arguments (Some m) =
    when eqb (argument_count (objects s) m.0) (length arguments)
    then begin_activated room s m.0 receiver arguments (activate s.registers.edition room (objects s) m.0 receiver arguments)
    else declined 10

-- Begin is a send from no frame, all frames removed. 12 in phase 1, then 8, 9, 10, 13
unfoldable pub begin : Room → Plain → ℕ → ℕ → List ℕ → Begun
begin room s receiver selector arguments =
    when eqb s.registers.phase running then declined 12 else
    when rule8 (objects s) receiver selector arguments
    then begin_found room s receiver arguments (lookup (objects s) selector (class_of (objects s) receiver))
    else declined 8

-- A step that was made: what it looked up, and the state after it
pub data Taken : Type 0 where
  taken : Looked → Plain → Taken

-- A run: how many steps were made, the state after them, and each step, first to last; or a step that does not exist was met
pub data Ran : Type 0 where
  ran : ℕ → Plain → List Taken → Ran
  stuck : Ran

abbrev pub counted : Taken → Ran → Ran
counted t (ran k s ts) = ran (suc k) s (t ∷ ts)
counted t stuck = stuck

-- Phases 3, 4 and 5 leave the state before the bytecode, which is not counted.
abbrev pub halted : Plain → Cause → Plain
halted s cause = with_frames s s.frames (phase_of cause) s.registers.top 0

-- What follows a step; `again` is the rest of the run, as a function so that it waits.
abbrev pub onward : (Plain → Ran) → Plain → Stepped → Ran
onward again s (leads_to s' l) = counted (taken l s') (again s')
onward again s (halts cause) = ran 0 (halted s cause) []
onward again s missing = stuck

abbrev pub if_running : (Plain → Ran) → Room → Plain → Bool → Ran
if_running again room s true = onward again s (step room s)
if_running again room s false = ran 0 s []

-- Steps until n are made or the phase is not 1
unfoldable pub steps : Room → ℕ → Plain → Ran
steps room zero s = ran 0 s []
steps room (suc n) s = if_running (λ s'. steps room n s') room s (eqb s.registers.phase running)

-- A frame ends at its base and its size. The largest end of frames, the first of them at `base`, or 0 where there are none
unfoldable pub largest_end : Objects → ℕ → List Frame → ℕ
largest_end o base [] = 0
largest_end o base (f ∷ rest) = max (base + frame_size o f.method) (largest_end o f.sender rest)

-- The largest end of the frames that stand in a state
unfoldable pub standing_end : Plain → ℕ
standing_end s = largest_end (objects s) s.registers.top s.frames

-- Reach (01's term): the largest end of the frames that stand when a run starts and after each of its steps. A frame that did not fit never stood.
unfoldable pub reach_of : Plain → List Taken → ℕ
reach_of s [] = standing_end s
reach_of s (taken l s' ∷ ts) = max (standing_end s) (reach_of s' ts)

-- The dictionaries that the lookups of a run read (02, M-105): the sum over its steps. A send that halts is no step; where object 6 was sent, the step has looked up object 6.
unfoldable pub dictionaries_of : List Taken → ℕ
dictionaries_of [] = 0
dictionaries_of (taken l s ∷ ts) = read_in l + dictionaries_of ts

-- Drop removes the frames.
unfoldable pub dropped : Plain → Plain
dropped s = with_frames s [] idle 0 0

-- The calls of a list, and their answers. `result` is phase, count, value, reach and dictionaries.
pub data Call : Type 0 where
  begin_call : ℕ → ℕ → List ℕ → Call
  run_call : ℕ → Call
  drop_call : Call
  forget_call : Call

pub data Answer : Type 0 where
  done : Answer
  refused_by : ℕ → Answer
  result : ℕ → ℕ → ℕ → ℕ → ℕ → Answer
  wrote : ℕ → Answer

-- The answer and the state after the call; nothing where a step that does not exist was met
pub data Called : Type 0 where
  called : Answer → Plain → Called
  impossible : Called

abbrev pub after_begin : Plain → Begun → Called
after_begin s (begun s') = called done s'
after_begin s (declined k) = called (refused_by k) s

-- A run from s
abbrev pub after_run : Plain → Ran → Called
after_run s (ran k s' ts) = called (result s'.registers.phase k s'.registers.value (reach_of s ts) (dictionaries_of ts)) s'
after_run s stuck = impossible

-- Run is refused by 12 outside phase 1; drop and forget are not refused. A refused call and forget change nothing.
abbrev pub run_if : Room → ℕ → Plain → Bool → Called
run_if room n s true = after_run s (steps room n s)
run_if room n s false = called (refused_by 12) s

unfoldable pub call : Room → Plain → Call → Called
call room s (begin_call receiver selector arguments) = after_begin s (begin room s receiver selector arguments)
call room s (run_call n) = run_if room n s (eqb s.registers.phase running)
call room s drop_call = called done (dropped s)
call room s forget_call = called done s
