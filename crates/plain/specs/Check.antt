-- Check (01, "Calls", last paragraph): a test of the plain state that a flat state stands for, and of the cache.
use Rattle.std.specs.Prelude.{ℕ, suc, ◌+◌, Bool, true, false, ◌&&◌, List, [], ◌∷◌, leb, eqb, length}
use Rattle.bytecode.specs.Test.{when◌then◌else◌, every, all_of}
use Rattle.model.specs.Limits.{method_kind}
use Rattle.model.specs.Word.{is_valid}
use Rattle.model.specs.Objects.{Objects, class_of, is_kind}
use Rattle.model.specs.Method.{home, temporary_count, frame_size}
use Rattle.model.specs.Depth.{note_at}
use Rattle.model.specs.Lookup.{in_chain}
use Rattle.model.specs.Rules.{header_fine, method_table}
use Rattle.model.specs.Image.{Verdict, unless, ◌then◌, tests_of, object_tests, buffers_fine}
use Rattle.plain.specs.Registers.{finished, last_phase, has_frames}
use Rattle.plain.specs.State.{Frame, Plain, no_mark, objects, fits_stack}
use Rattle.plain.specs.Cache.{cache_fine}
use Rattle.plain.specs.Flat.{Flat, room_of, flat_objects, plain_of}

-- The image rules of an edition, and right start words
unfoldable pub image_rules : ℕ → Objects → ℕ → ℕ → List Bool
image_rules e o receiver selector = header_fine e o.n o.b ∷ tests_of (object_tests e o receiver selector)

-- A frame: the fifth word is 0; receiver, temporaries and operands are valid; home is in the receiver's class chain; the position is
-- reached and the depth is that of the table there, or one less below the top. (A note is one more than the table's depth.)
unfoldable pub note_of : Bool → Frame → ℕ
note_of is_top f = when is_top then suc f.depth else suc (suc f.depth)

unfoldable pub frame_rules : ℕ → Objects → Bool → Frame → List Bool
frame_rules e o is_top f =
    is_kind o method_kind f.method ∷
    eqb f.mark no_mark ∷
    is_valid o.n f.receiver ∷
    in_chain o (home o f.method) (class_of o f.receiver) ∷
    eqb (note_at (method_table e o f.method) f.position) (note_of is_top f) ∷
    eqb (length f.temporaries) (temporary_count o f.method) ∷
    eqb (length f.operands) f.depth ∷
    every (is_valid o.n) f.temporaries ∷
    every (is_valid o.n) f.operands ∷
    []

-- The bottom frame is at base 0 and has sender 0; each other starts where the one below it ends, and all fit. The frames stand top first,
-- and the first is at `base`.
unfoldable pub frames_fine : ℕ → Objects → ℕ → Bool → ℕ → List Frame → Bool
frames_fine e o stack is_top base [] = false
frames_fine e o stack is_top base (f ∷ []) =
    all_of (frame_rules e o is_top f) && (fits_stack stack base (frame_size o f.method) && (eqb base 0 && eqb f.sender 0))
frames_fine e o stack is_top base (f ∷ g ∷ rest) =
    all_of (frame_rules e o is_top f) && (fits_stack stack base (frame_size o f.method)
    && (eqb base (f.sender + frame_size o g.method) && frames_fine e o stack false f.sender (g ∷ rest)))

abbrev pub is_empty : List Frame → Bool
is_empty [] = true
is_empty (f ∷ fs) = false

-- The image rules; a phase from 0 to 5; a value that is valid in phase 2, else 0; frames, or top 0 and none.
unfoldable pub plain_rules : ℕ → Plain → List Bool
plain_rules stack s =
    all_of (image_rules s.registers.edition (objects s) s.registers.start_receiver s.registers.start_selector) ∷
    leb s.registers.phase last_phase ∷
    (when eqb s.registers.phase finished then is_valid s.registers.n s.registers.value else eqb s.registers.value 0) ∷
    (when has_frames s.registers.phase
    then frames_fine s.registers.edition (objects s) stack true s.registers.top s.frames
    else eqb s.registers.top 0 && is_empty s.frames) ∷
    []

unfoldable pub plain_fine : ℕ → Plain → Bool
plain_fine stack s = all_of (plain_rules stack s)

unfoldable pub state_fine : Flat → Bool
state_fine s = plain_fine (length s.stack) (plain_of s) && cache_fine (flat_objects s) s.cache

-- Check answers yes, 3 or 11. N and B of the registers count for 3 as they stand.
unfoldable pub check : Flat → Verdict
check s = unless (buffers_fine (room_of s) s.registers.n s.registers.b) 3 then unless (state_fine s) 11
