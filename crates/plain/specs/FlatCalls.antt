-- The calls over the flat state: the answer and every lent word after the call, for all arguments (01, "Calls", "From the input" and
-- "From the state"). Begin and run are what the plain machine does, laid back into the buffers.
use Rattle.std.specs.Prelude.{ℕ, ◌*◌, Bool, true, false, ◌&&◌, List, [], ◌∷◌, ◌++◌, leb, eqb, length, replicate}
use Rattle.std.proofs.lemmas.List.Edits.{sets}
use Rattle.bytecode.specs.Test.{when◌then◌else◌}
use Rattle.model.specs.Limits.{entry_words}
use Rattle.model.specs.Image.{Verdict, accepted, refused, unless, ◌then◌, buffers_fine, image_header, image_of, image_bytes, load_verdict}
pub use Rattle.model.specs.Objects.{at_front}
use Rattle.plain.specs.Registers.{Registers, no_registers, running}
use Rattle.plain.specs.State.{Frame, Plain}
use Rattle.plain.specs.Calls.{loaded, Begun, begun, declined, begin, Ran, ran, stuck, Taken, taken, steps, reach_of, dictionaries_of}
use Rattle.plain.specs.Calls.{dropped, Answer, done, refused_by, result, wrote, Call, begin_call, run_call, drop_call, forget_call}
use Rattle.plain.specs.Cache.{filled, empty_cache}
use Rattle.plain.specs.Flat.{Flat, room_of, flat_objects, plain_of}
use Rattle.plain.specs.Check.{state_fine, check}

-- The words of a frame, as they stand in the stack
abbrev pub frame_image : Frame → List ℕ
frame_image f =
    f.sender ∷ f.position ∷ f.depth ∷ f.method ∷ f.mark ∷ f.receiver ∷ (f.temporaries ++ f.operands)

-- The stack with the words of the frames that stand, the first of them at `base`; every other word is as it was.
unfoldable pub laid : List ℕ → ℕ → List Frame → List ℕ
laid stack base [] = stack
laid stack base (f ∷ rest) = sets (laid stack f.sender rest) base (frame_image f)

-- Stack and cache after each step of a run
unfoldable pub stack_after : List ℕ → List Taken → List ℕ
stack_after stack [] = stack
stack_after stack (taken l s ∷ ts) = stack_after (laid stack s.registers.top s.frames) ts

unfoldable pub cache_after : List ℕ → List Taken → List ℕ
cache_after cache [] = cache
cache_after cache (taken l s ∷ ts) = cache_after (filled cache l) ts

-- The flat state with a plain state's registers and objects
abbrev pub with_plain : Flat → Plain → List ℕ → List ℕ → Flat
with_plain s p stack cache =
    record { registers = p.registers; contents = at_front p.contents s.contents; bodies = at_front p.bodies s.bodies; stack = stack; cache = cache }

-- The answer of a call and the state after it. `no_answer` stands for a step that does not exist, which no call meets where check accepts.
pub data Given : Type 0 where
  gives : Answer → Flat → Given
  no_answer : Given

-- 3 and 11 come first. A refused call gives its number and changes nothing.
abbrev pub checked : Flat → Verdict → Given → Given
checked s accepted g = g
checked s (refused k) g = gives (refused_by k) s

-- Begin: the words of the first frame, or none. It does not touch the cache.
abbrev pub flat_after_begin : Flat → Begun → Given
flat_after_begin s (begun p) = gives done (with_plain s p (laid s.stack 0 p.frames) s.cache)
flat_after_begin s (declined k) = gives (refused_by k) s

unfoldable pub flat_begin : Flat → ℕ → ℕ → List ℕ → Given
flat_begin s receiver selector arguments = checked s (check s) (flat_after_begin s (begin (room_of s) (plain_of s) receiver selector arguments))

-- Run: phase, count, value, reach and dictionaries
abbrev pub flat_after_run : Flat → Ran → Given
flat_after_run s (ran k p ts) =
    gives (result p.registers.phase k p.registers.value (reach_of (plain_of s) ts) (dictionaries_of ts)) (with_plain s p (stack_after s.stack ts) (cache_after s.cache ts))
flat_after_run s stuck = no_answer

abbrev pub flat_run_if : Flat → ℕ → Bool → Given
flat_run_if s n true = flat_after_run s (steps (room_of s) n (plain_of s))
flat_run_if s n false = gives (refused_by 12) s

unfoldable pub flat_run : Flat → ℕ → Given
flat_run s n = checked s (check s) (flat_run_if s n (eqb s.registers.phase running))

-- Drop and forget are allowed in every phase.
unfoldable pub flat_drop : Flat → Given
flat_drop s = checked s (check s) (gives done (with_plain s (dropped (plain_of s)) s.stack s.cache))

unfoldable pub flat_forget : Flat → Given
flat_forget s =
    checked s (check s)
    (gives done (record { registers = s.registers; contents = s.contents; bodies = s.bodies; stack = s.stack; cache = empty_cache }))

-- The four calls that demand 3 makes lists of
unfoldable pub flat_call : Flat → Call → Given
flat_call s (begin_call receiver selector arguments) = flat_begin s receiver selector arguments
flat_call s (run_call n) = flat_run s n
flat_call s drop_call = flat_drop s
flat_call s forget_call = flat_forget s

-- Load. It takes buffers and no state: the registers of `s` are not read, and the stack is none of its buffers. Accepted, it puts contents
-- and bodies in place and empties the cache; refused by 1 to 3 it writes nothing; by another number it zeroes the 4N and B words. Refused, its
-- registers are all zero.
abbrev pub with_registers : Flat → Registers → Flat
with_registers s r = record { registers = r; contents = s.contents; bodies = s.bodies; stack = s.stack; cache = s.cache }

unfoldable pub zeroed : Flat → ℕ → ℕ → Flat
zeroed s n b =
    record { registers = no_registers; contents = at_front (replicate (entry_words * n) 0) s.contents; bodies = at_front (replicate b 0) s.bodies; stack = s.stack; cache = s.cache }

abbrev pub after_load : Flat → List ℕ → Verdict → Given
after_load s bytes accepted = gives done (with_plain s (loaded bytes) s.stack empty_cache)
after_load s bytes (refused k) =
    gives (refused_by k) (when leb k 3 then with_registers s no_registers else zeroed s (image_header bytes).n (image_header bytes).b)

unfoldable pub flat_load : Flat → List ℕ → Given
flat_load s bytes = after_load s bytes (load_verdict (room_of s) bytes)

-- Save writes the image at the front of its output and gives its length. An output too short is 3, before 11. The state stays.
unfoldable pub saved_image : Flat → List ℕ
saved_image s =
    image_of
    (record { edition = s.registers.edition; n = s.registers.n; b = s.registers.b; receiver = s.registers.start_receiver; selector = s.registers.start_selector })
    (flat_objects s)

unfoldable pub save_verdict : Flat → List ℕ → Verdict
save_verdict s output =
    unless (buffers_fine (room_of s) s.registers.n s.registers.b && leb (image_bytes s.registers.n s.registers.b) (length output)) 3
    then unless (state_fine s) 11

-- its answer, and the output afterwards
pub data Saved : Type 0 where
  saved : Answer → List ℕ → Saved

abbrev pub after_save : Flat → List ℕ → Verdict → Saved
after_save s output accepted = saved (wrote (image_bytes s.registers.n s.registers.b)) (at_front (saved_image s) output)
after_save s output (refused k) = saved (refused_by k) output

unfoldable pub flat_save : Flat → List ℕ → Saved
flat_save s output = after_save s output (save_verdict s output)
