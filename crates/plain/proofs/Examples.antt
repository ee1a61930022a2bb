-- More computed examples, each for a slip that it shuts out.
use Prim.Native.Nat.{ℕ, ◌+◌, ◌*◌}
use mathlib.Core.Path.{◌≡◌, refl}
use mathlib.Core.Bool.{true}
use mathlib.Core.List.{[], ◌∷◌, ◌++◌}
use mathlib.Core.Option.{none}
use lib.ListN.{replicate, take}
use Rattle.model.specs.Objects.{part}
use Rattle.model.specs.Depth.{depthTable}
use Rattle.plain.specs.Calls.{wrote}
use Rattle.plain.specs.Flat.{Flat}
use Rattle.plain.specs.Reach.{reach_in}
use Rattle.plain.specs.FlatCalls.{saved, flat_load, flat_begin, flat_run, flat_save}
use Rattle.plain.proofs.Computing.{computing}
use Rattle.plain.proofs.Images.{method, add_two, buffers, state_of, read_by}
use Rattle.plain.proofs.SuperSends.{super_image}

-- Both branches of a jump are examined: push true, jump on false over the next byte, return self, and an unused byte.
both_branches : depthTable ((113 * 256 + 152) ∷ (120 * 256 + 126) ∷ []) 4 0 12 (λ i. true) ≡ none
unfolding computing
both_branches = refl

-- Save after load gives the image at the output's front, and its length.
saves : flat_save (state_of (flat_load (buffers 21 40 7) (add_two 81))) (replicate 218 9) ≡ saved (wrote 216) (add_two 81 ++ (9 ∷ 9 ∷ []))
unfolding computing add_two
saves = refl

-- A handler whose second bytecode is a send, whose method has a frame and returns with the fourth; on a stack of so many words
abbrev sender : ℕ → Flat
sender stack = state_of (flat_begin (state_of (flat_load (buffers 21 stack 7) (super_image (method 6 (1 ∷ 18 ∷ 124 ∷ [])) 36))) 36 28 [])

-- A send pops receiver and arguments at once: after push self and a send to it, the sender's depth is 0, its operand word stays, and the
-- new frame's words follow. Words of no frame stay.
sent : take 25 (state_of (flat_run (sender 40) 2)).stack
    ≡ 0 ∷ 3 ∷ 0 ∷ 34 ∷ 0 ∷ 36 ∷ 36 ∷ 7 ∷ 7 ∷ 7 ∷ 7 ∷ 7 ∷ 7 ∷ 7 ∷ 7 ∷ 7 ∷ 7 ∷ 7 ∷ 0 ∷ 0 ∷ 0 ∷ 32 ∷ 0 ∷ 36 ∷ 7 ∷ []
unfolding computing super_image
sent = refl

-- Reach: of no bytecodes, up to the send, up to the return, to the end; of a run after the return; and where the second frame does not fit.
reaches : reach_in (flat_run (sender 40) 0) ∷ reach_in (flat_run (sender 40) 2) ∷ reach_in (flat_run (sender 40) 4) ∷ reach_in (flat_run (sender 40) 9)
    ∷ reach_in (flat_run (state_of (flat_run (sender 40) 4)) 9) ∷ reach_in (flat_run (sender 35) 9) ∷ []
    ≡ 18 ∷ 36 ∷ 36 ∷ 36 ∷ 18 ∷ 18 ∷ []
unfolding computing super_image
reaches = refl

-- Dictionaries: none before the send, one for the super send that finds in the class above, no more for the rest; the same where the cache has the lookup; none where
-- the send halts, and none for arithmetic that succeeds.
abbrev again : Flat
again = state_of (flat_begin (state_of (flat_run (sender 40) 9)) 36 28 [])

reads : read_by (flat_run (sender 40) 1) ∷ read_by (flat_run (sender 40) 2) ∷ read_by (flat_run (sender 40) 9) ∷ read_by (flat_run again 9) ∷ read_by (flat_run (sender 35) 9)
    ∷ read_by (flat_run (state_of (flat_begin (state_of (flat_load (buffers 21 40 7) (add_two 81))) 81 20 [])) 9) ∷ []
    ≡ 0 ∷ 1 ∷ 1 ∷ 1 ∷ 0 ∷ 0 ∷ []
unfolding computing super_image add_two
reads = refl

-- The entry of that lookup: selector, class, method, dictionaries
kept : part again.cache 36 4 ≡ 26 ∷ 18 ∷ 32 ∷ 1 ∷ []
unfolding computing super_image
kept = refl
