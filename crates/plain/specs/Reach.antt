-- For those who size stacks: reach over runs that continue each other (proved in proofs/ReachLaws.antt), and a stack of as many words as the
-- largest reach (proofs/StackLaws.antt).
use Rattle.std.specs.Prelude.{ℕ, ◌+◌, ◌≤◌, max, ◌≡◌, List, [], ◌∷◌}
use Rattle.model.specs.Image.{Room, accepted, load_verdict}
use Rattle.plain.specs.Registers.{running, no_stack_room, phase_of}
use Rattle.plain.specs.State.{Plain}
use Rattle.plain.specs.Calls.{loaded, standing_end, Call, done, refused_by, result, wrote, Called, called, impossible, call}
use Rattle.plain.specs.Flat.{Flat, room_of}
use Rattle.plain.specs.Check.{check}
use Rattle.plain.specs.FlatCalls.{Given, gives, no_answer, flat_load, flat_run}
use Rattle.plain.specs.CallLists.{next_state, Same}

-- The answer of a run behind one that made k bytecodes, has reach h and read d dictionaries, as that of both
abbrev pub added : ℕ → ℕ → ℕ → Given → Given
added k h d (gives done s) = gives done s
added k h d (gives (refused_by i) s) = gives (refused_by i) s
added k h d (gives (result phase count value reach dictionaries) s) = gives (result phase (k + count) value (max h reach) (d + dictionaries)) s
added k h d (gives (wrote i) s) = gives (wrote i) s
added k h d no_answer = no_answer

-- A run of m bytecodes whose handler is still running and a run of n behind it are one run of m + n: the state is the same, the bytecodes made and
-- the dictionaries read are added up, and reach is the larger of the two.
abbrev pub Continues : Type 0
Continues =
    (s s₁ : Flat) (m n count value reach dictionaries : ℕ) → check s ≡ accepted → flat_run s m ≡ gives (result running count value reach dictionaries) s₁
    → flat_run s (m + n) ≡ added count reach dictionaries (flat_run s₁ n)

-- The reach of an answer, 0 where it has none
abbrev pub reach_in : Given → ℕ
reach_in (gives done s) = 0
reach_in (gives (refused_by i) s) = 0
reach_in (gives (result phase count value reach dictionaries) s) = reach
reach_in (gives (wrote i) s) = 0
reach_in no_answer = 0

-- Runs of so many bytecodes, one after another: the largest reach in their answers, and all that they are granted
unfoldable pub reach_of_runs : Flat → List ℕ → ℕ
reach_of_runs s [] = 0
reach_of_runs s (n ∷ ns) = max (reach_in (flat_run s n)) (reach_of_runs (next_state s (flat_run s n)) ns)

unfoldable pub granted : List ℕ → ℕ
granted [] = 0
granted (n ∷ ns) = n + granted ns

-- The largest reach over runs that continue each other is that of the single run. (Those behind the handler's end are refused, and have none.)
abbrev pub LargestReach : Type 0
LargestReach = (s : Flat) → check s ≡ accepted → (n : ℕ) (ns : List ℕ) → reach_of_runs s (n ∷ ns) ≡ reach_in (flat_run s (granted (n ∷ ns)))

-- ---- another stack

-- The same buffers with a stack of k words
abbrev pub with_stack : Room → ℕ → Room
with_stack room k = record { contents = room.contents; bodies = room.bodies; stack = k; cache = room.cache }

-- A call needs no more than k words of the stack: a run by its reach, a begin by the frame that it leaves. Where it found no room, k words are no more
-- than it had.
abbrev pub Within : Room → ℕ → Called → Type 0
Within room k (called done p) = standing_end p ≤ k
Within room k (called (refused_by i) p) = i ≡ 13 → k ≤ room.stack
Within room k (called (result phase count value reach dictionaries) p) = (reach ≤ k) × (phase ≡ phase_of no_stack_room → k ≤ room.stack)
Within room k (called (wrote i) p) = ⊥
Within room k impossible = ⊥

abbrev pub state_after : Plain → Called → Plain
state_after p (called a p') = p'
state_after p impossible = p

-- None of the calls needs more than k words.
unfoldable pub AllWithin : Room → ℕ → List Call → Plain → Type 0
AllWithin room k [] p = Unit {0}
AllWithin room k (c ∷ cs) p = Within room k (call room p c) × AllWithin room k cs (state_after p (call room p c))

-- Calls that need no more than k words of stack answer alike, and come to the same states, on a stack of k words.
abbrev pub Suffices : Type 0
Suffices =
    (s s' : Flat) (image : List ℕ) (k : ℕ) → room_of s' ≡ with_stack (room_of s) k → load_verdict (room_of s) image ≡ accepted
    → (t t' : Flat) × (flat_load s image ≡ gives done t) × (flat_load s' image ≡ gives done t')
    × ((cs : List Call) → AllWithin (room_of s) k cs (loaded image) → Same cs t t')
