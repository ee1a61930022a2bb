-- Calls of a list as the code makes them, and what play promises.
use Rattle.std.specs.Prelude.{ℕ, ◌≡◌, List, Result, Ok, Err}
use Rattle.model.specs.declared.numbers.Refusal.{Refusal}
use Rattle.model.specs.Numbers.{number_of}
use Rattle.plain.specs.Calls.{Answer, done, refused_by, result}
use Rattle.plain.specs.FlatCalls.{Given, gives}
use Rattle.calls.specs.Plays.{Played, played, unplayed, flat_play, PlaysAlike}
use Rattle.machine.specs.declared.Registers.{Registers}
use Rattle.machine.specs.declared.Made.{Made}
use Rattle.machine.specs.declared.Reply.{Reply}
use Rattle.machine.specs.State.{state}
use Rattle.machine.specs.declared.Reply.TheVariants as P

-- One call: the registers after it, which are those before it where it is refused, and its answer
abbrev pub registers_in : Registers → Result Reply Refusal → Registers
registers_in before (Ok (P.Done r)) = r
registers_in before (Ok (P.Ran x)) = x.registers
registers_in before (Err k) = before

abbrev pub answer_in : Result Reply Refusal → Answer
answer_in (Ok (P.Done r)) = done
answer_in (Ok (P.Ran x)) = result x.registers.phase x.count x.registers.value x.reach x.dictionaries
answer_in (Err k) = refused_by (number_of k)

abbrev pub reply_gives : Registers → Result Reply Refusal → List ℕ → List ℕ → List ℕ → List ℕ → Given
reply_gives before p contents bodies stack cache = gives (answer_in p) (state (registers_in before p) contents bodies stack cache)

-- Play: the registers after the calls, or as they were.
abbrev pub play_gives : Registers → Result Made Refusal → List ℕ → List ℕ → List ℕ → List ℕ → List ℕ → Played
play_gives before (Ok m) contents bodies stack cache answers = played m.calls (state m.registers contents bodies stack cache) answers
play_gives before (Err k) contents bodies stack cache answers = unplayed (number_of k) (state before contents bodies stack cache) answers

-- What play promises of its answer and the buffers afterwards: they are those of the calls made singly, on which the two machines agree.
abbrev pub PromisedPlay : Registers → (contents bodies stack cache : List ℕ) → (calls answers : List ℕ) → Result Made Refusal → (contents' bodies' stack' cache' answers' : List ℕ) → Type 0
PromisedPlay r contents bodies stack cache calls answers a contents' bodies' stack' cache' answers' =
    (play_gives r a contents' bodies' stack' cache' answers' ≡ flat_play (state r contents bodies stack cache) calls answers)
    × PlaysAlike (state r contents bodies stack cache) calls answers
