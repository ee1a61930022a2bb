-- The calls as C makes them: registers are eight words, an answer is a number.
use Rattle.std.specs.Prelude.{ℕ, zero, suc, ◌≡◌, List, get_or}
use Rattle.model.specs.Image.{Verdict, accepted, refused}
use Rattle.plain.specs.Registers.{Registers}
use Rattle.plain.specs.Flat.{Flat, flat}
use Rattle.plain.specs.Calls.{Answer, done, refused_by, result, wrote}
use Rattle.calls.specs.Plays.{Played, played, unplayed}

-- N, B, start receiver, start selector, phase, top, value, edition
unfoldable pub registers_at : List ℕ → Registers
registers_at words =
    record { n = get_or words 0 0; b = get_or words 1 0; start_receiver = get_or words 2 0; start_selector = get_or words 3 0; phase = get_or words 4 0; top = get_or words 5 0; value = get_or words 6 0; edition = get_or words 7 0 }

abbrev pub state_of : List ℕ → List ℕ → List ℕ → List ℕ → List ℕ → Flat
state_of words contents bodies stack cache = flat (registers_at words) contents bodies stack cache

-- 0, or the number of the refusal
abbrev pub answer_of : ℕ → Answer
answer_of zero = done
answer_of (suc k) = refused_by (suc k)

abbrev pub verdict_of : ℕ → Verdict
verdict_of zero = accepted
verdict_of (suc k) = refused (suc k)

-- A number that a call writes where it is not refused, before and after the call
abbrev pub KeptIfRefused : ℕ → ℕ → ℕ → Type 0
KeptIfRefused zero before after = Unit {0}
KeptIfRefused (suc k) before after = after ≡ before

-- Run: phase and value are in the registers, count, reach and dictionaries are written.
abbrev pub run_answer : ℕ → Registers → (count reach dictionaries : ℕ) → Answer
run_answer zero r count reach dictionaries = result r.phase count r.value reach dictionaries
run_answer (suc k) r count reach dictionaries = refused_by (suc k)

-- Save: the length is written.
abbrev pub save_answer : ℕ → ℕ → Answer
save_answer zero length = wrote length
save_answer (suc k) length = refused_by (suc k)

-- Play: the number of calls made is written.
abbrev pub play_answer : ℕ → ℕ → Flat → List ℕ → Played
play_answer zero made s answers = played made s answers
play_answer (suc k) made s answers = unplayed (suc k) s answers
