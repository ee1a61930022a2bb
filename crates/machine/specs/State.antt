-- The registers as the code holds them, and the answers of the calls as 01's numbers and values.
use Rattle.std.specs.Prelude.{ℕ, List, Result, Ok, Err}
use Rattle.model.specs.declared.numbers.Refusal.{Refusal}
use Rattle.model.specs.Numbers.{number_of}
use Rattle.plain.specs.Flat.{Flat, flat}
use Rattle.plain.specs.Calls.{done, refused_by, result}
use Rattle.plain.specs.FlatCalls.{Given, gives}
use Rattle.plain.specs.Registers as R
use Rattle.machine.specs.declared.Registers.{Registers}
use Rattle.machine.specs.declared.Ran.{Ran}

abbrev pub registers_of : Registers → R.Registers
registers_of r =
    record { n = r.n; b = r.b; start_receiver = r.receiver; start_selector = r.selector; phase = r.phase; top = r.top; value = r.value; edition = r.edition }

-- The flat state that registers and lent words are
abbrev pub state : Registers → List ℕ → List ℕ → List ℕ → List ℕ → Flat
state r contents bodies stack cache = flat (registers_of r) contents bodies stack cache

-- Refused: the registers are as they were.
abbrev pub declines : Registers → Refusal → List ℕ → List ℕ → List ℕ → List ℕ → Given
declines before k contents bodies stack cache = gives (refused_by (number_of k)) (state before contents bodies stack cache)

-- Begin and drop: the registers after them.
abbrev pub call_gives : Registers → Result Registers Refusal → List ℕ → List ℕ → List ℕ → List ℕ → Given
call_gives before (Ok r) contents bodies stack cache = gives done (state r contents bodies stack cache)
call_gives before (Err k) contents bodies stack cache = declines before k contents bodies stack cache

-- Run: phase and value are in the registers after it, count, reach and dictionaries beside them.
abbrev pub run_gives : Registers → Result Ran Refusal → List ℕ → List ℕ → List ℕ → List ℕ → Given
run_gives before (Ok x) contents bodies stack cache =
    gives (result x.registers.phase x.count x.registers.value x.reach x.dictionaries) (state x.registers contents bodies stack cache)
run_gives before (Err k) contents bodies stack cache = declines before k contents bodies stack cache

-- Forget takes the registers and leaves them.
abbrev pub forget_gives : {A : Type 0} → Registers → Result A Refusal → List ℕ → List ℕ → List ℕ → List ℕ → Given
forget_gives r (Ok x) contents bodies stack cache = gives done (state r contents bodies stack cache)
forget_gives r (Err k) contents bodies stack cache = declines r k contents bodies stack cache
