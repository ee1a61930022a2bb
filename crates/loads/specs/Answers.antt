-- The answers of load and save as 01's numbers and values.
use Rattle.std.specs.Prelude.{ℕ, ◌≡◌, List, Result, Ok, Err}
use Rattle.model.specs.declared.numbers.Refusal.{Refusal}
use Rattle.model.specs.Numbers.{number_of}
use Rattle.plain.specs.Registers as R
use Rattle.plain.specs.Flat.{flat}
use Rattle.plain.specs.Calls.{done, refused_by, wrote}
use Rattle.plain.specs.FlatCalls.{Given, gives, flat_load}
use Rattle.plain.specs.FlatCalls as A
use Rattle.machine.specs.declared.Registers.{Registers}
use Rattle.machine.specs.State.{state}

-- Load: the registers of the image, or 01's number and registers that are all zero.
unfoldable pub loadGives : Result Registers Refusal → List ℕ → List ℕ → List ℕ → List ℕ → Given
loadGives (Ok r) contents bodies stack cache = gives done (state r contents bodies stack cache)
loadGives (Err k) contents bodies stack cache = gives (refused_by (number_of k)) (flat R.no_registers contents bodies stack cache)

-- What load promises of its answer and the buffers afterwards, whatever registers and stack there are
abbrev pub PromisedLoad : (image contents bodies cache : List ℕ) → Result Registers Refusal → (contents' bodies' cache' : List ℕ) → Type 0
PromisedLoad image contents bodies cache a contents' bodies' cache' =
    (g : R.Registers) (stack : List ℕ) → loadGives a contents' bodies' stack cache' ≡ flat_load (flat g contents bodies stack cache) image

-- Save: the image's length, and the output
unfoldable pub saveGives : Result ℕ Refusal → List ℕ → A.Saved
saveGives (Ok k) output = A.saved (wrote k) output
saveGives (Err k) output = A.saved (refused_by (number_of k)) output
