-- A call as the code reads it from a list.
use Rattle.std.specs.Prelude.{ℕ, ◌-◌, ◌≤◌, List}
use Rattle.model.specs.Objects.{part}
use Rattle.plain.specs.Calls.{Call, begin_call, run_call, drop_call, forget_call}
use Rattle.calls.specs.declared.Listed.{Listed}
use Rattle.calls.specs.declared.Listed.TheVariants as L

unfoldable pub listed : Listed → List ℕ → Call
listed (L.Begin receiver selector from end) words = begin_call receiver selector (part words from (end - from))
listed (L.Run n) words = run_call n
listed L.Drop words = drop_call
listed L.Forget words = forget_call

-- a begin's arguments stand in a list of so many words
abbrev pub Inside : Listed → ℕ → Type 0
Inside (L.Begin receiver selector from end) words = (from ≤ end) × (end ≤ words)
Inside (L.Run n) words = Unit {0}
Inside L.Drop words = Unit {0}
Inside L.Forget words = Unit {0}
