-- What the loop begins with is the first two words, copied into a list l; what it leaves is said of l.
use Prim.Native.Nat.{ℕ, ◌≤◌}
use mathlib.Core.Path.{◌≡◌}
use mathlib.Core.List.{List}
use lib.ListN.{length}
use lib.Seq.{sets}
use Rattle.model.specs.Objects.{part}
use Rattle.words.proofs.copy.Given as goal

abbrev pub invariant-loop-i : goal.invariant-loop-i
invariant-loop-i it =
    (it.i ≤ it.count) × (length it.words ≡ length it.initial.words) × ((l : List ℕ) → it.initial.words ≡ sets l it.at (part it.source it.from 2) → it.words ≡ sets l it.at (part it.source it.from it.i))
