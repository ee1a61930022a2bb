-- A line at the front of a buffer is counted by its length.
use Prim.Native.Nat.{ℕ, ◌≤◌}
use mathlib.Core.Path.{◌≡◌, sym, ap}
use mathlib.Core.List.{List, ◌++◌}
use native.Mathlib.Omega.{arith}
use lib.ListN.{length, length-append}
use lib.Seq.{length-take-le}
use Rattle.step80.specs.Counts.{IsPrefixLen}

pub front_counts : (vs rest out : List ℕ) (r : ℕ) → r ≡ length vs → out ≡ vs ++ rest → IsPrefixLen r out
front_counts vs rest out r e p = (inside, sym (length-take-le r out inside))
  where
    inside : r ≤ length out
    inside = let l = ap (λ (o : List ℕ). length o) p in let a = length-append vs rest in omega arith
