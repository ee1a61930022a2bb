-- `number`, by the range of its integer.
use Prim.Native.Nat.{◌<◌, ◌≤◌}
use mathlib.Core.Path.{◌≡◌}
use borrow.Author.Tests.{le-leb, lt-leb}
use lib.IntN.{ℤ}
use lib.Signed.{mag}
use Rattle.bytecode.specs.Test.{when◌then◌else◌}
use Rattle.std.specs.Prelude.{Some, None}
use Rattle.model.specs.Limits.{largest_integer}
use Rattle.model.specs.Word.{word_of}
use Rattle.model.specs.Arithmetic.{number}

pub in_range : (z : ℤ) → mag z ≤ largest_integer → number z ≡ Some (word_of z)
unfolding number when◌then◌else◌
in_range z h = rw (le-leb (mag z) largest_integer h)

pub out_of_range : (z : ℤ) → largest_integer < mag z → number z ≡ None
unfolding number when◌then◌else◌
out_of_range z h = rw (lt-leb (mag z) largest_integer h)
