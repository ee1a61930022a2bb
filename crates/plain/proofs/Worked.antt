-- 01's section "Worked by hand": one statement, proved by computing it.
use Prim.Native.Nat.{ℕ, pred, ◌+◌, ◌*◌}
use mathlib.Core.Path.{◌≡◌, refl}
use mathlib.Core.Bool.{true}
use mathlib.Core.List.{List, [], ◌∷◌}
use mathlib.Core.Option.{Option, some}
use lib.IntN.{pos, negsuc}
use Rattle.std.specs.Prelude.{Some, None}
use Rattle.model.specs.Word.{word_of}
use Rattle.model.specs.Arithmetic.{arithmetic}
use Rattle.model.specs.Depth.{depthTable, successorsAt}
use Rattle.plain.specs.Program.{step80}
use Rattle.plain.specs.Text.{digits, decimal, line_bytes}
use Rattle.plain.proofs.Computing.{computing}
use Rattle.plain.proofs.Images.{add_two}

-- the word of an integer, by its sign and size
abbrev minus : ℕ → ℕ
minus n = word_of (negsuc (pred n))

abbrev plus : ℕ → ℕ
plus n = word_of (pos n)

-- the bytes 163 254, in a small frame without temporaries
abbrev loop_code : List ℕ
loop_code = (163 * 256 + 254) ∷ []

abbrev loop_table : Option (List ℕ)
loop_table = depthTable loop_code 2 0 12 (λ i. true)

pub record Worked : Type 0 where
  pub minus_one : minus 1 ≡ 65535
  pub least : minus 16384 ≡ 32769
  pub sum_fails : arithmetic 1 (plus 16383) (plus 1) ≡ None
  pub quotient_down : arithmetic 12 (minus 7) (plus 2) ≡ Some (minus 4)
  pub remainder : arithmetic 11 (minus 7) (plus 2) ≡ Some (plus 1)
  pub quotient_toward_zero : arithmetic 13 (minus 7) (plus 2) ≡ Some (minus 3)
  pub exact_fails : arithmetic 10 (minus 16384) (minus 1) ≡ None
  pub down_fails : arithmetic 12 (minus 16384) (minus 1) ≡ None
  pub toward_zero_fails : arithmetic 13 (minus 16384) (minus 1) ≡ None
  pub shift_thirteen : arithmetic 17 (plus 1) (plus 13) ≡ Some (plus 8192)
  pub shift_fourteen_fails : arithmetic 17 (plus 1) (plus 14) ≡ None
  pub loop_sound : loop_table ≡ some (1 ∷ 0 ∷ [])
  pub loop_itself : successorsAt loop_code 2 0 ≡ 0 ∷ []
  -- phase 2 count 4 value 85
  pub finishes : line_bytes (step80 (add_two 81)) ≡ 112 ∷ 104 ∷ 97 ∷ 115 ∷ 101 ∷ 32 ∷ 50 ∷ 32 ∷ 99 ∷ 111 ∷ 117 ∷ 110 ∷ 116 ∷ 32 ∷ 52 ∷ 32 ∷ 118 ∷ 97 ∷ 108 ∷ 117 ∷ 101 ∷ 32 ∷ 56 ∷ 53 ∷ 10 ∷ []
  -- phase 3 count 2 value 0
  pub halts : line_bytes (step80 (add_two 32767)) ≡ 112 ∷ 104 ∷ 97 ∷ 115 ∷ 101 ∷ 32 ∷ 51 ∷ 32 ∷ 99 ∷ 111 ∷ 117 ∷ 110 ∷ 116 ∷ 32 ∷ 50 ∷ 32 ∷ 118 ∷ 97 ∷ 108 ∷ 117 ∷ 101 ∷ 32 ∷ 48 ∷ 10 ∷ []
  -- refused 1
  pub empty : line_bytes (step80 []) ≡ 114 ∷ 101 ∷ 102 ∷ 117 ∷ 115 ∷ 101 ∷ 100 ∷ 32 ∷ 49 ∷ 10 ∷ []

pub worked : Worked
unfolding computing add_two digits decimal line_bytes
worked =
    record {
      minus_one = refl;
      least = refl;
      sum_fails = refl;
      quotient_down = refl;
      remainder = refl;
      quotient_toward_zero = refl;
      exact_fails = refl;
      down_fails =
          refl;
      toward_zero_fails = refl;
      shift_thirteen = refl;
      shift_fourteen_fails = refl;
      loop_sound = refl;
      loop_itself = refl;
      finishes = refl;
      halts = refl;
      empty = refl;
    }
