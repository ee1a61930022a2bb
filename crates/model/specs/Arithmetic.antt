-- Primitives 1 to 17, on two words (01, "Plain machine": "Primitives").
use Rattle.std.specs.Prelude.{ℕ, zero, suc, ◌+◌, ◌/◌, ◌^◌, Bool, true, false, ◌&&◌, not, leb, eqb, ℤ, pos, negsuc, neg_ℤ, ◌+ℤ◌, ◌-ℤ◌, ◌*ℤ◌, Option, Some, None}
use Rattle.std.specs.Int.Signed.{lt_z, le_z, quot_z, rem_z, shr_z}
use Rattle.std.specs.Int.Bits.{bit_and, bit_or, bit_xor}
use Rattle.bytecode.specs.Test.{when◌then◌else◌}
use Rattle.model.specs.Word.{is_integer, in_range, word_of, value_of, boolean_word}

-- The quotient rounded down, and the remainder that belongs to it. (The library's `quot_z` rounds toward zero, `rem_z` is its remainder.)
unfoldable pub floor_quotient : ℤ → ℤ → ℤ
floor_quotient (pos a) (pos b) = pos (a / b)
floor_quotient (pos a) (negsuc b) = neg_ℤ (pos ((a + b) / suc b))
floor_quotient (negsuc a) (pos b) = negsuc (a / b)
floor_quotient (negsuc a) (negsuc b) = pos (suc a / suc b)

unfoldable pub floor_remainder : ℤ → ℤ → ℤ
floor_remainder a b = a -ℤ b *ℤ floor_quotient a b

-- n × 2^k rounded down, for a k of either sign
unfoldable pub shifted : ℤ → ℤ → ℤ
shifted n (pos k) = n *ℤ pos (2 ^ k)
shifted n (negsuc k) = shr_z n (2 ^ suc k)

abbrev pub is_zero : ℤ → Bool
is_zero (pos zero) = true
is_zero (pos (suc n)) = false
is_zero (negsuc n) = false

-- A number out of range fails, and so does a zero divisor.
unfoldable pub number : ℤ → Option ℕ
number z = when in_range z then Some (word_of z) else None

abbrev pub truth : Bool → Option ℕ
truth x = Some (boolean_word x)

unfoldable pub divided : ℤ → ℤ → Option ℕ
divided divisor z = when is_zero divisor then None else number z

-- 10 fails on a remainder too.
unfoldable pub exact_quotient : ℤ → ℤ → Option ℕ
exact_quotient a b = when is_zero (rem_z a b) then divided b (quot_z a b) else None

-- The primitive of a number on two integers
unfoldable pub on_integers : ℕ → ℤ → ℤ → Option ℕ
on_integers k a b =
    when eqb k 1 then number (a +ℤ b) else
    when eqb k 2 then number (a -ℤ b) else
    when eqb k 3 then truth (lt_z a b) else
    when eqb k 4 then truth (lt_z b a) else
    when eqb k 5 then truth (le_z a b) else
    when eqb k 6 then truth (le_z b a) else
    when eqb k 7 then truth (le_z a b && le_z b a) else
    when eqb k 8 then truth (not (le_z a b && le_z b a)) else
    when eqb k 9 then number (a *ℤ b) else
    when eqb k 10 then exact_quotient a b else
    when eqb k 11 then divided b (floor_remainder a b) else
    when eqb k 12 then divided b (floor_quotient a b) else
    when eqb k 13 then divided b (quot_z a b) else
    when eqb k 17 then number (shifted a b) else
    None

-- 14 and, 15 or, 16 exclusive or, in two's complement: on the words themselves, whose tags are one
unfoldable pub on_bits : ℕ → ℕ → ℕ → Option ℕ
on_bits k v w = when eqb k 14 then Some (bit_and v w) else when eqb k 15 then Some (bit_or v w) else Some (bit_xor v w + 1)

-- All of them fail on a word that is no integer. Numbers other than 1 to 17 fail.
unfoldable pub arithmetic : ℕ → ℕ → ℕ → Option ℕ
arithmetic k v w =
    when is_integer v && is_integer w
    then (when leb 14 k && leb k 16 then on_bits k v w else on_integers k (value_of v) (value_of w))
    else None
