-- An integer's word as a signed number.
use Rattle.std.specs.Prelude.{ℕ, suc, ◌*◌, ◌≡◌, ℤ, pos, negsuc, Option}
use Rattle.model.specs.Arithmetic.{number}

-- Twice the integer and 1
unfoldable pub tagged : ℤ → ℤ
tagged (pos n) = pos (suc (2 * n))
tagged (negsuc n) = negsuc (2 * n)

-- The number whose signed word this is. Of an even one it says nothing.
abbrev pub Fitted : ℤ → Option ℕ → Type 0
Fitted z r = (a : ℤ) → z ≡ tagged a → r ≡ number a
