-- How many bytes were read.
use Rattle.std.specs.Prelude.{ℕ, Result, Ok, Err}

abbrev pub bytes_read : {E : Type 0} → Result ℕ E → ℕ
bytes_read (Ok n) = n
bytes_read (Err e) = 0
