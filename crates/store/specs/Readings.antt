-- A call that may be refused, by 01's numbers.
use Rattle.std.specs.Prelude.{ℕ, Result, Ok, Err}
use Rattle.model.specs.declared.numbers.Refusal.{Refusal}
use Rattle.model.specs.Numbers as Numbers
use Rattle.model.specs.Image.{Verdict, accepted, refused}

-- 01's number, 0 where the call is not refused
abbrev pub refusal_number : {A : Type 0} → Result A Refusal → ℕ
refusal_number (Ok x) = 0
refusal_number (Err k) = Numbers.number_of k

-- accepted, or refused by 01's number
abbrev pub verdict_by : {A : Type 0} → Result A Refusal → Verdict
verdict_by (Ok x) = accepted
verdict_by (Err k) = refused (Numbers.number_of k)
