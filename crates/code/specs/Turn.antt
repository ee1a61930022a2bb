-- What the functions of the walk over a method's code promise each other. `t` are the notes, `s` the pending positions, of which the first
-- `waiting` count.
use Rattle.std.specs.Prelude.{ℕ, ◌+◌, ◌-◌, ◌<◌, ◌≤◌, ◌≡◌, Bool, List, length, get_or, Option, None, Some, Result, Ok, Err}
use Rattle.std.proofs.Math.Option.{none, some}
use Rattle.bytecode.specs.declared.Instruction.{Instruction}
use Rattle.model.proofs.Marks.{zeros}
use Rattle.flow.specs.Walk.{Noted, WalkingAt, tableBy}
use Rattle.code.specs.declared.Spot.{Spot}
use Rattle.code.specs.declared.NoTable.{NoTable}

-- the last one is inside, and noted
pub record Queued (t s : List ℕ) (waiting : ℕ) : Type 0 where
  pub long : waiting ≤ length s
  pub inside : 0 < waiting → get_or s (waiting - 1) 0 < length t
  pub noted : 0 < waiting → 0 < get_or t (get_or s (waiting - 1) 0) 0

pub record Last (t s : List ℕ) (waiting : ℕ) (r : Option Spot) : Type 0 where
  pub goes : (x : Spot) → r ≡ Some x → (x.waiting ≡ waiting) × (0 < waiting) × (get_or s (waiting - 1) 0 ≡ x.at) × Noted t x.at x.depth
  pub over : r ≡ None → waiting ≡ 0

-- a turn goes on and uses something up, or says whether there is a table
pub record NextAt (counts words : List ℕ) (size room : ℕ) (more : Instruction → Bool) (t : List ℕ) (waiting : ℕ) (t' s' : List ℕ) (r : Result (Option Spot) NoTable) : Type 0 where
  pub goes : (x : Spot) → r ≡ Ok (Some x) → WalkingAt counts words size room more t' s' x.waiting x.at x.depth × (x.waiting + zeros t' < waiting + zeros t)
  pub over : r ≡ Ok None → tableBy counts words size room more ≡ some t'
  pub never : (e : NoTable) → r ≡ Err e → tableBy counts words size room more ≡ none
