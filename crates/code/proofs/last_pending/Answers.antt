use Prim.Native.Nat.{◌-◌}
use lib.ListN.{get_or}
use native.Mathlib.Omega.{arith}
use Rattle.code.proofs.TurnLaws.{last_over, last_at}
use Rattle.code.proofs.last_pending.Goals as goal

pub returns-then-waiting-eq0 : goal.returns-then-waiting-eq0
returns-then-waiting-eq0 c = last_over c.if-waiting-eq0.true

pub overflow_cast-at : goal.overflow_cast-at
overflow_cast-at c = omega (arith, c.type_inv.pending (c.args.waiting - 1))

pub bounds-notes-at : goal.bounds-notes-at
bounds-notes-at c =
    c.requires.inside (omega arith)

pub overflow_cast-depth : goal.overflow_cast-depth
overflow_cast-depth c =
    omega (arith, c.type_inv.notes (get_or c.args.pending.now (c.args.waiting - 1) 0))

pub overflow_sub-depth : goal.overflow_sub-depth
overflow_sub-depth c =
    c.requires.noted (omega arith)

pub returns : goal.returns
returns c =
    last_at (omega arith) (c.requires.noted (omega arith))
