use Prim.Native.Nat.{◌+◌, ◌*◌}
use native.Mathlib.Omega.{arith}
use Rattle.checks.proofs.Headers.{note_outside, note_room, note_read}
use Rattle.checks.proofs.note_at.Goals as goal

pub returns-then-code-p : goal.returns-then-code-p
returns-then-code-p c =
    note_outside c.requires.0 _ c.requires.1 _ c.code_of-code.ensures _ c.if-code-p.true

pub overflow_add-result : goal.overflow_add-result
overflow_add-result c =
    let r = note_room c.requires.0 _ c.requires.1 _ c.code_of-code.ensures _ c.if-code-p.false in omega arith

pub bounds-notes-code : goal.bounds-notes-code
bounds-notes-code c =
    let r = note_room c.requires.0 _ c.requires.1 _ c.code_of-code.ensures _ c.if-code-p.false in omega arith

pub overflow_cast-result : goal.overflow_cast-result
overflow_cast-result c =
    omega (arith, c.type_inv.notes (2 * c.code_of-code.result.from + c.args.at.0))

pub returns : goal.returns
returns c =
    note_read c.requires.0 _ c.requires.1 _ c.code_of-code.ensures _ c.if-code-p.false
