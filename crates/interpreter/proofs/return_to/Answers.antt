use native.Mathlib.Omega.{arith}
use Rattle.plain.proofs.RunningLaws.{top_bounds}
use Rattle.plain.proofs.ReturnLaws.{sender_bounds}
use Rattle.frames.proofs.Standing.{sender_holdable}
use Rattle.interpreter.proofs.Returning.{holdable_at, taken_from, end_room, returned}
use Rattle.interpreter.proofs.return_to.Goals as goal

pub sender-sender-requires : goal.sender-sender-requires
sender-sender-requires c =
    let t = top_bounds c.requires.0 in
    let k = sender_bounds c.requires.0 c.requires.1 in
    (omega arith, omega arith, omega arith)

pub hold-active-requires : goal.hold-active-requires
hold-active-requires c =
    holdable_at _ c.sender-sender.ensures (sender_holdable c.requires.0 c.requires.1)

pub offset_bounds-stack-end : goal.offset_bounds-stack-end
offset_bounds-stack-end c =
    let k = end_room c.requires.0 c.requires.1 (taken_from c.sender-sender.ensures c.hold-active.ensures) in
    omega arith

pub bounds-stack-end : goal.bounds-stack-end
bounds-stack-end c =
    (end_room c.requires.0 c.requires.1 (taken_from c.sender-sender.ensures c.hold-active.ensures)).0

pub overflow_add-active : goal.overflow_add-active
overflow_add-active c =
    let k = end_room c.requires.0 c.requires.1 (taken_from c.sender-sender.ensures c.hold-active.ensures) in
    omega arith

pub returns : goal.returns
returns c =
    returned c.requires.0 c.requires.1 (taken_from c.sender-sender.ensures c.hold-active.ensures) _
