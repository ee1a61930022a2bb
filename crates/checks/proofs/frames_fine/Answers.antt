use mathlib.Core.Path.{ap}
use mathlib.Core.Bool.{true, not}
use native.Mathlib.Omega.{arith}
use Rattle.model.specs.Objects.{objects_at}
use Rattle.checks.proofs.Standing.{standing}
use Rattle.checks.proofs.Walking.{from_unstood, going_first, going_wrong, going_bottom, going_alone, going_apart, going_down}
use Rattle.checks.proofs.frames_fine.Goals as goal

pub frame_end-requires : goal.frame_end-requires
frame_end-requires c = (_, c.requires.right)

pub loop-base-init : goal.loop-base-init
loop-base-init c =
    let a = c.args in
    going_first a.edition (objects_at a.memory.now.n a.memory.now.b a.memory.now.contents.now a.memory.now.bodies.now) a.stack.now a.top.0 c.in-Some.ensures.stands

pub frame_fine-requires : goal.frame_fine-requires
frame_fine-requires c = record { image = c.requires; frame = c.loop-base.invariant.stands }

pub returns-then-not-frame_fine : goal.returns-then-not-frame_fine
returns-then-not-frame_fine c =
    let a = c.args in
    going_wrong a.edition (objects_at a.memory.now.n a.memory.now.b a.memory.now.contents.now a.memory.now.bodies.now) a.stack.now c.loop-base.invariant _ c.frame_fine.ensures (ap not c.if-not-frame_fine.true)

pub returns-then-base-eq0 : goal.returns-then-base-eq0
returns-then-base-eq0 c =
    let a = c.args in
    rw c.sender-sender.ensures (going_bottom a.edition (objects_at a.memory.now.n a.memory.now.b a.memory.now.contents.now a.memory.now.bodies.now) a.stack.now c.loop-base.invariant _ c.frame_fine.ensures
    (ap not c.if-not-frame_fine.false) c.if-base-eq0.true)

pub sender-sender-requires : goal.sender-sender-requires
sender-sender-requires c =
    let a = c.args in
    let s = (standing (objects_at a.memory.now.n a.memory.now.b a.memory.now.contents.now a.memory.now.bodies.now) a.stack.now c.loop-base.base.0 c.loop-base.invariant.stands).header in
    (omega arith, omega (arith, (standing (objects_at a.memory.now.n a.memory.now.b a.memory.now.contents.now a.memory.now.bodies.now) a.stack.now c.loop-base.base.0 c.loop-base.invariant.stands).low), omega (arith, c.type_inv.stack c.loop-base.base.0))

pub returns-in_default : goal.returns-in_default
returns-in_default c =
    let a = c.args in
    from_unstood a.edition (objects_at a.memory.now.n a.memory.now.b a.memory.now.contents.now a.memory.now.bodies.now) a.stack.now true a.top.0 a.top.0 c.in_default.ensures

pub returns-in_default-frame_end : goal.returns-in_default-frame_end
returns-in_default-frame_end c =
    let a = c.args in
    going_alone a.edition (objects_at a.memory.now.n a.memory.now.b a.memory.now.contents.now a.memory.now.bodies.now) a.stack.now c.loop-base.invariant _ c.frame_fine.ensures (ap not c.if-not-frame_fine.false) c.if-base-eq0.false
    (rw c.sender-sender.ensures at c.in_default-frame_end.ensures)

pub returns-then-end-base : goal.returns-then-end-base
returns-then-end-base c =
    let a = c.args in
    going_apart a.edition (objects_at a.memory.now.n a.memory.now.b a.memory.now.contents.now a.memory.now.bodies.now) a.stack.now c.loop-base.invariant _ c.frame_fine.ensures (ap not c.if-not-frame_fine.false) c.if-base-eq0.false
    (rw c.sender-sender.ensures at c.in-Some-frame_end.ensures) c.if-end-base.true

pub loop-base-preserved : goal.loop-base-preserved
loop-base-preserved c =
    let a = c.args in
    rw c.sender-sender.ensures (going_down a.edition (objects_at a.memory.now.n a.memory.now.b a.memory.now.contents.now a.memory.now.bodies.now) a.stack.now c.loop-base.invariant _ c.frame_fine.ensures (ap not c.if-not-frame_fine.false) c.if-base-eq0.false
    (rw c.sender-sender.ensures at c.in-Some-frame_end.ensures) c.if-end-base.false)
