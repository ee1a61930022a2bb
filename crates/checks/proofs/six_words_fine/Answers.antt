use mathlib.Core.Bool.{not}
use mathlib.Core.Path.{ap}
use Rattle.checks.proofs.Headers.{header_inside, holds_method, valid_read, class_named, mark_no, receiver_no, chain_no, header_note, note_top, note_below}
use Prim.Native.Nat.{◌+◌}
use native.Mathlib.Omega.{arith}
use Rattle.model.specs.Objects.{objects_at}
use Rattle.objects.proofs.Buffers.{contents_room}
use Rattle.checks.proofs.six_words_fine.Goals as goal
use Rattle.checks.proofs.six_words_fine.Goals.{then-stack-base-ne0-via-then-stack-base-ne0, then-stack-base-ne0-via-else-stack-base-ne0+then-not-is_valid}

-- The tests of the header, one after another.
pub overflow_add-base : goal.overflow_add-base
overflow_add-base c = let h = header_inside c.requires in omega arith

pub offset_bounds-stack-base : goal.offset_bounds-stack-base
offset_bounds-stack-base c = let h = header_inside c.requires in omega arith

pub bounds-stack-base : goal.bounds-stack-base
bounds-stack-base c = let h = header_inside c.requires in omega arith

pub overflow_add-receiver : goal.overflow_add-receiver
overflow_add-receiver c = let h = header_inside c.requires in omega arith

pub offset_bounds-stack-base-2 : goal.offset_bounds-stack-base-2
offset_bounds-stack-base-2 c = let h = header_inside c.requires in omega arith

pub bounds-stack-base-2 : goal.bounds-stack-base-2
bounds-stack-base-2 c = let h = header_inside c.requires in omega arith

pub returns-then-stack-base-ne0 : goal.returns-then-stack-base-ne0
returns-then-stack-base-ne0 c =
    let a = c.args in
    elim c.then-stack-base-ne0.branch [
      | then-stack-base-ne0-via-then-stack-base-ne0 w ↦ mark_no a.edition (objects_at a.memory.now.n a.memory.now.b a.memory.now.contents.now a.memory.now.bodies.now) a.stack.now a.at.0 a.uppermost w.if-stack-base-ne0.true
      | then-stack-base-ne0-via-else-stack-base-ne0+then-not-is_valid w ↦
          receiver_no a.edition (objects_at a.memory.now.n a.memory.now.b a.memory.now.contents.now a.memory.now.bodies.now) a.stack.now a.at.0 a.uppermost w.if-stack-base-ne0.false _ w.is_valid.ensures (ap not w.if-not-is_valid.true)
    ]

pub overflow_add-m : goal.overflow_add-m
overflow_add-m c = let h = header_inside c.requires in omega arith

pub offset_bounds-stack-base-3 : goal.offset_bounds-stack-base-3
offset_bounds-stack-base-3 c = let h = header_inside c.requires in omega arith

pub bounds-stack-base-3 : goal.bounds-stack-base-3
bounds-stack-base-3 c = let h = header_inside c.requires in omega arith

pub home-home-requires : goal.home-home-requires
home-home-requires c = holds_method c.requires

pub class_of-class-requires : goal.class_of-class-requires
class_of-class-requires c =
    let a = c.args in
    (valid_read _ _ _ c.is_valid.ensures (ap not c.if-not-is_valid.false), contents_room a.memory.now.n a.memory.now.b a.memory.now.contents.now a.memory.now.bodies.now c.requires.image.right)

pub in_chain-requires : goal.in_chain-requires
in_chain-requires c =
    let a = c.args in (
      (_, c.requires.image.right),
      class_named c.requires.image.right _ _ _ c.is_valid.ensures (ap not c.if-not-is_valid.false)
          (c.class_of-class.ensures a.memory.now.b a.memory.now.bodies.now),
    )

pub returns-then-not-in_chain : goal.returns-then-not-in_chain
returns-then-not-in_chain c =
    let a = c.args in
    chain_no a.edition (objects_at a.memory.now.n a.memory.now.b a.memory.now.contents.now a.memory.now.bodies.now) a.stack.now a.at.0 a.uppermost c.if-stack-base-ne0.false _
    c.is_valid.ensures (ap not c.if-not-is_valid.false) _ _ c.home-home.ensures (c.class_of-class.ensures a.memory.now.b a.memory.now.bodies.now) _
    c.in_chain.ensures (ap not c.if-not-in_chain.true)

pub overflow_add-p : goal.overflow_add-p
overflow_add-p c = let h = header_inside c.requires in omega arith

pub offset_bounds-stack-base-4 : goal.offset_bounds-stack-base-4
offset_bounds-stack-base-4 c = let h = header_inside c.requires in omega arith

pub bounds-stack-base-4 : goal.bounds-stack-base-4
bounds-stack-base-4 c = let h = header_inside c.requires in omega arith

pub overflow_cast-p : goal.overflow_cast-p
overflow_cast-p c = omega (arith, c.type_inv.stack (c.args.at.0 + 1))

pub note_at-note-requires : goal.note_at-note-requires
note_at-note-requires c =
    (c.requires.image, (holds_method c.requires).kinds)

pub overflow_add-depth : goal.overflow_add-depth
overflow_add-depth c = let h = header_inside c.requires in omega arith

pub offset_bounds-stack-base-5 : goal.offset_bounds-stack-base-5
offset_bounds-stack-base-5 c = let h = header_inside c.requires in omega arith

pub bounds-stack-base-5 : goal.bounds-stack-base-5
bounds-stack-base-5 c = let h = header_inside c.requires
    in omega arith

pub overflow_cast-depth : goal.overflow_cast-depth
overflow_cast-depth c = omega (
  arith,
  c.type_inv.stack
      (c.args.at.0 + 2),
)

pub returns-then-uppermost : goal.returns-then-uppermost
returns-then-uppermost c =
    let a = c.args in
    let o = (objects_at a.memory.now.n a.memory.now.b a.memory.now.contents.now a.memory.now.bodies.now) in
    header_note a.edition o a.stack.now a.at.0 a.uppermost c.if-stack-base-ne0.false _ c.is_valid.ensures (ap not c.if-not-is_valid.false) _ _
    c.home-home.ensures (c.class_of-class.ensures a.memory.now.b a.memory.now.bodies.now) _ c.in_chain.ensures (ap not c.if-not-in_chain.false) _ _
    c.note_at-note.ensures (note_top a.edition o a.stack.now a.at.0 a.uppermost c.if-uppermost.true)

pub returns-else-uppermost : goal.returns-else-uppermost
returns-else-uppermost c =
    let a = c.args in
    let o = (objects_at a.memory.now.n a.memory.now.b a.memory.now.contents.now a.memory.now.bodies.now) in
    header_note a.edition o a.stack.now a.at.0 a.uppermost c.if-stack-base-ne0.false _ c.is_valid.ensures (ap not c.if-not-is_valid.false) _ _
    c.home-home.ensures (c.class_of-class.ensures a.memory.now.b a.memory.now.bodies.now) _ c.in_chain.ensures (ap not c.if-not-in_chain.false) _ _
    c.note_at-note.ensures (note_below a.edition o a.stack.now a.at.0 a.uppermost c.if-uppermost.false)
