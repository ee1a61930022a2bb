use mathlib.Core.Bool.{not}
use Rattle.checks.proofs.Standing.{end_high, end_short, end_other, end_outside, end_far, end_here}
use mathlib.Core.Path.{sym, ◌∙◌, ap}
use native.Mathlib.Omega.{arith}
use Rattle.bytecode.proofs.TestLaws.{true→T}
use Rattle.model.specs.Objects.{objects_at}
use Rattle.objects.proofs.Buffers.{contents_room}
use Rattle.checks.proofs.frame_end.Goals as goal
use Rattle.checks.proofs.frame_end.Goals.{then-base-via-then-base, then-base-via-else-base+then-stack-base, then-stack-end-via-then-stack-end, then-stack-end-via-else-stack-end+then-end-gt-MOST_STACK_WORDS}

-- Every test that fails says that no frame stands.
pub returns-then-base : goal.returns-then-base
returns-then-base c =
    let a = c.args in
    elim c.then-base.branch [
      | then-base-via-then-base w ↦ end_high (objects_at a.memory.now.n a.memory.now.b a.memory.now.contents.now a.memory.now.bodies.now) a.stack.now a.at.0 (omega arith)
      | then-base-via-else-base+then-stack-base w ↦ end_short (objects_at a.memory.now.n a.memory.now.b a.memory.now.contents.now a.memory.now.bodies.now) a.stack.now a.at.0 (omega arith)
    ]

pub is_kind-requires : goal.is_kind-requires
is_kind-requires c =
    let a = c.args in
    contents_room a.memory.now.n a.memory.now.b a.memory.now.contents.now a.memory.now.bodies.now c.requires.1

pub returns-then-not-is_kind : goal.returns-then-not-is_kind
returns-then-not-is_kind c =
    let a = c.args in
    end_other (objects_at a.memory.now.n a.memory.now.b a.memory.now.contents.now a.memory.now.bodies.now) a.stack.now a.at.0 _ (c.is_kind.ensures a.memory.now.b a.memory.now.bodies.now)
    (ap not c.if-not-is_kind.true)

pub end_of-end-requires : goal.end_of-end-requires
end_of-end-requires c =
    let a = c.args in (
      record { right = c.requires; kinds = true→T (sym (c.is_kind.ensures a.memory.now.b a.memory.now.bodies.now) ∙ c.if-not-is_kind.false) },
      omega arith,
    )

pub returns-then-stack-end : goal.returns-then-stack-end
returns-then-stack-end c =
    let a = c.args in
    elim c.then-stack-end.branch [
      | then-stack-end-via-then-stack-end w ↦ end_outside (objects_at a.memory.now.n a.memory.now.b a.memory.now.contents.now a.memory.now.bodies.now) a.stack.now a.at.0 _ c.end_of-end.ensures.0 w.if-stack-end.true
      | then-stack-end-via-else-stack-end+then-end-gt-MOST_STACK_WORDS w ↦ end_far (objects_at a.memory.now.n a.memory.now.b a.memory.now.contents.now a.memory.now.bodies.now) a.stack.now a.at.0 _ c.end_of-end.ensures.0 w.if-end-gt-MOST_STACK_WORDS.true
    ]

pub returns : goal.returns
returns c =
    let a = c.args in
    end_here (objects_at a.memory.now.n a.memory.now.b a.memory.now.contents.now a.memory.now.bodies.now) a.stack.now a.at.0 _ c.end_of-end.ensures.0 _ (c.is_kind.ensures a.memory.now.b a.memory.now.bodies.now) (ap not c.if-not-is_kind.false) (omega arith) (omega arith)
