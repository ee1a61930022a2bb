use mathlib.Core.Path.{ap, ◌∙◌}
use mathlib.Core.Logic.{inl, inr}
use native.Mathlib.Omega.{arith}
use Rattle.model.specs.Objects.{objects_at}
use Rattle.model.specs.Method.{frame_size}
use Rattle.readers.specs.Header.{temporaries_of}
use Rattle.sends.proofs.Placing.{fits_not, fits_over, fits_both}
use Rattle.messages.proofs.frame_at.Goals as goal

pub end_of-end-requires : goal.end_of-end-requires
end_of-end-requires c =
    (c.requires.0, c.requires.1)

pub returns-then-room-end : goal.returns-then-room-end
returns-then-room-end c =
    elim c.then-room-end.either [
      | inl q ↦ fits_not c.args.room c.args.base.0 (frame_size (objects_at c.args.memory.now.n c.args.memory.now.b c.args.memory.now.contents.now c.args.memory.now.bodies.now) c.args.method.0) (let e = c.end_of-end.ensures.0 in omega arith)
      | inr q ↦ fits_over c.args.room c.args.base.0 (frame_size (objects_at c.args.memory.now.n c.args.memory.now.b c.args.memory.now.contents.now c.args.memory.now.bodies.now) c.args.method.0) (let e = c.end_of-end.ensures.0 in let l = q.0 in omega arith) (let e = c.end_of-end.ensures.0 in let l = q.1 in omega arith)
    ]

pub header-requires : goal.header-requires
header-requires c =
    c.requires.0

pub returns : goal.returns
returns c =
    record { holds = c.temporary_count.ensures ∙ ap temporaries_of c.header.ensures; ends = c.end_of-end.ensures.0; fits = fits_both c.args.room c.args.base.0 (frame_size (objects_at c.args.memory.now.n c.args.memory.now.b c.args.memory.now.contents.now c.args.memory.now.bodies.now) c.args.method.0) (let e = c.end_of-end.ensures.0 in let q = c.if-room-end.false in omega arith) (let e = c.end_of-end.ensures.0 in let q = c.if-end-gt-MOST_STACK_WORDS.false in omega arith) }
