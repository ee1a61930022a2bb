use mathlib.Core.Logic.{inl, inr}
use Rattle.model.specs.Objects.{objects_at}
use Rattle.state.proofs.PartLaws.{none_standing, all_standing}
use Rattle.state.proofs.standing_fine.Goals as goal

pub returns-in-0 : goal.returns-in-0
returns-in-0 c =
    let args = c.args in
    none_standing args.edition (objects_at args.memory.now.n args.memory.now.b args.memory.now.contents.now args.memory.now.bodies.now) args.stack.now args.phase args.top c.in-0.is

pub returns-in_default : goal.returns-in_default
returns-in_default c =
    let args = c.args in
    let rest = c.in_default.in_default-own.rest.1 in
    all_standing args.edition (objects_at args.memory.now.n args.memory.now.b args.memory.now.contents.now args.memory.now.bodies.now) args.stack.now args.phase args.top _
    (λ e. rest (inl e)) (λ e. rest (inr e)) c.frames_fine.ensures
