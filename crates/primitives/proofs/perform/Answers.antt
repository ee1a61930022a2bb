-- Each number is its primitive; the others fail.
use Prim.Native.Nat.{ℕ}
use Rattle.std.proofs.Common.{ap, ◌∙◌, arith}
use Rattle.model.specs.Objects.{objects_at}
use Rattle.model.specs.Primitive.{answers}
use Rattle.std.specs.Prelude.{Some}
use Rattle.objects.proofs.Buffers.{contents_room}
use Rattle.primitives.proofs.Growing.{does_computed, does_none, does_same}
use Rattle.primitives.proofs.Performing.{does_put, is_60, is_61, is_62, is_70, is_71, is_110, is_111, is_none}
use Rattle.primitives.proofs.perform.Goals as goal

pub returns-in-60 : goal.returns-in-60
returns-in-60 c =
    does_computed _ c.requires.0.right.1 c.computed.ensures
    (c.at.ensures ∙ is_60 _ _ _ _ _ _ _ c.in-60.is)

pub returns-in-61 : goal.returns-in-61
returns-in-61 c =
    does_put _ _ _ c.requires.0.right.1 c.computed-in-61.ensures
    (is_61 _ _ _ _ _ _ _ c.in-61.is) c.at_put.ensures

pub returns-in-62 : goal.returns-in-62
returns-in-62 c =
    does_computed _ c.requires.0.right.1 c.computed-in-62.ensures (c.size_answer.ensures
    ∙ is_62 _ _ _ _ _ _ _ c.in-62.is)

pub returns-in-70 : goal.returns-in-70
returns-in-70 c =
    does_same (is_70 _ _ _ _ _ _ _ c.in-70.is) c.new_object.ensures

pub returns-in-71 : goal.returns-in-71
returns-in-71 c =
    does_same (is_71 _ _ _ _ _ _ _ c.in-71.is) c.new_with.ensures

pub returns-in-110 : goal.returns-in-110
returns-in-110 c =
    let args = c.args in
    does_computed (Some c.boolean_word.result) c.requires.0.right.1 c.computed-in-110.ensures
    (ap (λ (v : ℕ). answers v (objects_at args.n args.b args.contents.now args.bodies.now)) c.boolean_word.ensures
    ∙ is_110 _ _ _ _ _ _ _ c.in-110.is)

pub class_of-requires : goal.class_of-requires
class_of-requires c =
    let args = c.args in
    (c.requires.0.valid, contents_room args.n args.b args.contents.now args.bodies.now c.requires.0.right.1)

pub returns-in-111 : goal.returns-in-111
returns-in-111 c =
    let args = c.args in
    does_computed (Some c.class_of.result.0) c.requires.0.right.1 c.computed-in-111.ensures
    (ap (λ (v : ℕ). answers v (objects_at args.n args.b args.contents.now args.bodies.now)) (c.class_of.ensures args.b args.bodies.now)
    ∙ is_111 _ _ _ _ _ _ _ c.in-111.is)

pub returns-in_default : goal.returns-in_default
returns-in_default c =
    does_none c.requires.0.right.1 c.failed.ensures
    (is_none _ _ _ _ _ _ _ c.requires.1 (λ e. omega arith) (λ e. omega arith) (λ e. omega arith) (λ e. omega arith) (λ e. omega arith) (λ e. omega arith) (λ e. omega arith))
