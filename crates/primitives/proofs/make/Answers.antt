-- The body is filled, then entered.
use mathlib.Core.Path.{sym, ◌∙◌}
use native.Mathlib.Omega.{arith}
use lib.ListN.{length-replicate, replicate}
use Rattle.bytecode.proofs.TestLaws.{true→T}
use Rattle.model.specs.Objects.{objects_at}
use Rattle.model.proofs.Facts.{most_words}
use Rattle.model.proofs.AppendLaws.{room_facts}
use Rattle.primitives.specs.Outcomes.{room_of}
use Rattle.primitives.proofs.Growing.{does_none, does_same, does_written, no_room, is_made}
use Rattle.primitives.proofs.make.Goals as goal

pub has_room-requires : goal.has_room-requires
has_room-requires c = let m = most_words c.requires.0.1 in (m, omega arith)

pub returns-then-not-has_room : goal.returns-then-not-has_room
returns-then-not-has_room c =
    let args = c.args in
    does_none c.requires.0.1 c.failed.ensures
    (no_room _ _ _ _ _ _ _ (sym (c.has_room.ensures args.contents.now args.bodies.now) ∙ c.if-not-has_room.true))

pub fill-requires : goal.fill-requires
fill-requires c =
    let args = c.args in
    (room_facts (room_of args.contents.now args.bodies.now) (objects_at args.n args.b args.contents.now args.bodies.now) args.count
    (true→T (sym (c.has_room.ensures args.contents.now args.bodies.now) ∙ c.if-not-has_room.false))).bodies

pub append-requires : goal.append-requires
append-requires c =
    let args = c.args in
    let r = room_facts (room_of args.contents.now args.bodies.now) (objects_at args.n args.b args.contents.now args.bodies.now) args.count
    (true→T (sym (c.has_room.ensures args.contents.now args.bodies.now) ∙ c.if-not-has_room.false)) in
    (r.objects, r.words, r.contents)

pub returns : goal.returns
returns c =
    let args = c.args in
    let t = sym (c.has_room.ensures args.contents.now args.bodies.now) ∙ c.if-not-has_room.false in
    let r = room_facts (room_of args.contents.now args.bodies.now) (objects_at args.n args.b args.contents.now args.bodies.now) args.count (true→T t) in
    let l = c.fill.auto.words in
    does_same (is_made _ _ _ _ _ _ _ t)
    (does_written _ _ _ (replicate args.count args.w) (length-replicate args.count args.w) r.bodies c.fill.ensures
    (c.append.ensures c.fill.new.words (omega arith)))
