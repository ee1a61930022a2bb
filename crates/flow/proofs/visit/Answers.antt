-- `visit` notes a position and pushes it, or is refused (`Visit`).
use mathlib.Core.Logic.{inl, inr}
use Rattle.flow.proofs.VisitLaws.{visit_fresh, visit_known, visit_stuck, has_room, visited_new, visited_same, clash}
use Rattle.flow.proofs.visit.Goals as goal
use Rattle.flow.proofs.visit.Goals.{then-room-depth-via-then-room-depth, then-room-depth-via-else-room-depth+then-notes-at}

pub returns-then-room-depth : goal.returns-then-room-depth
returns-then-room-depth c =
    elim c.then-room-depth.branch [
      | then-room-depth-via-then-room-depth w ↦ visit_stuck (inl w.if-room-depth.true)
      | then-room-depth-via-else-room-depth+then-notes-at w ↦ visit_stuck (inr (inl w.if-notes-at.true))
    ]

pub bounds-pending-waiting : goal.bounds-pending-waiting
bounds-pending-waiting c = has_room _ _ c.requires c.if-room-depth.false c.if-notes-at.false c.if-old-eq0.true

pub returns-then-old-eq0 : goal.returns-then-old-eq0
returns-then-old-eq0 c = visit_fresh (visited_new _ _ c.requires c.if-room-depth.false c.if-notes-at.false c.if-old-eq0.true)

pub returns-then-old-depth : goal.returns-then-old-depth
returns-then-old-depth c =
    visit_known (visited_same _ _ c.requires c.if-room-depth.false c.if-notes-at.false c.if-old-depth.true)

pub returns : goal.returns
returns c =
    let args = c.args in
    visit_stuck (clash args.room args.notes.now args.at args.depth c.if-old-eq0.false c.if-old-depth.false)
