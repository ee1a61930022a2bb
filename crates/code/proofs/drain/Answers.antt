use Rattle.std.proofs.Common.{Ok}
use mathlib.Core.Path.{refl, sym, ap, ◌∙◌}
use Rattle.flow.specs.Walk.{Answer}
use Rattle.flow.proofs.CodeWalk.{static_again}
use Rattle.code.proofs.drain.Goals as goal

pub loop-next-init : goal.loop-next-init
loop-next-init c =
    (c.requires.fact, c.requires.walking_at, refl, refl)

pub turn-requires : goal.turn-requires
turn-requires c =
    record { asked = c.requires.asked; fact = c.loop-next.invariant.0; walking_at = c.loop-next.invariant.1 }

pub loop-next-smaller : goal.loop-next-smaller
loop-next-smaller c =
    (c.turn.ensures.goes _ (c.in-Ok-Some.is ∙ ap Ok c.in-Ok-Some.field-0-is)).1

pub loop-next-preserved : goal.loop-next-preserved
loop-next-preserved c =
    let kt = c.turn.auto.notes in
    let ks = c.turn.auto.pending in
    (static_again kt ks c.loop-next.invariant.0, rw kt (c.turn.ensures.goes _ (c.in-Ok-Some.is ∙ ap Ok c.in-Ok-Some.field-0-is)).0, kt ∙ c.loop-next.invariant.2, ks ∙ c.loop-next.invariant.3)

pub shape_of-notes-in-Ok-None : goal.shape_of-notes-in-Ok-None
shape_of-notes-in-Ok-None c =
    c.turn.auto.notes ∙ c.loop-next.invariant.2

pub shape_of-pending-in-Ok-None : goal.shape_of-pending-in-Ok-None
shape_of-pending-in-Ok-None c =
    c.turn.auto.pending ∙ c.loop-next.invariant.3

pub returns-in-Ok-None : goal.returns-in-Ok-None
unfolding Answer
returns-in-Ok-None c =
    rw (sym c.loop-next.invariant.2) (c.turn.ensures.over (c.in-Ok-None.is ∙ ap Ok c.in-Ok-None.field-0-is))

pub shape_of-notes-in-Err : goal.shape_of-notes-in-Err
shape_of-notes-in-Err c =
    c.turn.auto.notes ∙ c.loop-next.invariant.2

pub shape_of-pending-in-Err : goal.shape_of-pending-in-Err
shape_of-pending-in-Err c =
    c.turn.auto.pending ∙ c.loop-next.invariant.3

pub returns-in-Err : goal.returns-in-Err
unfolding Answer
returns-in-Err c =
    rw (sym c.loop-next.invariant.2) (c.turn.ensures.never _ c.in-Err.is)
