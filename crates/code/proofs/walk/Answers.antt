use mathlib.Core.Path.{refl, ◌∙◌}
use native.Mathlib.Omega.{arith}
use lib.ListN.{length-set}
use Rattle.flow.proofs.CodeWalk.{no_code, no_room, walked_none, walked_some, answered_some, answered_none, table_as, cleared_as, static_start, starts}
use Rattle.code.proofs.CodePlace.{blank_list}
use Rattle.code.proofs.walk.Goals as goal

pub returns-then-notes-eq0 : goal.returns-then-notes-eq0
returns-then-notes-eq0 c =
    walked_none (no_code _ _ _ _ _ c.if-notes-eq0.true) (blank_list _ c.requires.blank)

pub returns-then-limit-t : goal.returns-then-limit-t
returns-then-limit-t c =
    walked_none (no_room _ _ _ _ _ c.if-limit-t.true) (blank_list _ c.requires.blank)

pub drain-requires : goal.drain-requires
drain-requires c =
    let a = c.requires.lent in
    let notes = c.args.notes.now in
    let blank = blank_list _ c.requires.blank in record { asked = c.requires.asked; fact = static_start notes a refl; walking_at = starts _ _ _ _ notes c.args.pending.now _ blank (omega (arith, c.if-notes-eq0.false)) a.long a.small (omega (arith, a.shallow)) }

pub shape_of-notes-then-drain : goal.shape_of-notes-then-drain
shape_of-notes-then-drain c =
    c.drain.auto.notes ∙ simp length-set

pub shape_of-pending-then-drain : goal.shape_of-pending-then-drain
shape_of-pending-then-drain c =
    c.drain.auto.pending ∙ simp length-set

pub returns-then-drain : goal.returns-then-drain
returns-then-drain c =
    walked_some (table_as _ _ _ _ _ _ _ c.args.notes.now c.if-limit-t.false refl ∙ answered_some _ _ _ c.if-drain.true c.drain.ensures)

pub shape_of-notes : goal.shape_of-notes
shape_of-notes c =
    c.clear.auto.notes ∙ c.drain.auto.notes ∙ simp length-set

pub shape_of-pending : goal.shape_of-pending
shape_of-pending c =
    c.drain.auto.pending ∙ simp length-set

pub returns : goal.returns
returns c =
    let notes = c.args.notes.now in
    let same = c.drain.auto.notes in
    walked_none (table_as _ _ _ _ _ _ _ notes c.if-limit-t.false refl ∙ answered_none _ _ _ c.if-drain.false c.drain.ensures)
    (cleared_as notes c.drain.new.notes _ _ refl same c.clear.ensures)
