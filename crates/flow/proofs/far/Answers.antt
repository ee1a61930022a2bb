-- `far` examines the bytes of group 2.
use mathlib.Core.Path.{sym, ◌∙◌}
use native.Mathlib.Omega.{arith}
use Rattle.flow.proofs.InstructionLaws.{far_low, far_high}
use Rattle.flow.proofs.HereLaws.{expand_short}
use Rattle.flow.proofs.far.Goals as goal

pub returns-then-notes-here : goal.returns-then-notes-here
returns-then-notes-here c = expand_short (omega arith) c.requires.stands (rw c.bytes.ensures at c.if-notes-here.true)

pub extended-requires : goal.extended-requires
extended-requires c =
    let x = far_low _ (omega arith) (sym c.requires.stands.entry.group ∙ c.requires.e_value) c.if-here-lt144.true in
    let whole = rw c.bytes.ensures at c.if-notes-here.false in
    record { asks = c.requires.asks; stands = c.requires.stands; le_b = (x.0, x.1, whole) }

pub jump-requires : goal.jump-requires
jump-requires c =
    let high = far_high _ (omega arith) (sym c.requires.stands.entry.group ∙ c.requires.e_value) c.if-here-lt144.false in
    let whole = rw c.bytes.ensures at c.if-notes-here.false in
    record { asks = c.requires.asks; stands = c.requires.stands; le_b = (c.if-here-lt144.false, high, whole) }
