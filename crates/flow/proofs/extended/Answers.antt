-- `extended` examines 128 to 134.
use mathlib.Core.Path.{sym, ◌∙◌}
use native.Mathlib.Omega.{arith}
use Rattle.flow.proofs.StepLaws.{and_no, step_no, step_and}
use Rattle.flow.proofs.InstructionLaws.{extra_small}
use Rattle.flow.proofs.HereLaws.{expand_extended}
use Rattle.flow.proofs.extended.Goals as goal

pub returns-then-not-extended_fits : goal.returns-then-not-extended_fits
returns-then-not-extended_fits c =
    expand_extended (omega arith) c.requires.stands c.requires.le_b.0 c.requires.le_b.1 c.requires.le_b.2
    (step_no (and_no _ (sym (c.extended_fits.ensures _
    c.byte-x.ensures c.byte-y.ensures) ∙ c.if-not-extended_fits.true)))

pub overflow_add-need : goal.overflow_add-need
overflow_add-need c =
    omega (arith, c.extra.ensures, c.need.ensures, extra_small c.args.here.byte c.byte-x.result)

pub returns : goal.returns
returns c =
    expand_extended (omega arith) c.requires.stands c.requires.le_b.0 c.requires.le_b.1 c.requires.le_b.2
    (step_and (sym (c.extended_fits.ensures _ c.byte-x.ensures c.byte-y.ensures)
    ∙ c.if-not-extended_fits.false) (rw (
      c.extra.ensures,
      c.byte-x.ensures,
      c.bytes.ensures,
      c.need.ensures,
      c.leaves.ensures,
    ) at c.onward.ensures))
