-- `arithmetic::compute` meets its contract.
use mathlib.Core.Path.{sym, ap₂, ◌∙◌}
use Rattle.model.specs.Arithmetic.{on_integers}
use Rattle.arithmetic.proofs.Values.{value_mag, read_value}
use Rattle.arithmetic.proofs.Dispatch.{receiver_no_integer, argument_no_integer, bitwise, not_bitwise}
use Rattle.arithmetic.proofs.compute.Goals.{then-v-ne1-via-then-v-ne1, then-v-ne1-via-else-v-ne1+then-w-ne1}
use Rattle.arithmetic.proofs.compute.Goals as goal

pub returns-then-v-ne1 : goal.returns-then-v-ne1
returns-then-v-ne1 c =
    elim c.then-v-ne1.branch [
      | then-v-ne1-via-then-v-ne1 w ↦ sym (receiver_no_integer c.args.k c.args.v c.args.w w.if-v-ne1.true)
      | then-v-ne1-via-else-v-ne1+then-w-ne1 w ↦ sym (argument_no_integer c.args.k c.args.v c.args.w w.if-v-ne1.false w.if-w-ne1.true)
    ]

pub returns-then-is_bitwise : goal.returns-then-is_bitwise
returns-then-is_bitwise c =
    c.on_bits.ensures
    ∙ sym
    (bitwise c.args.k c.args.v c.args.w c.if-v-ne1.false c.if-w-ne1.false
    (sym c.is_bitwise.ensures ∙ c.if-is_bitwise.true))

pub on_integers-requires : goal.on_integers-requires
on_integers-requires c =
    rw (read_value c.args.v c.ranges.v.fits c.value.ensures, read_value c.args.w c.ranges.w.fits c.value-else-is_bitwise.ensures)
    (value_mag c.args.v c.ranges.v.fits, value_mag c.args.w c.ranges.w.fits)

pub returns-else-is_bitwise : goal.returns-else-is_bitwise
returns-else-is_bitwise c =
    c.on_integers.ensures
    ∙ ap₂ (on_integers c.args.k)
    (read_value c.args.v c.ranges.v.fits c.value.ensures)
    (read_value c.args.w c.ranges.w.fits c.value-else-is_bitwise.ensures)
    ∙ sym
    (not_bitwise c.args.k c.args.v c.args.w c.if-v-ne1.false c.if-w-ne1.false
    (sym c.is_bitwise.ensures ∙ c.if-is_bitwise.false))
