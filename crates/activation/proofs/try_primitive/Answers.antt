use native.Mathlib.Omega.{arith}
use Rattle.primitives.proofs.Growing.{does_computed, does_none}
use Rattle.activation.proofs.Activations.{arithmetic_range, not_arithmetic, arithmetic_is, arithmetic_other}
use Rattle.activation.proofs.try_primitive.Goals as goal

pub primitive-requires : goal.primitive-requires
primitive-requires c = (
  c.requires,
  not_arithmetic _ _ c.is_arithmetic.ensures
      (c.if-not-is_arithmetic.true),
)

pub returns-then-count-ne1 : goal.returns-then-count-ne1
returns-then-count-ne1 c =
    does_none c.requires.right.1 c.failed.ensures
    (arithmetic_other _ _ _ _ _ _ _ _ (arithmetic_range _ _ c.is_arithmetic.ensures (c.if-not-is_arithmetic.false)) c.if-count-ne1.true)

pub overflow_cast-k : goal.overflow_cast-k
overflow_cast-k c = let r = arithmetic_range c.args.k _ c.is_arithmetic.ensures (c.if-not-is_arithmetic.false) in omega arith

pub returns : goal.returns
returns c =
    does_computed c.compute.result c.requires.right.1 c.computed.ensures
    (arithmetic_is _ _ _ _ _ _ _ _ c.compute.result (arithmetic_range _ _ c.is_arithmetic.ensures
    (c.if-not-is_arithmetic.false)) c.if-count-ne1.false c.compute.ensures)
