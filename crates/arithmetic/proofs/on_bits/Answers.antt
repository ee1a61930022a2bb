-- `arithmetic::on_bits` meets its contract.
use Rattle.bytecode.specs.Test.{when◌then◌else◌}
use Rattle.bytecode.proofs.Choice.{ranges}
use Rattle.model.specs.Arithmetic.{on_bits}
use Rattle.arithmetic.proofs.Dispatch.{xor_below}
use Rattle.arithmetic.proofs.on_bits.Goals as goal

pub overflow_add-result : goal.overflow_add-result
overflow_add-result c =
    record { fits = xor_below c.args.v c.args.w c.ranges.v.fits c.ranges.w.fits c.requires.0 c.requires.1 }

pub returns-in-14 : goal.returns-in-14
unfolding on_bits when◌then◌else◌
returns-in-14 c = rw c.in-14.is

pub returns-in-15 : goal.returns-in-15
unfolding on_bits when◌then◌else◌
returns-in-15 c = rw c.in-15.is

pub returns-in_default : goal.returns-in_default
unfolding on_bits
returns-in_default c = search ranges
