use Rattle.sofaduck.proofs.Crossing.{registers_read}
use Rattle.sofaduck.proofs.read_registers.Goals as goal

pub returns : goal.returns
returns c = registers_read c.args.registers.now
