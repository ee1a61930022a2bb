use Rattle.sofaduck.proofs.Crossing.{registers_written}
use Rattle.sofaduck.proofs.write_registers.Goals as goal

pub returns : goal.returns
returns c = registers_written c.args.r
