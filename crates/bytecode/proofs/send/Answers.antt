-- `send` is `send_of`.
use Rattle.bytecode.specs.Code.{send_of}
use Rattle.bytecode.proofs.Choice.{ranges}
use Rattle.bytecode.proofs.send.Goals as goal

pub returns-then-b-lt208 : goal.returns-then-b-lt208
unfolding send_of
returns-then-b-lt208 c = search ranges

pub returns : goal.returns
unfolding send_of
returns c = search ranges
