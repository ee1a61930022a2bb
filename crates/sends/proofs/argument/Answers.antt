use Rattle.sends.proofs.Placing.{argument_none, argument_at}
use Rattle.sends.proofs.argument.Goals as goal

pub returns-else-i-count : goal.returns-else-i-count
returns-else-i-count c = argument_none c.args.stack.now c.args.from c.args.count c.args.i c.if-i-count.false

pub returns-then-i-count : goal.returns-then-i-count
returns-then-i-count c = argument_at c.args.stack.now c.args.from c.args.count c.args.i c.if-i-count.true
