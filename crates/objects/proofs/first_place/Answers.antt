use Rattle.std.proofs.Common.{arith}
use Rattle.objects.proofs.Searches.{passed_stop, passed_all}
use Rattle.objects.proofs.first_place.Goals as goal

pub returns-then-s-bodies : goal.returns-then-s-bodies
returns-then-s-bodies c = passed_stop c.loop-i.i (omega arith) c.loop-i.invariant c.if-s-bodies.true

pub returns : goal.returns
returns c = passed_all c.loop-i.i (omega arith) c.loop-i.invariant (omega arith)
