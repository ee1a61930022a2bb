use Rattle.activation.specs.Activating.{outcome}
use Rattle.activation.proofs.outcome.Goals as goal

pub returns-in-Some : goal.returns-in-Some
unfolding outcome
returns-in-Some c = rw c.in-Some.is

pub returns-in-None : goal.returns-in-None
unfolding outcome
returns-in-None c = rw c.in-None.is
