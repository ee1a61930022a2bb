use mathlib.Core.Path.{sym, ◌∙◌}
use Rattle.grants.proofs.Resuming.{failed_lengths, again_over, again_failed}
use Rattle.grants.proofs.resume.Goals as goal

pub loop-e-init : goal.loop-e-init
loop-e-init c = λ start receiver selector f. f

pub again-requires : goal.again-requires
again-requires c =
    let w = c.requires in record { start = w.start; receiver = w.receiver; selector = w.selector; run = c.loop-e.invariant w.start w.receiver w.selector w.run }

pub shape_of-contents-in-Over : goal.shape_of-contents-in-Over
shape_of-contents-in-Over c =
    let w = c.requires in let k = failed_lengths (c.loop-e.invariant w.start w.receiver w.selector w.run) in let k₀ = failed_lengths w.run in c.again.auto.contents ∙ k.0 ∙ sym k₀.0

pub shape_of-bodies-in-Over : goal.shape_of-bodies-in-Over
shape_of-bodies-in-Over c =
    let w = c.requires in let k = failed_lengths (c.loop-e.invariant w.start w.receiver w.selector w.run) in let k₀ = failed_lengths w.run in c.again.auto.bodies ∙ k.1 ∙ sym k₀.1

pub shape_of-stack-in-Over : goal.shape_of-stack-in-Over
shape_of-stack-in-Over c =
    let w = c.requires in let k = failed_lengths (c.loop-e.invariant w.start w.receiver w.selector w.run) in let k₀ = failed_lengths w.run in c.again.auto.stack ∙ k.2 ∙ sym k₀.2

pub shape_of-cache-in-Over : goal.shape_of-cache-in-Over
shape_of-cache-in-Over c =
    let w = c.requires in let k = failed_lengths (c.loop-e.invariant w.start w.receiver w.selector w.run) in let k₀ = failed_lengths w.run in c.again.auto.cache ∙ k.3 ∙ sym k₀.3

pub returns-in-Over : goal.returns-in-Over
returns-in-Over c =
    λ start receiver selector f. again_over _ _ _ _ _ _ _ _ _ _ c.again.result (c.again.ensures start receiver selector (c.loop-e.invariant start receiver selector f)) _ c.in-Over.is

pub loop-e-smaller : goal.loop-e-smaller
loop-e-smaller c =
    let w = c.requires in (again_failed _ _ _ _ _ _ _ _ _ _ c.again.result (c.again.ensures w.start w.receiver w.selector (c.loop-e.invariant w.start w.receiver w.selector w.run)) _ c.in-Failed.is).1

pub loop-e-preserved : goal.loop-e-preserved
loop-e-preserved c =
    λ start receiver selector f. (again_failed _ _ _ _ _ _ _ _ _ _ c.again.result (c.again.ensures start receiver selector (c.loop-e.invariant start receiver selector f)) _ c.in-Failed.is).0
