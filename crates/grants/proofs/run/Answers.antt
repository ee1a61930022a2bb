use mathlib.Core.Path.{◌∙◌}
use Rattle.grants.proofs.Resuming.{stretched_over, stretched_failed}
use Rattle.grants.proofs.run.Goals as goal

pub resume-requires : goal.resume-requires
resume-requires c =
    let w = c.requires in let receiver = w.receiver in let selector = w.selector in let checks = w.checks in let f = stretched_failed _ _ _ _ _ _ _ _ _ c.stretch.result (c.stretch.ensures receiver selector checks) _ c.in-Failed.is in record { start = _; receiver = receiver; selector = selector; run = f }

pub returns-in-Over : goal.returns-in-Over
returns-in-Over c =
    λ receiver selector checks. stretched_over _ _ _ _ _ _ _ _ _ c.stretch.result (c.stretch.ensures receiver selector checks) _ c.in-Over.is

pub shape_of-contents-in-Failed : goal.shape_of-contents-in-Failed
shape_of-contents-in-Failed c =
    c.resume.auto.contents ∙ c.stretch.auto.contents

pub shape_of-bodies-in-Failed : goal.shape_of-bodies-in-Failed
shape_of-bodies-in-Failed c =
    c.resume.auto.bodies ∙ c.stretch.auto.bodies

pub shape_of-stack-in-Failed : goal.shape_of-stack-in-Failed
shape_of-stack-in-Failed c =
    c.resume.auto.stack ∙ c.stretch.auto.stack

pub shape_of-cache-in-Failed : goal.shape_of-cache-in-Failed
shape_of-cache-in-Failed c =
    c.resume.auto.cache ∙ c.stretch.auto.cache

pub returns-in-Failed : goal.returns-in-Failed
returns-in-Failed c =
    λ receiver selector checks. c.resume.ensures _ receiver selector (stretched_failed _ _ _ _ _ _ _ _ _ c.stretch.result (c.stretch.ensures receiver selector checks) _ c.in-Failed.is)
