use mathlib.Core.Path.{refl, ◌∙◌}
use native.Mathlib.Omega.{arith}
use Rattle.grants.proofs.Resuming.{failed_resends, failed_small, resent_halted, resent_at, resent_goes, stretched_over, stretched_failed, runs_then, fails_then}
use Rattle.grants.proofs.again.Goals as goal

pub resend-requires : goal.resend-requires
resend-requires c =
    let f = c.requires.run in failed_resends f

pub overflow_cast-result : goal.overflow_cast-result
overflow_cast-result c =
    let f = c.requires.run in let k = failed_small f in omega arith

pub overflow_cast-result-in-Err : goal.overflow_cast-result-in-Err
overflow_cast-result-in-Err c =
    let f = c.requires.run in let k = failed_small f in omega arith

pub overflow_cast-result-in-Err-2 : goal.overflow_cast-result-in-Err-2
overflow_cast-result-in-Err-2 c =
    let f = c.requires.run in let k = failed_small f in omega arith

pub overflow_sub-result : goal.overflow_sub-result
overflow_sub-result c =
    let f = c.requires.run in f.within

pub overflow_sub-rest : goal.overflow_sub-rest
overflow_sub-rest c =
    let f = c.requires.run in let k = f.more in omega arith

pub overflow_add-so_far : goal.overflow_add-so_far
overflow_add-so_far c =
    let w = c.requires in let f = w.run in let l = resent_at f _ _ _ _ c.resend.result (c.resend.ensures w.receiver w.selector) _ c.in-Ok.is _ refl in let few = l.turn.few in let word = c.ranges in omega arith

pub stretch-requires : goal.stretch-requires
stretch-requires c =
    let w = c.requires in let f = w.run in let receiver = w.receiver in let selector = w.selector in resent_goes f _ _ _ _ c.resend.result (c.resend.ensures receiver selector) _ c.in-Ok.is

pub overflow_sub-result-in-Over : goal.overflow_sub-result-in-Over
overflow_sub-result-in-Over c =
    let f = c.requires.run in let most = f.within in omega arith

pub overflow_add-result : goal.overflow_add-result
overflow_add-result c =
    let w = c.requires in let f = w.run in let receiver = w.receiver in let selector = w.selector in let l = resent_at f _ _ _ _ c.resend.result (c.resend.ensures receiver selector) _ c.in-Ok.is _ c.max-high.ensures in let made = (stretched_over _ _ _ _ _ _ _ _ _ c.stretch.result (c.stretch.ensures receiver selector l.turn.checked) _ c.in-Over.is).within in let most = f.within in let word = c.ranges in omega arith

pub overflow_add-result-in-Over : goal.overflow_add-result-in-Over
overflow_add-result-in-Over c =
    let w = c.requires in let f = w.run in let receiver = w.receiver in let selector = w.selector in let l = resent_at f _ _ _ _ c.resend.result (c.resend.ensures receiver selector) _ c.in-Ok.is _ c.max-high.ensures in let over = stretched_over _ _ _ _ _ _ _ _ _ c.stretch.result (c.stretch.ensures receiver selector l.turn.checked) _ c.in-Over.is in let few = l.turn.few in let more = over.few in let made = over.within in let most = f.within in let word = c.ranges in omega arith

pub overflow_add-result-in-Failed : goal.overflow_add-result-in-Failed
overflow_add-result-in-Failed c =
    let w = c.requires in let f = w.run in let receiver = w.receiver in let selector = w.selector in let l = resent_at f _ _ _ _ c.resend.result (c.resend.ensures receiver selector) _ c.in-Ok.is _ c.max-high.ensures in let g = stretched_failed _ _ _ _ _ _ _ _ _ c.stretch.result (c.stretch.ensures receiver selector l.turn.checked) _ c.in-Failed.is in let few = l.turn.few in let more = g.turn.few in let most = f.within in let word = c.ranges in omega arith

pub returns-in-Err : goal.returns-in-Err
returns-in-Err c =
    λ start receiver selector f. rw c.phase.ensures (resent_halted f _ _ _ _ c.resend.result (c.resend.ensures receiver selector) _ c.in-Err.is)

pub shape_of-contents-in-Over : goal.shape_of-contents-in-Over
shape_of-contents-in-Over c =
    c.stretch.auto.contents ∙ c.resend.auto.contents

pub shape_of-bodies-in-Over : goal.shape_of-bodies-in-Over
shape_of-bodies-in-Over c =
    c.stretch.auto.bodies ∙ c.resend.auto.bodies

pub shape_of-stack-in-Over : goal.shape_of-stack-in-Over
shape_of-stack-in-Over c =
    c.stretch.auto.stack ∙ c.resend.auto.stack

pub shape_of-cache-in-Over : goal.shape_of-cache-in-Over
shape_of-cache-in-Over c =
    c.stretch.auto.cache ∙ c.resend.auto.cache

pub returns-in-Over : goal.returns-in-Over
returns-in-Over c =
    λ start receiver selector f. let l = resent_at f _ _ _ _ c.resend.result (c.resend.ensures receiver selector) _ c.in-Ok.is _ c.max-high.ensures in let most = f.within in runs_then l (omega arith) (stretched_over _ _ _ _ _ _ _ _ _ c.stretch.result (c.stretch.ensures receiver selector l.turn.checked) _ c.in-Over.is) _ c.max.ensures

pub shape_of-contents-in-Failed : goal.shape_of-contents-in-Failed
shape_of-contents-in-Failed c =
    c.stretch.auto.contents ∙ c.resend.auto.contents

pub shape_of-bodies-in-Failed : goal.shape_of-bodies-in-Failed
shape_of-bodies-in-Failed c =
    c.stretch.auto.bodies ∙ c.resend.auto.bodies

pub shape_of-stack-in-Failed : goal.shape_of-stack-in-Failed
shape_of-stack-in-Failed c =
    c.stretch.auto.stack ∙ c.resend.auto.stack

pub shape_of-cache-in-Failed : goal.shape_of-cache-in-Failed
shape_of-cache-in-Failed c =
    c.stretch.auto.cache ∙ c.resend.auto.cache

pub returns-in-Failed : goal.returns-in-Failed
returns-in-Failed c =
    λ start receiver selector f. let l = resent_at f _ _ _ _ c.resend.result (c.resend.ensures receiver selector) _ c.in-Ok.is _ c.max-high.ensures in let less = f.more in let most = f.within in let g = stretched_failed _ _ _ _ _ _ _ _ _ c.stretch.result (c.stretch.ensures receiver selector l.turn.checked) _ c.in-Failed.is in let still = g.within in (fails_then l (omega arith) g _ c.max-in-Failed.ensures, omega arith)
