use mathlib.Core.Path.{ap, ◌∙◌}
use Rattle.std.specs.Prelude.{Ok}
use Rattle.std.proofs.lemmas.Result.{err_from_is_err_and}
use native.Mathlib.Omega.{arith}
use Rattle.machine.proofs.Beginning.{begins_right, begins_12, begins_refused, begins_entered, begins_small, begins_answered}
use Rattle.machine.proofs.Registers.begin_checked.Goals as goal

pub returns-then-self-eq1 : goal.returns-then-self-eq1
returns-then-self-eq1 c =
    let a = c.args in
    begins_12 a.self a.contents.now a.bodies.now a.stack.now a.cache.now a.receiver a.selector a.arguments.now c.requires
    c.if-self-eq1.true

pub begin-requires : goal.begin-requires
begin-requires c =
    let a = c.args in
    begins_right a.self a.contents.now a.bodies.now a.stack.now a.cache.now a.receiver a.selector a.arguments.now c.requires

pub overflow_cast-n : goal.overflow_cast-n
overflow_cast-n c =
    let a = c.args in
    let k = begins_small a.self a.contents.now a.bodies.now a.stack.now a.cache.now a.receiver a.selector a.arguments.now
    c.requires c.if-self-eq1.false _ _ _ c.begin.result c.begin.ensures _ _ _ (c.in_ok-beginning.was ∙ ap Ok c.in-Answered.is) in omega arith

pub overflow_cast-b : goal.overflow_cast-b
overflow_cast-b c =
    let a = c.args in
    let k = begins_small a.self a.contents.now a.bodies.now a.stack.now a.cache.now a.receiver a.selector a.arguments.now
    c.requires c.if-self-eq1.false _ _ _ c.begin.result c.begin.ensures _ _ _ (c.in_ok-beginning.was ∙ ap Ok c.in-Answered.is) in omega arith

pub returns-in-Answered : goal.returns-in-Answered
returns-in-Answered c =
    let a = c.args in
    begins_answered a.self a.contents.now a.bodies.now a.stack.now a.cache.now a.receiver a.selector a.arguments.now
    c.requires c.if-self-eq1.false _ _ _ c.begin.result c.begin.ensures _ _ _ (c.in_ok-beginning.was ∙ ap Ok c.in-Answered.is) _ _
    c.with_sizes-grown.ensures c.with_phase.ensures

pub returns-in-Entered : goal.returns-in-Entered
returns-in-Entered c =
    let a = c.args in
    begins_entered a.self a.contents.now a.bodies.now a.stack.now a.cache.now a.receiver a.selector a.arguments.now
    c.requires c.if-self-eq1.false _ _ _ c.begin.result c.begin.ensures _ c.with_phase-in-Entered.ensures
    (c.in_ok-beginning.was ∙ ap Ok c.in-Entered.is)

pub returns-in_err-beginning : goal.returns-in_err-beginning
returns-in_err-beginning c =
    let a = c.args in
    let p = err_from_is_err_and c.from_residual.result c.from_residual.ensures.1 in
    rw (p.1, p.2) (begins_refused a.self a.contents.now a.bodies.now a.stack.now a.cache.now a.receiver a.selector a.arguments.now
    c.requires c.if-self-eq1.false _ _ _ c.begin.result c.begin.ensures _ c.in_err-beginning.was)
