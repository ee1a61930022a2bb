use native.Mathlib.Omega.{arith}
use Rattle.machine.proofs.RunCalls.{runs_12, runs_goes, runs_small, runs_done}
use Rattle.machine.proofs.Registers.run_checked.Goals as goal

pub returns-then-self-ne1 : goal.returns-then-self-ne1
returns-then-self-ne1 c =
    let a = c.args in runs_12 a.self a.contents.now a.bodies.now a.stack.now a.cache.now a.grant c.requires c.if-self-ne1.true

pub run-ended-requires : goal.run-ended-requires
run-ended-requires c =
    let a = c.args in runs_goes a.self a.contents.now a.bodies.now a.stack.now a.cache.now a.grant c.requires c.if-self-ne1.false

pub overflow_cast-result : goal.overflow_cast-result
overflow_cast-result c =
    let a = c.args in let k = runs_small a.self a.contents.now a.bodies.now a.stack.now a.cache.now a.grant c.requires c.if-self-ne1.false _ _ _ _ c.run-ended.result c.run-ended.ensures in omega arith

pub returns : goal.returns
returns c =
    let a = c.args in runs_done a.self a.contents.now a.bodies.now a.stack.now a.cache.now a.grant c.requires c.if-self-ne1.false _ _ _ _ c.run-ended.result c.run-ended.ensures _ _ c.with_sizes-grown.ensures c.with_phase.ensures
