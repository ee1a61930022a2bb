use mathlib.Core.Path.{sym}
use Rattle.std.proofs.lemmas.Result.{err_from_is_err_and}
use Rattle.machine.proofs.RunCalls.{runs_not}
use Rattle.machine.proofs.Registers.run.Goals as goal

pub run_checked-requires : goal.run_checked-requires
run_checked-requires c = sym c.in_ok-check.ensures

pub returns-in_err-check : goal.returns-in_err-check
returns-in_err-check c =
    let a = c.args in
    let p = err_from_is_err_and c.from_residual.result c.from_residual.ensures.1 in
    rw (p.1, p.2) (runs_not a.self a.contents.now a.bodies.now a.stack.now a.cache.now a.grant _ c.in_err-check.ensures)
