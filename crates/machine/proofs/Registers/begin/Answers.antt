use mathlib.Core.Path.{sym}
use Rattle.std.proofs.lemmas.Result.{err_from_is_err_and}
use Rattle.machine.proofs.Beginning.{begins_not}
use Rattle.machine.proofs.Registers.begin.Goals as goal

pub begin_checked-requires : goal.begin_checked-requires
begin_checked-requires c = sym c.in_ok-check.ensures

pub returns-in_err-check : goal.returns-in_err-check
returns-in_err-check c =
    let a = c.args in
    let p = err_from_is_err_and c.from_residual.result c.from_residual.ensures.1 in
    rw (p.1, p.2) (begins_not a.self a.contents.now a.bodies.now a.stack.now a.cache.now a.receiver a.selector a.arguments.now _ c.in_err-check.ensures)
