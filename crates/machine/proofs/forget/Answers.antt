use Rattle.std.proofs.lemmas.Result.{err_from_is_err_and}
use Rattle.machine.specs.State.{registers_of, state}
use Rattle.machine.proofs.Calling.{forget_refused, forget_done}
use Rattle.machine.proofs.forget.Goals as goal

pub returns-in_err-check : goal.returns-in_err-check
returns-in_err-check c =
    let a = c.args in
    let p = err_from_is_err_and c.from_residual.result c.from_residual.ensures.1 in
    rw (p.1, p.2) (forget_refused (state a.registers a.contents.now a.bodies.now a.stack.now a.cache.now) _ c.in_err-check.ensures)

pub returns : goal.returns
returns c =
    let a = c.args in
    forget_done (registers_of a.registers) a.contents.now a.bodies.now a.stack.now a.cache.now _ c.in_ok-check.ensures (c.fill.ensures.after (λ y q. q))
