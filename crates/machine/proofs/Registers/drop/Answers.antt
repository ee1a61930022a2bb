use mathlib.Core.Path.{◌∙◌}
use Rattle.std.proofs.lemmas.Result.{err_from_is_err_and}
use Rattle.plain.specs.Flat.{flat}
use Rattle.plain.specs.Calls.{done}
use Rattle.plain.specs.FlatCalls.{gives}
use Rattle.machine.specs.State.{registers_of, state}
use Rattle.machine.proofs.Calling.{drop_refused, drop_done}
use Rattle.machine.proofs.Registers.drop.Goals as goal

pub returns-in_err-check : goal.returns-in_err-check
returns-in_err-check c =
    let a = c.args in
    let p = err_from_is_err_and c.from_residual.result c.from_residual.ensures.1 in
    rw (p.1, p.2) (drop_refused (state a.self a.contents.now a.bodies.now a.stack.now a.cache.now) _ c.in_err-check.ensures)

pub returns : goal.returns
returns c =
    let a = c.args in
    (λ i. gives done (flat (c.with_phase.ensures i) a.contents.now a.bodies.now a.stack.now a.cache.now))
    ∙ drop_done (registers_of a.self) a.contents.now a.bodies.now a.stack.now a.cache.now c.in_ok-check.ensures
