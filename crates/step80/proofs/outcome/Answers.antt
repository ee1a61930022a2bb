use Rattle.std.proofs.lemmas.Result.{err_from_is_err_and}
use Rattle.step80.proofs.Printed.{of_load, of_begin, of_none, of_run}
use Rattle.step80.proofs.outcome.Goals as goal

pub returns-in_err-loaded : goal.returns-in_err-loaded
returns-in_err-loaded c =
    let a = c.args in
    let p = err_from_is_err_and c.from_residual.result c.from_residual.ensures.1 in
    rw (p.1, p.2) (of_load a.image.now a.contents.now a.bodies.now a.stack.now a.cache.now c.requires _ _ _ _ c.in_err-loaded.ensures)

pub returns-in_err-begun : goal.returns-in_err-begun
returns-in_err-begun c =
    let a = c.args in
    let p = err_from_is_err_and c.from_residual-in_err-begun.result c.from_residual-in_err-begun.ensures.1 in
    rw (p.1, p.2) (of_begin a.image.now a.contents.now a.bodies.now a.stack.now a.cache.now c.requires _ _ _ _ c.in_ok-loaded.ensures _ _ _ _ c.in_err-begun.ensures)

pub returns-then-begun-ne1 : goal.returns-then-begun-ne1
returns-then-begun-ne1 c =
    let a = c.args in
    of_none a.image.now a.contents.now a.bodies.now a.stack.now a.cache.now c.requires _ _ _ _ c.in_ok-loaded.ensures _ _ _ _ c.in_ok-begun.ensures c.if-begun-ne1.true

pub returns : goal.returns
returns c =
    let a = c.args in
    of_run a.image.now a.contents.now a.bodies.now a.stack.now a.cache.now c.requires _ _ _ _ c.in_ok-loaded.ensures _ _ _ _ c.in_ok-begun.ensures c.if-begun-ne1.false c.run.result _ _ _ _ c.run.ensures
