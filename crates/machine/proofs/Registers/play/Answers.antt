use mathlib.Core.Path.{sym}
use Rattle.std.proofs.lemmas.Result.{err_from_is_err_and}
use Rattle.machine.proofs.Replying.{plays_not, plays_all}
use Rattle.machine.proofs.Registers.play.Goals as goal

pub play_checked-requires : goal.play_checked-requires
play_checked-requires c = sym c.in_ok-check.ensures

pub returns-in_err-check : goal.returns-in_err-check
returns-in_err-check c =
    let a = c.args in
    let p = err_from_is_err_and c.from_residual.result c.from_residual.ensures.1 in
    rw (p.1, p.2) (plays_not a.self a.contents.now a.bodies.now a.stack.now a.cache.now a.calls.now a.answers.now _ c.in_err-check.ensures)

pub returns : goal.returns
returns c =
    let a = c.args in
    plays_all a.self a.contents.now a.bodies.now a.stack.now a.cache.now a.calls.now a.answers.now c.play_checked.result _ _ _ _ _ c.in_ok-check.ensures c.play_checked.ensures
