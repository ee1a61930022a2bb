use Rattle.std.proofs.lemmas.Result.{err_from_is_err_and}
use Rattle.replay.proofs.Replaying.{declines, start_checks, makes}
use Rattle.plain.specs.Registers.{no_registers}
use Rattle.replay.proofs.replay.Goals as goal

pub returns-in_err-start : goal.returns-in_err-start
returns-in_err-start c =
    let a = c.args in
    let p = err_from_is_err_and c.from_residual.result c.from_residual.ensures.1 in
    let load = c.in_err-start.ensures in
    λ g. rw (p.1, p.2) (declines g a.image.now a.calls.now a.answers.now a.contents.now a.bodies.now a.stack.now a.cache.now _ _ _ _ (load g a.stack.now))

pub play_checked-made-requires : goal.play_checked-made-requires
play_checked-made-requires c =
    let a = c.args in
    let g = no_registers in
    let load = c.in_ok-start.ensures in
    start_checks g a.image.now a.calls.now a.answers.now a.contents.now a.bodies.now a.stack.now a.cache.now _ _ _ _ (load g a.stack.now)

pub returns : goal.returns
returns c =
    let a = c.args in
    let load = c.in_ok-start.ensures in
    λ g. makes g a.image.now a.calls.now a.answers.now a.contents.now a.bodies.now a.stack.now a.cache.now _ _ _ _ (load g a.stack.now) _ _ _
    c.play_checked-made.ensures
