use Rattle.sofaduck.proofs.Crossing.{play_done, play_refused}
use Rattle.sofaduck.proofs.sofaduck_play.Goals as goal

pub returns-in-Ok : goal.returns-in-Ok
returns-in-Ok c =
    let a = c.args in
    play_done a.registers.now a.contents.now a.bodies.now a.stack.now a.cache.now c.read_registers-before.result c.read_registers-before.ensures a.calls.now a.answers.now _ _ _ _ _ a.made.now _ _ c.in-Ok.ensures.0 c.write_registers.ensures

pub returns-in-Err : goal.returns-in-Err
returns-in-Err c =
    let a = c.args in
    play_refused a.registers.now a.contents.now a.bodies.now a.stack.now a.cache.now c.read_registers-before.result c.read_registers-before.ensures a.calls.now a.answers.now _ _ _ _ _ a.made.now _ _ c.number.ensures c.in-Err.ensures.0
