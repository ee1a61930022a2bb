use Rattle.sofaduck.proofs.Crossing.{save_done, save_refused}
use Rattle.sofaduck.proofs.sofaduck_save.Goals as goal

pub returns-in-Ok : goal.returns-in-Ok
returns-in-Ok c =
    let a = c.args in
    save_done a.registers.now a.contents.now a.bodies.now a.stack.now a.cache.now c.read_registers.result c.read_registers.ensures a.output.now _ a.length.now _ c.in-Ok.ensures

pub returns-in-Err : goal.returns-in-Err
returns-in-Err c =
    let a = c.args in
    save_refused a.registers.now a.contents.now a.bodies.now a.stack.now a.cache.now c.read_registers.result c.read_registers.ensures a.output.now _ a.length.now _ _ c.number.ensures c.in-Err.ensures
