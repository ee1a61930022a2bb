use Rattle.sofaduck.proofs.Crossing.{check_done, check_refused}
use Rattle.sofaduck.proofs.sofaduck_check.Goals as goal

pub returns-in-Ok : goal.returns-in-Ok
returns-in-Ok c =
    let a = c.args in
    check_done a.registers.now a.contents.now a.bodies.now a.stack.now a.cache.now c.read_registers.result c.read_registers.ensures _ c.in-Ok.ensures

pub returns-in-Err : goal.returns-in-Err
returns-in-Err c =
    let a = c.args in
    check_refused a.registers.now a.contents.now a.bodies.now a.stack.now a.cache.now c.read_registers.result c.read_registers.ensures _ _ c.number.ensures c.in-Err.ensures
