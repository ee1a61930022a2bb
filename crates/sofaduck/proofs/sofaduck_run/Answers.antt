use Rattle.sofaduck.proofs.Crossing.{run_done, run_refused}
use Rattle.sofaduck.proofs.sofaduck_run.Goals as goal

pub returns-in-Ok : goal.returns-in-Ok
returns-in-Ok c =
    let a = c.args in
    run_done a.registers.now a.contents.now a.bodies.now a.stack.now a.cache.now c.read_registers-before.result c.read_registers-before.ensures a.grant _ _ _ _ a.count.now a.reach.now a.dictionaries.now _ _ c.in-Ok.ensures c.write_registers.ensures

pub returns-in-Err : goal.returns-in-Err
returns-in-Err c =
    let a = c.args in
    run_refused a.registers.now a.contents.now a.bodies.now a.stack.now a.cache.now c.read_registers-before.result c.read_registers-before.ensures a.grant _ _ _ _ a.count.now a.reach.now a.dictionaries.now _ _ c.number.ensures c.in-Err.ensures
