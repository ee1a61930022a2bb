use Rattle.plain.specs.Flat.{Flat}
use Rattle.plain.specs.FlatCalls.{flat_begin}
use Rattle.sofaduck.proofs.Crossing.{crossed, crossed_refused}
use Rattle.sofaduck.proofs.sofaduck_begin.Goals as goal

pub returns-in-Ok : goal.returns-in-Ok
returns-in-Ok c =
    let a = c.args in
    crossed a.registers.now a.contents.now a.bodies.now a.stack.now a.cache.now c.read_registers-before.result c.read_registers-before.ensures (λ (s : Flat). flat_begin s a.receiver a.selector a.arguments.now) _ _ _ _ _ _ c.in-Ok.ensures c.write_registers.ensures

pub returns-in-Err : goal.returns-in-Err
returns-in-Err c =
    let a = c.args in
    crossed_refused a.registers.now a.contents.now a.bodies.now a.stack.now a.cache.now c.read_registers-before.result c.read_registers-before.ensures (λ (s : Flat). flat_begin s a.receiver a.selector a.arguments.now) _ _ _ _ _ _ c.number.ensures c.in-Err.ensures
