use mathlib.Core.Path.{sym}
use Rattle.plain.specs.FlatCalls.{flat_forget}
use Rattle.sofaduck.proofs.Crossing.{crossed, crossed_refused}
use Rattle.sofaduck.proofs.sofaduck_forget.Goals as goal

pub returns-in-Ok : goal.returns-in-Ok
returns-in-Ok c =
    let a = c.args in
    crossed a.registers.now a.contents.now a.bodies.now a.stack.now a.cache.now c.read_registers.result c.read_registers.ensures flat_forget _ _ _ _ _ _ c.in-Ok.ensures (sym c.read_registers.ensures)

pub returns-in-Err : goal.returns-in-Err
returns-in-Err c =
    let a = c.args in
    crossed_refused a.registers.now a.contents.now a.bodies.now a.stack.now a.cache.now c.read_registers.result c.read_registers.ensures flat_forget _ _ _ _ _ _ c.number.ensures c.in-Err.ensures
