use mathlib.Core.Path.{◌∙◌}
use Rattle.sofaduck.proofs.Crossing.{load_done, load_refused}
use Rattle.sofaduck.proofs.sofaduck_load.Goals as goal

pub returns-in-Ok : goal.returns-in-Ok
returns-in-Ok c =
    let a = c.args in
    load_done a.image.now a.contents.now a.bodies.now a.cache.now _ _ _ _ _ c.in-Ok.ensures c.write_registers.ensures

pub returns-in-Err : goal.returns-in-Err
returns-in-Err c =
    let a = c.args in
    load_refused a.image.now a.contents.now a.bodies.now a.cache.now _ _ _ _ _ _ c.number.ensures c.in-Err.ensures (c.write_registers-in-Err.ensures ∙ c.no_registers.ensures)
