use native.Mathlib.Omega.{arith}
use Rattle.std.proofs.lemmas.Result.{err_from_is_err_and}
use Rattle.loads.proofs.Saving.{saves_not, saves_room, saves, saves_short}
use Rattle.loads.proofs.save.Goals as goal

pub returns-then-output-length_of : goal.returns-then-output-length_of
returns-then-output-length_of c =
    let a = c.args in
    saves_short a.registers a.contents.now a.bodies.now a.stack.now a.cache.now a.output.now
    (let e = c.length_of.ensures in let t = c.if-output-length_of.true in omega arith)

pub returns-in_err-check : goal.returns-in_err-check
returns-in_err-check c =
    let a = c.args in
    let p = err_from_is_err_and c.from_residual.result c.from_residual.ensures.1 in
    rw (p.1, p.2) (saves_not a.registers a.contents.now a.bodies.now a.stack.now a.cache.now a.output.now
    (let e = c.length_of.ensures in let t = c.if-output-length_of.false in omega arith) _ c.in_err-check.ensures)

pub write-bytes-requires : goal.write-bytes-requires
write-bytes-requires c =
    let a = c.args in
    let z = saves_room a.registers a.contents.now a.bodies.now a.stack.now a.cache.now a.output.now
    (let e = c.length_of.ensures in let t = c.if-output-length_of.false in omega arith) c.in_ok-check.ensures in
    (z.0, z.1, (let e = c.length_of.ensures in let t = c.if-output-length_of.false in omega arith))

pub returns : goal.returns
returns c =
    let a = c.args in
    saves a.registers a.contents.now a.bodies.now a.stack.now a.cache.now a.output.now
    (let e = c.length_of.ensures in let t = c.if-output-length_of.false in omega arith)
    c.in_ok-check.ensures _ _ c.write-bytes.ensures.0 c.write-bytes.ensures.1
