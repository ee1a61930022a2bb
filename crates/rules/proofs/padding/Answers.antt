-- `padding` is `padding_fine`: where a half-word is left, it is in the last word.
use Rattle.std.proofs.Common.{rules, tests}
use Rattle.model.specs.Objects.{objects_at}
use Rattle.rules.proofs.Laid.{padding_is}
use Rattle.rules.proofs.padding.Goals as goal

pub returns-then-bytes-eq0 : goal.returns-then-bytes-eq0
returns-then-bytes-eq0 c =
    let a = c.args in
    let o = objects_at a.memory.now.n a.memory.now.b a.memory.now.contents.now a.memory.now.bodies.now in
    rw (padding_is o a.k) (search (tests, rules))

pub returns-else-bytes-eq0 : goal.returns-else-bytes-eq0
returns-else-bytes-eq0 c =
    let a = c.args in
    let o = objects_at a.memory.now.n a.memory.now.b a.memory.now.contents.now a.memory.now.bodies.now in
    rw (padding_is o a.k) (search (tests, rules))
