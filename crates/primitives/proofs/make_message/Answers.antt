-- The array first, then the message in the objects with it.
use native.Mathlib.Omega.{arith}
use Rattle.model.specs.Objects.{part}
use Rattle.model.proofs.Parts.{length_part}
use Rattle.primitives.proofs.Growing.{stands_message}
use Rattle.primitives.proofs.make_message.Goals as goal

pub append_array-requires : goal.append_array-requires
append_array-requires c = let p = c.requires in (omega arith, omega arith, omega arith, omega arith, p.1)

pub append_message-requires : goal.append_message-requires
append_message-requires c =
    let p = c.requires in
    let k = c.append_array.auto in (omega arith, omega arith, omega arith, omega arith)

pub returns : goal.returns
returns c =
    let a = c.args in
    stands_message a.n a.b a.count a.selector _ _ _ _ _ _ (part a.stack.now a.from a.count) c.requires.0
    (length_part a.stack.now a.from a.count c.requires.1) c.append_array.ensures c.append_message.ensures
