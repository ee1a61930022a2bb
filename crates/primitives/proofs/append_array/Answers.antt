-- The arguments are copied, then entered.
use native.Mathlib.Omega.{arith}
use Rattle.model.specs.Objects.{part}
use Rattle.model.proofs.Parts.{length_part}
use Rattle.primitives.proofs.Growing.{does_written, stands_array}
use Rattle.primitives.proofs.append_array.Goals as goal

pub returns : goal.returns
returns c =
    let a = c.args in
    let long = length_part a.stack.now a.from a.count c.requires.4 in
    let l = c.copy.auto.words in
    let r = c.requires.3 in
    stands_array (part a.stack.now a.from a.count) long
    (does_written _ _ _ (part a.stack.now a.from a.count) long r c.copy.ensures (c.append.ensures c.copy.new.words (omega arith)))
