-- `selector_rises` asks nothing of the first pair.
use Prim.Native.Nat.{◌*◌}
use native.Mathlib.Omega.{arith}
use Rattle.model.specs.Limits.{list_kind}
use Rattle.bytecode.proofs.TestLaws.{true→T}
use Rattle.readers.proofs.InsideLaws.{word_inside}
use Rattle.rules.proofs.class_rules.selector_rises.Goals as goal

pub overflow_mul-i : goal.overflow_mul-i
overflow_mul-i c =
    let p = c.requires in
    let h = word_inside p.0 list_kind {i = 2 * c.args.i} tt (true→T p.1.0) (omega arith) in
    omega (arith, h.below, p.0.most_words)

pub word_of-s-requires : goal.word_of-s-requires
word_of-s-requires c =
    let p = c.requires in
    word_inside p.0 list_kind tt (true→T p.1.0) (omega arith)

pub overflow_mul-i-else-i-eq0 : goal.overflow_mul-i-else-i-eq0
overflow_mul-i-else-i-eq0 c =
    let p = c.requires in
    let h = word_inside p.0 list_kind {i = 2 * c.args.i} tt (true→T p.1.0) (omega arith) in
    omega (arith, h.below, p.0.most_words)

pub word_of-requires : goal.word_of-requires
word_of-requires c =
    let p = c.requires in
    word_inside p.0 list_kind tt (true→T p.1.0) (omega arith)
