-- `pair_fine` is `pair_fine`.
use Rattle.std.proofs.Common.{rules, tests}
use Prim.Native.Nat.{◌*◌}
use native.Mathlib.Omega.{arith}
use Rattle.model.specs.Limits.{list_kind}
use Rattle.model.specs.Rules.{pair_fine}
use Rattle.bytecode.proofs.TestLaws.{true→T}
use Rattle.readers.proofs.InsideLaws.{word_inside}
use Rattle.rules.proofs.class_rules.pair_fine.Goals as goal

pub overflow_mul-i : goal.overflow_mul-i
overflow_mul-i c =
    let p = c.requires in
    let h = word_inside p.0 list_kind {i = 2 * c.args.i} tt (true→T p.1.0) (omega arith) in
    omega (arith, h.below, p.0.most_words)

pub word_of-s-requires : goal.word_of-s-requires
word_of-s-requires c =
    let p = c.requires in
    word_inside p.0 list_kind tt (true→T p.1.0) (omega arith)

pub overflow_mul-i-2 : goal.overflow_mul-i-2
overflow_mul-i-2 c =
    let p = c.requires in
    let h = word_inside p.0 list_kind {i = 2 * c.args.i} tt (true→T p.1.0) (omega arith) in
    omega (arith, h.below, p.0.most_words)

pub overflow_add-i : goal.overflow_add-i
overflow_add-i c =
    let p = c.requires in
    let h = word_inside p.0 list_kind {i = 2 * c.args.i} tt (true→T p.1.0) (omega arith) in
    omega (arith, h.below, p.0.most_words)

pub word_of-m-requires : goal.word_of-m-requires
word_of-m-requires c =
    let p = c.requires in
    word_inside p.0 list_kind tt (true→T p.1.0) (omega arith)

pub returns-then-is_kind-2 : goal.returns-then-is_kind-2
unfolding pair_fine
returns-then-is_kind-2 c = search (tests, rules)

pub returns-else-is_kind-2 : goal.returns-else-is_kind-2
unfolding pair_fine
returns-else-is_kind-2 c = search (tests, rules)
