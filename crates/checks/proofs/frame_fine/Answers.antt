use mathlib.Core.Bool.{not}
use mathlib.Core.Path.{ap}
use Rattle.checks.proofs.Headers.{header_inside, holds_method, rules_no, words_end, rules_here}
use Prim.Native.Nat.{◌+◌}
use native.Mathlib.Omega.{arith}
use Rattle.model.specs.Objects.{objects_at}
use Rattle.checks.proofs.frame_fine.Goals as goal

pub returns-then-not-six_words_fine : goal.returns-then-not-six_words_fine
returns-then-not-six_words_fine c =
    let a = c.args in
    rules_no a.edition (objects_at a.memory.now.n a.memory.now.b a.memory.now.contents.now a.memory.now.bodies.now) a.stack.now a.at.0 a.uppermost _ c.six_words_fine.ensures (ap not c.if-not-six_words_fine.true)

pub overflow_add-m : goal.overflow_add-m
overflow_add-m c = let h = header_inside c.requires in omega arith

pub offset_bounds-stack-base : goal.offset_bounds-stack-base
offset_bounds-stack-base c = let h = header_inside c.requires in omega arith

pub bounds-stack-base : goal.bounds-stack-base
bounds-stack-base c = let h = header_inside c.requires in omega arith

pub overflow_add-depth : goal.overflow_add-depth
overflow_add-depth c = let h = header_inside c.requires in omega arith

pub offset_bounds-stack-base-2 : goal.offset_bounds-stack-base-2
offset_bounds-stack-base-2 c = let h = header_inside c.requires in omega arith

pub bounds-stack-base-2 : goal.bounds-stack-base-2
bounds-stack-base-2 c = let h = header_inside c.requires in omega arith

pub overflow_cast-depth : goal.overflow_cast-depth
overflow_cast-depth c = omega (arith, c.type_inv.stack (c.args.at.0 + 2))

pub overflow_add-from : goal.overflow_add-from
overflow_add-from c = let h = header_inside c.requires in omega arith

pub header-requires : goal.header-requires
header-requires c = holds_method c.requires

pub overflow_add-end : goal.overflow_add-end
overflow_add-end c =
    let a = c.args in
    let w = words_end a.edition (objects_at a.memory.now.n a.memory.now.b a.memory.now.contents.now a.memory.now.bodies.now) a.stack.now a.at.0 a.uppermost c.requires.frame _
    c.six_words_fine.ensures (ap not c.if-not-six_words_fine.false) _ _ c.header.ensures c.temporary_count.ensures in omega arith

pub overflow_add-end-2 : goal.overflow_add-end-2
overflow_add-end-2 c =
    let a = c.args in
    let w = words_end a.edition (objects_at a.memory.now.n a.memory.now.b a.memory.now.contents.now a.memory.now.bodies.now) a.stack.now a.at.0 a.uppermost c.requires.frame _
    c.six_words_fine.ensures (ap not c.if-not-six_words_fine.false) _ _ c.header.ensures c.temporary_count.ensures in omega arith

pub offset_bounds-stack-from : goal.offset_bounds-stack-from
offset_bounds-stack-from c =
    let h = header_inside c.requires in omega arith

pub slice_bounds-valid_words-end : goal.slice_bounds-valid_words-end
slice_bounds-valid_words-end c =
    let a = c.args in
    let w = words_end a.edition (objects_at a.memory.now.n a.memory.now.b a.memory.now.contents.now a.memory.now.bodies.now) a.stack.now a.at.0 a.uppermost c.requires.frame _
    c.six_words_fine.ensures (ap not c.if-not-six_words_fine.false) _ _ c.header.ensures c.temporary_count.ensures in omega arith

pub returns : goal.returns
returns c =
    let a = c.args in
    rules_here a.edition (objects_at a.memory.now.n a.memory.now.b a.memory.now.contents.now a.memory.now.bodies.now) a.stack.now a.at.0 a.uppermost c.requires.frame _
    c.six_words_fine.ensures (ap not c.if-not-six_words_fine.false) _ _ c.header.ensures c.temporary_count.ensures _
    c.valid_words.ensures
