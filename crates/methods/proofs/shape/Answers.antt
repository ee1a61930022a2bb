use Rattle.std.proofs.Common.{rules, tests}
use mathlib.Core.Path.{refl, sym, ap, ◌∙◌}
use native.Mathlib.Omega.{arith}
use borrow.Author.Tests.{lt-leb, le-leb, eq-eqb, ne_eqb}
use Rattle.model.specs.Limits.{method_kind}
use Rattle.model.specs.Objects.{objects_at}
use Rattle.readers.specs.Header.{literals_of}
use Rattle.readers.proofs.InsideLaws.{entry_here, method_inside}
use Rattle.methods.proofs.ShapeLaws.{shape_is}
use Rattle.methods.proofs.shape.Goals as goal

pub size-size-requires : goal.size-size-requires
size-size-requires c = entry_here c.requires.0 method_kind c.args.m c.requires.1

pub returns-then-size-lt4 : goal.returns-then-size-lt4
returns-then-size-lt4 c =
    let args = c.args in
    let o = objects_at args.memory.now.n args.memory.now.b args.memory.now.contents.now args.memory.now.bodies.now in
    sym (shape_is o args.m refl refl c.size-size.ensures refl ∙ simp (lt-leb _ _ c.if-size-lt4.true))

pub word_of-header-requires : goal.word_of-header-requires
word_of-header-requires c =
    let z = c.size-size.ensures in
    method_inside c.requires.0 0 c.requires.1 (omega arith) (omega arith)

pub returns-then-header-ne1 : goal.returns-then-header-ne1
returns-then-header-ne1 c =
    let args = c.args in
    let o = objects_at args.memory.now.n args.memory.now.b args.memory.now.contents.now args.memory.now.bodies.now in
    sym (shape_is o args.m c.word_of-header.ensures refl c.size-size.ensures refl ∙ simp (le-leb _ _ c.if-size-lt4.false, ne_eqb _ _ c.if-header-ne1.true))

pub returns-then-size-literals : goal.returns-then-size-literals
returns-then-size-literals c =
    let args = c.args in
    let o = objects_at args.memory.now.n args.memory.now.b args.memory.now.contents.now args.memory.now.bodies.now in
    let literals = c.literal_count-literals.ensures ∙ ap literals_of c.word_of-header.ensures in
    sym (shape_is o args.m c.word_of-header.ensures literals c.size-size.ensures refl
    ∙ simp (le-leb _ _ c.if-size-lt4.false, eq-eqb _ _ c.if-header-ne1.false, lt-leb _ _ c.if-size-literals.true))

pub word_of-home-requires : goal.word_of-home-requires
word_of-home-requires c =
    let z = c.size-size.ensures in
    method_inside c.requires.0 0 c.requires.1 (omega arith) (omega arith)

pub returns-then-literals_valid : goal.returns-then-literals_valid
returns-then-literals_valid c =
    let a = c.args in
    let o = objects_at a.memory.now.n a.memory.now.b a.memory.now.contents.now a.memory.now.bodies.now in
    let literals = c.literal_count-literals.ensures ∙ ap literals_of c.word_of-header.ensures in
    rw (shape_is o a.m c.word_of-header.ensures literals c.size-size.ensures c.word_of-home.ensures) (search (tests, rules))

pub returns-else-literals_valid : goal.returns-else-literals_valid
returns-else-literals_valid c =
    let a = c.args in
    let o = objects_at a.memory.now.n a.memory.now.b a.memory.now.contents.now a.memory.now.bodies.now in
    let literals = c.literal_count-literals.ensures ∙ ap literals_of c.word_of-header.ensures in
    rw (shape_is o a.m c.word_of-header.ensures literals c.size-size.ensures c.word_of-home.ensures) (search (tests, rules))
