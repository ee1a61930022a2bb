use mathlib.Core.Path.{sym, ap, ◌∙◌, subst}
use native.Mathlib.Omega.{arith}
use Rattle.readers.specs.Header.{flag_of, literals_of}
use Rattle.readers.specs.Places.{Inside}
use Rattle.readers.proofs.HeaderLaws.{count_low, count_extended, count_none}
use Rattle.readers.proofs.Memory.argument_count.Goals as goal

pub returns-then-of-le-LAST_COUNT : goal.returns-then-of-le-LAST_COUNT
returns-then-of-le-LAST_COUNT c = (count_low _ _ (c.flag-of.ensures ∙ ap flag_of c.word_of-header.ensures) c.if-of-le-LAST_COUNT.true, omega arith)

pub word_of-extension-requires : goal.word_of-extension-requires
word_of-extension-requires c =
    let args = c.args in
    let literals = c.literal_count-literals.ensures ∙ ap literals_of c.word_of-header.ensures in
    let flagged = sym (c.flag-of.ensures ∙ ap flag_of c.word_of-header.ensures) ∙ c.if-of-eq-PRIMITIVE.true in
    subst (Inside args.self.now.n args.self.now.b args.self.now.contents.now args.self.now.bodies.now args.m.0) (sym literals) (c.requires.extended flagged)

pub returns-then-of-eq-PRIMITIVE : goal.returns-then-of-eq-PRIMITIVE
returns-then-of-eq-PRIMITIVE c =
    let flags = c.flag-of.ensures ∙ ap flag_of c.word_of-header.ensures in
    let literals = c.literal_count-literals.ensures ∙ ap literals_of c.word_of-header.ensures in
    (count_extended _ _ flags c.if-of-le-LAST_COUNT.false c.if-of-eq-PRIMITIVE.true (c.requires.two (sym flags ∙ c.if-of-eq-PRIMITIVE.true)) literals c.word_of-extension.ensures, omega arith)

pub returns-else-of-eq-PRIMITIVE : goal.returns-else-of-eq-PRIMITIVE
returns-else-of-eq-PRIMITIVE c = (count_none _ _ (c.flag-of.ensures ∙ ap flag_of c.word_of-header.ensures) c.if-of-le-LAST_COUNT.false c.if-of-eq-PRIMITIVE.false, omega arith)
