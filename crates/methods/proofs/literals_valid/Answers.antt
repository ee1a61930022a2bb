use Prim.Native.Nat.{◌+◌}
use mathlib.Core.Path.{sym, ap, ◌∙◌}
use native.Mathlib.Omega.{arith}
use Rattle.model.specs.Word.{is_valid}
use Rattle.model.specs.Objects.{objects_at}
use Rattle.model.specs.Method.{literal}
use Rattle.readers.proofs.Loops.{before_none, before_more, below_all, below_no}
use Rattle.readers.proofs.InsideLaws.{method_inside}
use Rattle.methods.proofs.literals_valid.Goals as goal

pub loop-i-init : goal.loop-i-init
loop-i-init c =
    let args = c.args in
    before_none (λ j. is_valid args.memory.now.n (literal (objects_at args.memory.now.n args.memory.now.b args.memory.now.contents.now args.memory.now.bodies.now) args.m j))

pub overflow_add-i : goal.overflow_add-i
overflow_add-i c =
    let p = c.requires in
    let h = method_inside p.laid {i = 1 + c.args.literals} c.args.literals p.is_method p.holds (omega arith) in
    omega (arith, h.below, p.laid.most_words, c.loop-i-test.true)

pub word_of-w-requires : goal.word_of-w-requires
word_of-w-requires c =
    let p = c.requires in
    method_inside p.laid _ p.is_method p.holds (omega arith)

pub returns-then-not-is_valid : goal.returns-then-not-is_valid
returns-then-not-is_valid c =
    let args = c.args in
    sym (below_no args.literals (λ j. is_valid args.memory.now.n (literal (objects_at args.memory.now.n args.memory.now.b args.memory.now.contents.now args.memory.now.bodies.now) args.m j))
    c.loop-i.i c.loop-i-test.true (ap (is_valid args.memory.now.n) (sym c.word_of-w.ensures)
    ∙ sym c.is_valid.ensures ∙ c.if-not-is_valid.true))

pub loop-i-preserved : goal.loop-i-preserved
loop-i-preserved c =
    let args = c.args in
    before_more (λ j. is_valid args.memory.now.n (literal (objects_at args.memory.now.n args.memory.now.b args.memory.now.contents.now args.memory.now.bodies.now) args.m j))
    c.loop-i.i c.loop-i.invariant (ap (is_valid args.memory.now.n) (sym c.word_of-w.ensures) ∙ sym c.is_valid.ensures
    ∙ c.if-not-is_valid.false)

pub returns : goal.returns
returns c =
    let args = c.args in
    sym (below_all args.literals c.loop-i.i
    (λ j. is_valid args.memory.now.n (literal (objects_at args.memory.now.n args.memory.now.b args.memory.now.contents.now args.memory.now.bodies.now) args.m j)) c.loop-i-test.false c.loop-i.invariant)
