use Prim.Native.Nat.{ℕ, ◌+◌}
use mathlib.Core.Path.{◌≡◌, refl, sym, ap, ◌∙◌}
use mathlib.Core.List.{List}
use native.Mathlib.Omega.{arith}
use lib.ListN.{length, get_or, set, length-set}
use lib.Seq.{sets}
use Rattle.model.specs.Objects.{part}
use Rattle.words.proofs.Runs.{copied_more, copied_one, copied_two}
use Rattle.words.proofs.copy.Goals as goal

before-loop : (l a : List ℕ) (at from : ℕ) → length l ≡ length (set (set l at (get_or a from 0)) (at + 1) (get_or a (from + 1) 0))
before-loop l a at from = simp length-set

pub returns-then-count-eq0 : goal.returns-then-count-eq0
returns-then-count-eq0 c = let args = c.args in ap (λ (k : ℕ). sets args.words.now args.at (part args.source.now args.from k)) (sym c.if-count-eq0.true)

pub bounds-source-from : goal.bounds-source-from
bounds-source-from c = omega arith

pub bounds-words-at : goal.bounds-words-at
bounds-words-at c = omega arith

pub returns-then-count-eq1 : goal.returns-then-count-eq1
returns-then-count-eq1 c =
    let args = c.args in
    copied_one args.words.now args.source.now args.at args.from (omega arith)
    ∙ ap (λ (k : ℕ). sets args.words.now args.at (part args.source.now args.from k)) (sym c.if-count-eq1.true)

pub overflow_add-words : goal.overflow_add-words
overflow_add-words c = omega arith

pub bounds-source-from-2 : goal.bounds-source-from-2
bounds-source-from-2 c = omega arith

pub overflow_add-words-2 : goal.overflow_add-words-2
overflow_add-words-2 c = omega arith

pub bounds-words-at-2 : goal.bounds-words-at-2
bounds-words-at-2 c = simp length-set (omega arith)

pub loop-i-init : goal.loop-i-init
loop-i-init c = (omega arith, refl, λ l e. e)

pub overflow_add-words-in-loop-i : goal.overflow_add-words-in-loop-i
overflow_add-words-in-loop-i c = omega arith

pub bounds-source-from-in-loop-i : goal.bounds-source-from-in-loop-i
bounds-source-from-in-loop-i c = omega arith

pub overflow_add-words-in-loop-i-2 : goal.overflow_add-words-in-loop-i-2
overflow_add-words-in-loop-i-2 c = omega arith

pub bounds-words-at-in-loop-i : goal.bounds-words-at-in-loop-i
bounds-words-at-in-loop-i c =
    let args = c.args in
    let l = before-loop args.words.now args.source.now args.at args.from in let k = c.loop-i.invariant.1 in omega arith

pub loop-i-preserved : goal.loop-i-preserved
loop-i-preserved c =
    let args = c.args in
    let source = args.source.now in
    let i = c.loop-i.i in (
      omega arith,
      length-set c.loop-i.words (args.at + i) _ ∙ c.loop-i.invariant.1,
      λ l e. ap (λ (x : List ℕ). set x (args.at + i) (get_or source (args.from + i) 0)) (c.loop-i.invariant.2 l e)
          ∙ sym (copied_more l source args.at args.from i (omega arith)),
    )

pub shape_of-words : goal.shape_of-words
shape_of-words c =
    let args = c.args in
    c.loop-i.invariant.1 ∙ sym (before-loop args.words.now args.source.now args.at args.from)

pub returns : goal.returns
returns c =
    let args = c.args in
    let words = args.words.now in
    let source = args.source.now in
    let e : c.loop-i.i ≡ args.count = omega arith in
    c.loop-i.invariant.2 words (copied_two words source args.at args.from (omega arith)) ∙ ap (λ (k : ℕ). sets words args.at (part source args.from k)) e
