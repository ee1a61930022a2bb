use mathlib.Core.Path.{refl, ◌∙◌, subst}
use native.Mathlib.Omega.{arith}
use Rattle.model.specs.Limits.{list_kind}
use Rattle.readers.proofs.InsideLaws.{entry_here, class_inside}
use Rattle.methods.specs.Counts.{Turned}
use Rattle.methods.proofs.AskedLaws.{dictionary_kind, pair_asked, class_no, turned_on, class_done}
use Rattle.methods.proofs.count_class.Goals as goal

pub word_of-d-requires : goal.word_of-d-requires
word_of-d-requires c = let p = c.requires in class_inside p.ready.laid p.is_class (omega arith)

pub size-requires : goal.size-requires
size-requires c =
    let p = c.requires in
    entry_here p.ready.laid list_kind c.word_of-d.result (dictionary_kind p.ready c.args.class p.is_class c.word_of-d.ensures)

pub loop-i-init : goal.loop-i-init
loop-i-init c = (refl, c.requires.so_far)

pub count_pair-requires : goal.count_pair-requires
count_pair-requires c =
    pair_asked c.requires c.word_of-d.ensures c.size.ensures c.loop-i.counts c.loop-i.i c.loop-i.invariant.0
    c.loop-i.invariant.1 c.loop-i-test.true

pub shape_of-counts-then-not-count_pair : goal.shape_of-counts-then-not-count_pair
shape_of-counts-then-not-count_pair c = c.count_pair.auto.counts ∙ c.loop-i.invariant.0

pub returns-then-not-count_pair : goal.returns-then-not-count_pair
returns-then-not-count_pair c = class_no _ _ _ _ _ _ _ (subst (Turned _ _ _ _) (c.if-not-count_pair.true) c.count_pair.ensures)

pub loop-i-preserved : goal.loop-i-preserved
loop-i-preserved c =
    (c.count_pair.auto.counts ∙ c.loop-i.invariant.0, turned_on _ _ _ _ _ (c.if-not-count_pair.false) c.count_pair.ensures)

pub shape_of-counts : goal.shape_of-counts
shape_of-counts c = c.loop-i.invariant.0

pub returns : goal.returns
returns c =
    class_done c.requires c.word_of-d.ensures c.size.ensures c.loop-i.counts c.loop-i.i c.loop-i.invariant.1 c.loop-i-test.false
