use Prim.Native.Nat.{◌+◌}
use mathlib.Core.Path.{refl, ◌∙◌, subst}
use native.Mathlib.Omega.{arith}
use Rattle.methods.specs.Counts.{Turned}
use Rattle.methods.proofs.HolderLaws.{none_counted, all_counted}
use Rattle.methods.proofs.AskedLaws.{turned_on, held_no}
use Rattle.methods.proofs.count_methods.Goals as goal

pub loop-k-init : goal.loop-k-init
loop-k-init c = (refl, none_counted _ _ c.requires.3)

pub count_object-requires : goal.count_object-requires
count_object-requires c =
    record {
      ready = c.requires.0;
      shaped = c.requires.1;
      least = omega arith;
      most = c.loop-k-test.true;
      long = let h = c.loop-k.invariant.0 in omega (arith, c.requires.2);
      so_far = c.loop-k.invariant.1;
    }

pub shape_of-counts-then-not-count_object : goal.shape_of-counts-then-not-count_object
shape_of-counts-then-not-count_object c = c.count_object.auto.counts ∙ c.loop-k.invariant.0

pub returns-then-not-count_object : goal.returns-then-not-count_object
returns-then-not-count_object c = held_no _ _ _ _ _ (subst (Turned _ _ _ _) (c.if-not-count_object.true) c.count_object.ensures)

pub loop-k-preserved : goal.loop-k-preserved
loop-k-preserved c =
    (c.count_object.auto.counts ∙ c.loop-k.invariant.0, turned_on _ _ _ _ _ (c.if-not-count_object.false) c.count_object.ensures)

pub returns : goal.returns
returns c = all_counted _ _ c.loop-k.k (omega arith) c.loop-k.invariant.1

pub returns-else-not-count_object : goal.returns-else-not-count_object
returns-else-not-count_object c =
    all_counted _ _ (c.loop-k.k + 1) (omega arith) (turned_on _ _ _ _ _ (c.if-not-count_object.false) c.count_object.ensures)
