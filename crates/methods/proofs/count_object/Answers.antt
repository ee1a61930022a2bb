use Prim.Native.Nat.{◌*◌}
use mathlib.Core.Path.{refl, sym, ◌∙◌}
use native.Mathlib.Omega.{arith}
use Rattle.methods.proofs.AskedLaws.{no_class_here, class_here, turned_here}
use Rattle.methods.proofs.count_object.Goals as goal

pub kind-requires : goal.kind-requires
kind-requires c = record { entries = c.requires.ready.laid.entries; least = c.requires.least; most = c.requires.most }

pub returns-then-kind-ne-CLASS : goal.returns-then-kind-ne-CLASS
returns-then-kind-ne-CLASS c =
    no_class_here c.requires (λ e. c.if-kind-ne-CLASS.true (c.kind.ensures ∙ e))

pub overflow_mul-k : goal.overflow_mul-k
overflow_mul-k c = omega (arith, c.requires.most, c.requires.ready.laid.most)

pub overflow_cast-k : goal.overflow_cast-k
overflow_cast-k c = omega (arith, c.requires.most, c.requires.ready.laid.most)

pub count_class-requires : goal.count_class-requires
count_class-requires c =
    let args = c.args in
    class_here c.requires (sym c.kind.ensures ∙ c.if-kind-ne-CLASS.false) (2 * args.k) refl

pub shape_of-counts : goal.shape_of-counts
shape_of-counts c = c.count_class.auto.counts

pub returns : goal.returns
returns c =
    let args = c.args in
    turned_here c.requires (2 * args.k) refl _ _ c.count_class.ensures
