use Prim.Native.Nat.{◌+◌}
use mathlib.Core.Path.{refl, ◌∙◌}
use native.Mathlib.Omega.{arith}
use Rattle.code.proofs.PassLaws.{going_first, going_on, going_over, codes_stop, lent_again}
use Rattle.code.proofs.codes_fine.Goals as goal

pub loop-k-init : goal.loop-k-init
loop-k-init c = (going_first _ _ _ c.requires.1, refl, refl)

pub code_object-requires : goal.code_object-requires
code_object-requires c = (
  lent_again c.loop-k.invariant.1 c.loop-k.invariant.2 c.requires.0,
  c.loop-k.invariant.0.least,
  c.loop-k-test.true,
  c.loop-k.invariant.0.blank c.loop-k-test.true,
)

pub shape_of-notes-then-not-code_object : goal.shape_of-notes-then-not-code_object
shape_of-notes-then-not-code_object c =
    c.code_object.auto.notes ∙ c.loop-k.invariant.1

pub shape_of-pending-then-not-code_object : goal.shape_of-pending-then-not-code_object
shape_of-pending-then-not-code_object c =
    c.code_object.auto.pending ∙ c.loop-k.invariant.2

pub returns-then-not-code_object : goal.returns-then-not-code_object
returns-then-not-code_object c =
    codes_stop _ _ c.loop-k.k _ _ _ c.loop-k.invariant.0.least c.loop-k-test.true c.code_object.ensures (c.if-not-code_object.true)

pub loop-k-preserved : goal.loop-k-preserved
loop-k-preserved c = (
  going_on _ _ _ c.requires.0.ready.layout c.loop-k.k _ _ _ c.loop-k.invariant.0 c.loop-k-test.true c.code_object.ensures
      (c.if-not-code_object.false),
  c.code_object.auto.notes ∙ c.loop-k.invariant.1,
  c.code_object.auto.pending ∙ c.loop-k.invariant.2,
)

pub shape_of-notes : goal.shape_of-notes
shape_of-notes c = c.loop-k.invariant.1

pub shape_of-pending : goal.shape_of-pending
shape_of-pending c = c.loop-k.invariant.2

pub returns : goal.returns
returns c = going_over _ _ c.loop-k.k _ c.loop-k.invariant.0 c.loop-k-test.false

pub shape_of-notes-else-not-code_object : goal.shape_of-notes-else-not-code_object
shape_of-notes-else-not-code_object c =
    c.code_object.auto.notes ∙ c.loop-k.invariant.1

pub shape_of-pending-else-not-code_object : goal.shape_of-pending-else-not-code_object
shape_of-pending-else-not-code_object c =
    c.code_object.auto.pending ∙ c.loop-k.invariant.2

pub returns-else-not-code_object : goal.returns-else-not-code_object
returns-else-not-code_object c =
    going_over _ _ (c.loop-k.k + 1) _ (going_on _ _ _ c.requires.0.ready.layout c.loop-k.k _ _ _ c.loop-k.invariant.0 c.loop-k-test.true c.code_object.ensures
    (c.if-not-code_object.false)) (omega arith)
