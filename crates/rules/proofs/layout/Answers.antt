use mathlib.Core.Path.{sym, ◌∙◌}
use native.Mathlib.Omega.{arith}
use Rattle.bytecode.specs.Test.{all_of}
use Rattle.model.specs.Objects.{objects_at}
use Rattle.model.specs.Rules.{layout_rules}
use Rattle.readers.proofs.Loops.{up_none, up_more}
use Rattle.model.proofs.Facts.{five_least}
use Rattle.rules.proofs.Laid.{start_first, start_next, laid_no, laid_all}
use Prim.Native.Nat.{◌+◌}
use Rattle.rules.proofs.layout.Goals.{else-loop-k-test, then-loop-k-test+else-not-object_layout+else-k-k-end}
use Rattle.rules.proofs.layout.Goals as goal

pub loop-k-init : goal.loop-k-init
loop-k-init c =
    let a = c.args in
    let o = objects_at a.memory.now.n a.memory.now.b a.memory.now.contents.now a.memory.now.bodies.now in
    (sym (start_first o), up_none (λ j. all_of (layout_rules a.edition o j)))

pub object_layout-requires : goal.object_layout-requires
object_layout-requires c =
    let p = c.requires in
    (record { entries = p.entries; least = omega arith; most = c.loop-k-test.true }, (p.words, c.loop-k.invariant.0))

pub returns-then-not-object_layout : goal.returns-then-not-object_layout
returns-then-not-object_layout c =
    let a = c.args in
    let o = objects_at a.memory.now.n a.memory.now.b a.memory.now.contents.now a.memory.now.bodies.now in
    sym (laid_no a.edition o c.loop-k.k (omega arith) c.loop-k-test.true (sym c.object_layout.ensures ∙ c.if-not-object_layout.true))

pub loop-k-preserved : goal.loop-k-preserved
loop-k-preserved c =
    let a = c.args in
    let o = objects_at a.memory.now.n a.memory.now.b a.memory.now.contents.now a.memory.now.bodies.now in (
      c.body_end-from.ensures a.memory.now.b a.memory.now.bodies.now ∙ sym (start_next o c.loop-k.k (omega arith)),
      up_more (λ j. all_of (layout_rules a.edition o j)) c.loop-k.k c.loop-k.invariant.1 (sym c.object_layout.ensures ∙ c.if-not-object_layout.false),
    )

pub returns : goal.returns
returns c =
    let a = c.args in
    let o = objects_at a.memory.now.n a.memory.now.b a.memory.now.contents.now a.memory.now.bodies.now in
    let five = five_least a.edition in
    let least = c.requires.least in
    elim c.loop-k-test.branch [
      | else-loop-k-test w ↦ absurd (omega arith)
      | then-loop-k-test+else-not-object_layout+else-k-k-end w ↦
          rw w.from-is (laid_all a.edition o (c.loop-k.k + 1) w.body_end-from.result (omega arith) (omega arith)
          (w.body_end-from.ensures a.memory.now.b a.memory.now.bodies.now ∙ sym (start_next o c.loop-k.k (omega arith)))
          (up_more (λ j. all_of (layout_rules a.edition o j)) c.loop-k.k c.loop-k.invariant.1 (sym w.object_layout.ensures ∙ w.if-not-object_layout.false)))
    ]
