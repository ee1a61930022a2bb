use mathlib.Core.Path.{sym, ap, ◌∙◌}
use mathlib.Core.Bool.{not}
use native.Mathlib.Omega.{arith}
use Prim.Native.Nat.{◌-◌, ◌+◌}
use Rattle.bytecode.proofs.TestLaws.{true→T}
use Rattle.model.specs.Limits.{longest_chain}
use Rattle.model.specs.Objects.{objects_at}
use Rattle.model.specs.Lookup.{ends_within}
use Rattle.model.proofs.ChainLaws.{ends_none}
use Rattle.readers.proofs.InsideLaws.{class_inside}
use Rattle.rules.proofs.ClassLaws.{chain_turn, chain_last_turn}
use Rattle.rules.proofs.class_rules.ends.Goals as goal

pub returns-then-not-is_kind : goal.returns-then-not-is_kind
returns-then-not-is_kind c =
    let a = c.args in
    let o = objects_at a.memory.now.n a.memory.now.b a.memory.now.contents.now a.memory.now.bodies.now in
    sym (c.loop.invariant ∙ ends_none o (longest_chain - c.loop.counter) c.loop.at (sym (c.is_kind.ensures a.memory.now.b a.memory.now.bodies.now) ∙ c.if-not-is_kind.true))

pub word_of-at-requires : goal.word_of-at-requires
word_of-at-requires c =
    let a = c.args in
    class_inside c.requires (true→T (sym (c.is_kind.ensures a.memory.now.b a.memory.now.bodies.now) ∙ c.if-not-is_kind.false)) (omega arith)

pub loop-preserved : goal.loop-preserved
loop-preserved c =
    let a = c.args in
    let o = objects_at a.memory.now.n a.memory.now.b a.memory.now.contents.now a.memory.now.bodies.now in
    let t = c.loop-test.true in
    c.loop.invariant
    ∙ chain_turn o (longest_chain - c.loop.counter) (longest_chain - (c.loop.counter + 1)) c.loop.at (omega arith) (sym (c.is_kind.ensures a.memory.now.b a.memory.now.bodies.now) ∙ c.if-not-is_kind.false)
    ∙ ap (ends_within (longest_chain - (c.loop.counter + 1)) o) (sym c.word_of-at.ensures)

pub returns : goal.returns
returns c =
    let a = c.args in
    let o = objects_at a.memory.now.n a.memory.now.b a.memory.now.contents.now a.memory.now.bodies.now in
    let t = c.loop-test.false in
    ap not (c.is_kind-2.ensures a.memory.now.b a.memory.now.bodies.now) ∙ sym (c.loop.invariant ∙ chain_last_turn o (longest_chain - c.loop.counter) c.loop.at (omega arith))
