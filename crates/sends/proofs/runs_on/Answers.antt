use mathlib.Core.Path.{sym, ap₂, ◌∙◌}
use Prim.Native.Nat.{ℕ}
use Rattle.bytecode.proofs.TestLaws.{T→true}
use Rattle.model.specs.Objects.{objects_at}
use Rattle.model.specs.Lookup.{in_chain}
use Rattle.objects.proofs.Buffers.{contents_room}
use Rattle.sends.proofs.Placing.{class_starts}
use Rattle.sends.proofs.runs_on.Goals as goal

pub returns-then-sure : goal.returns-then-sure
returns-then-sure c = sym (T→true _ (c.requires.homes c.if-sure.true))

pub class_of-class-requires : goal.class_of-class-requires
class_of-class-requires c =
    let args = c.args in
    (c.requires.valid, contents_room args.memory.now.n args.memory.now.b args.memory.now.contents.now args.memory.now.bodies.now c.requires.right.1)

pub in_chain-requires : goal.in_chain-requires
in_chain-requires c =
    (c.requires.right, class_starts c.requires.right.1 _ _ c.requires.valid (c.class_of-class.ensures c.args.memory.now.b c.args.memory.now.bodies.now))

pub returns : goal.returns
returns c =
    let args = c.args in
    c.in_chain.ensures ∙ ap₂ (λ (h k : ℕ). in_chain (objects_at args.memory.now.n args.memory.now.b args.memory.now.contents.now args.memory.now.bodies.now) h k)
    c.home-home.ensures (c.class_of-class.ensures args.memory.now.b args.memory.now.bodies.now)
