use Prim.Native.Nat.{◌/◌}
use mathlib.Core.Path.{sym, ap, ◌∙◌}
use mathlib.Core.Bool.{Bool, ◌&&◌}
use mathlib.Core.List.{[]}
use lib.Dec.{leb}
use Rattle.bytecode.proofs.TestLaws.{true→T}
use Rattle.model.specs.Limits.{fields_kind}
use Rattle.model.specs.Objects.{objects_at, size}
use Rattle.model.specs.Rules.{variable_fine}
use Rattle.model.proofs.ChainLaws as C
use Rattle.methods.proofs.variable_fine.Goals as goal

pub returns-else-is_kind : goal.returns-else-is_kind
unfolding variable_fine
returns-else-is_kind c = λ b bodies. c.if-is_kind.false ∙ sym (ap (λ (x : Bool). x && leb 2
    (size (objects_at c.args.memory.now.n b c.args.memory.now.contents.now bodies) (c.args.w / 2)))
    (sym (c.is_kind.ensures b bodies) ∙ c.if-is_kind.false))

pub size-requires : goal.size-requires
size-requires c =
    let args = c.args in
    let h = C.named (objects_at args.memory.now.n 0 args.memory.now.contents.now []) fields_kind args.w
    (true→T (sym (c.is_kind.ensures 0 []) ∙ c.if-is_kind.true)) in record { entries = c.requires; least = h.least; most = h.most }

pub returns-then-is_kind : goal.returns-then-is_kind
unfolding variable_fine
returns-then-is_kind c =
    let args = c.args in
    λ b bodies. ap (leb 2) c.size.ensures ∙ sym (ap (λ (x : Bool). x && leb 2 (size (objects_at args.memory.now.n b args.memory.now.contents.now bodies) (args.w / 2)))
    (sym (c.is_kind.ensures b bodies) ∙ c.if-is_kind.true))
