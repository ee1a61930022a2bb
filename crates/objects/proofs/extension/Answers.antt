use Rattle.readers.specs.Header.{literals_of}
use Prim.Native.Nat.{ℕ, ◌-◌}
use mathlib.Core.Path.{ap, ◌∙◌}
use native.Mathlib.Omega.{arith}
use Rattle.model.specs.Objects.{objects_at}
use Rattle.model.specs.Method.{literal}
use Rattle.objects.proofs.Methods.{two_literals}
use Rattle.objects.proofs.extension.Goals as goal

pub overflow_sub-count : goal.overflow_sub-count
overflow_sub-count c = let t = two_literals c.requires.0 c.requires.1 in let k =
    (c.literal_count-count.ensures ∙ ap literals_of c.header.ensures) in omega arith

pub literal-requires : goal.literal-requires
literal-requires c =
    let t = two_literals c.requires.0 c.requires.1 in let k = (c.literal_count-count.ensures ∙ ap literals_of c.header.ensures) in (c.requires.0, omega arith)

pub returns : goal.returns
returns c =
    let args = c.args in
    c.literal.ensures ∙ ap (λ (k : ℕ). literal (objects_at args.memory.now.n args.memory.now.b args.memory.now.contents.now args.memory.now.bodies.now) args.m.0 (k - 2))
    (c.literal_count-count.ensures ∙ ap literals_of c.header.ensures)
