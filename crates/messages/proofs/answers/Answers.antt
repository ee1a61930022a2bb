use mathlib.Core.Path.{sym, ap, ◌∙◌}
use mathlib.Core.Bool.{Bool, ◌&&◌}
use Prim.Native.Nat.{ℕ}
use borrow.Author.Tests.{eq-eqb, ne_eqb}
use lib.Dec.{eqb}
use Rattle.model.specs.Limits.{primitive_flag}
use Rattle.model.specs.Objects.{objects_at}
use Rattle.model.specs.Method.{flag, primitive_number}
use Rattle.readers.specs.Header.{flag_of}
use Rattle.messages.proofs.answers.Goals as goal

pub header-requires : goal.header-requires
header-requires c =
    c.requires

pub returns-else-flag-eq-PRIMITIVE : goal.returns-else-flag-eq-PRIMITIVE
returns-else-flag-eq-PRIMITIVE c =
    ne_eqb _ _ c.if-flag-eq-PRIMITIVE.false ∙ sym (ap (λ (t : Bool). t && eqb (primitive_number (objects_at c.args.memory.now.n c.args.memory.now.b c.args.memory.now.contents.now c.args.memory.now.bodies.now) c.args.method.0) 110) (ne_eqb (flag (objects_at c.args.memory.now.n c.args.memory.now.b c.args.memory.now.contents.now c.args.memory.now.bodies.now) c.args.method.0) primitive_flag (λ q. c.if-flag-eq-PRIMITIVE.false (c.flag.ensures ∙ ap flag_of c.header.ensures ∙ q))))

pub primitive_number-requires : goal.primitive_number-requires
primitive_number-requires c =
    (c.requires, sym (c.flag.ensures ∙ ap flag_of c.header.ensures) ∙ c.if-flag-eq-PRIMITIVE.true)

pub returns-then-flag-eq-PRIMITIVE : goal.returns-then-flag-eq-PRIMITIVE
returns-then-flag-eq-PRIMITIVE c =
    ap (λ (k : ℕ). eqb k 110) c.primitive_number.ensures ∙ sym (ap (λ (t : Bool). t && eqb (primitive_number (objects_at c.args.memory.now.n c.args.memory.now.b c.args.memory.now.contents.now c.args.memory.now.bodies.now) c.args.method.0) 110) (eq-eqb (flag (objects_at c.args.memory.now.n c.args.memory.now.b c.args.memory.now.contents.now c.args.memory.now.bodies.now) c.args.method.0) primitive_flag (sym (c.flag.ensures ∙ ap flag_of c.header.ensures) ∙ c.if-flag-eq-PRIMITIVE.true)))
