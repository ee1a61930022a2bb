-- `entry_fine` is `entry_fine`.
use Prim.Native.Nat.{ℕ, ◌/◌}
use mathlib.Core.Path.{sym, ap, ap₂, ◌∙◌}
use Rattle.model.specs.Objects.{objects_at, is_kind, class_word, form, field_count}
use Rattle.rules.specs.Shape.{fits_form}
use Rattle.rules.proofs.ClassLaws.{entry_no, entry_yes}
use native.Mathlib.Omega.{arith}
use Rattle.bytecode.proofs.TestLaws.{true→T}
use Rattle.readers.proofs.InsideLaws.{class_inside}
use Rattle.rules.proofs.class_rules.entry_fine.Goals as goal

pub returns-then-not-is_kind : goal.returns-then-not-is_kind
returns-then-not-is_kind c =
    let a = c.args in
    let o = objects_at a.memory.now.n a.memory.now.b a.memory.now.contents.now a.memory.now.bodies.now in
    sym (entry_no a.edition o a.k (ap (is_kind o 2) (sym c.class_word-c.ensures) ∙ sym (c.is_kind.ensures a.memory.now.b a.memory.now.bodies.now) ∙ c.if-not-is_kind.true))

pub word_of-form-requires : goal.word_of-form-requires
word_of-form-requires c =
    let a = c.args in
    let p = c.requires in
    class_inside p.0 (true→T (sym (c.is_kind.ensures a.memory.now.b a.memory.now.bodies.now) ∙ c.if-not-is_kind.false)) (omega arith)

pub word_of-fields-requires : goal.word_of-fields-requires
word_of-fields-requires c =
    let a = c.args in
    let p = c.requires in
    class_inside p.0 (true→T (sym (c.is_kind.ensures a.memory.now.b a.memory.now.bodies.now) ∙ c.if-not-is_kind.false)) (omega arith)

pub returns : goal.returns
returns c =
    let a = c.args in
    let o = objects_at a.memory.now.n a.memory.now.b a.memory.now.contents.now a.memory.now.bodies.now in
    c.fits_form.ensures
    ∙ ap₂ (λ (x y : ℕ). fits_form x y c.kind.result c.size.result) (ap (λ (x : ℕ). x / 2) c.word_of-form.ensures
    ∙ ap (form o) c.class_word-c.ensures) (ap (λ (x : ℕ). x / 2) c.word_of-fields.ensures ∙ ap (field_count o) c.class_word-c.ensures)
    ∙ ap₂ (fits_form (form o (class_word o a.k)) (field_count o (class_word o a.k))) c.kind.ensures c.size.ensures
    ∙ sym (entry_yes a.edition o a.k (ap (is_kind o 2) (sym c.class_word-c.ensures) ∙ sym (c.is_kind.ensures a.memory.now.b a.memory.now.bodies.now) ∙ c.if-not-is_kind.false))
