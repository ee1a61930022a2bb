-- One half of a word.
use Prim.Native.Nat.{ℕ, ◌/◌, ◌%◌}
use mathlib.Core.Path.{ap, sym, ◌∙◌}
use borrow.Author.Tests.{eq-eqb, ne_eqb}
use Rattle.bytecode.proofs.Choice.{if_yes, if_no}
use Rattle.model.specs.Primitive.{object_byte}
use Rattle.objects.proofs.byte_of.Goals as goal

pub returns-then-i-eq0 : goal.returns-then-i-eq0
unfolding object_byte
returns-then-i-eq0 c = ap (λ (x : ℕ). x / 256) c.word_of-w.ensures ∙ sym (if_yes _ _ (eq-eqb _ _ c.if-i-eq0.true))

pub returns-else-i-eq0 : goal.returns-else-i-eq0
unfolding object_byte
returns-else-i-eq0 c = ap (λ (x : ℕ). x % 256) c.word_of-w.ensures ∙ sym (if_no _ _ (ne_eqb _ _ c.if-i-eq0.false))
