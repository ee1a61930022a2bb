-- `decode` is `decode_at` at every position.
use mathlib.Core.Path.{sym, ap, ◌∙◌}
use native.Mathlib.Omega.{arith}
use Rattle.bytecode.specs.Code.{jump_of}
use Rattle.bytecode.proofs.CodeLaws.{length_low, length_middle, length_jump, length_send, is_extended, is_jump, is_send}
use Rattle.bytecode.proofs.DecodeLaws.{decode_outside, cut, decoded}
use Rattle.bytecode.proofs.decode.Goals as goal

pub returns-then-size-at : goal.returns-then-size-at
returns-then-size-at c = sym (decode_outside _ _ _ c.if-size-at.true)

pub returns-then-b-lt128 : goal.returns-then-b-lt128
returns-then-b-lt128 c = c.short.ensures _ ∙ decoded _ _ c.byte-b.ensures _ (omega (arith, length_low _ c.if-b-lt128.true))

pub returns-then-b-ge176 : goal.returns-then-b-ge176
returns-then-b-ge176 c =
    c.send.ensures
    ∙ sym (is_send _ _ c.if-b-ge176.true) ∙ decoded _ _ c.byte-b.ensures _ (omega (arith, length_send _ (omega arith) c.if-b-ge176.true))

pub returns-then-b-lt144 : goal.returns-then-b-lt144
returns-then-b-lt144 c =
    c.pop_or_duplicate.ensures _
    ∙ sym (is_extended _ _ (omega arith) c.if-b-lt144.true) ∙ decoded _ _ c.byte-b.ensures _ (omega (arith, length_middle _ c.if-b-lt135.false (omega arith)))

pub returns-then-b-lt160 : goal.returns-then-b-lt160
returns-then-b-lt160 c =
    c.near.ensures _
    ∙ sym (is_jump _ _ c.if-b-lt144.false (omega arith)) ∙ decoded _ _ c.byte-b.ensures _ (omega (arith, length_middle _ (omega arith) c.if-b-lt160.true))

pub returns-then-size-at-lt2 : goal.returns-then-size-at-lt2
returns-then-size-at-lt2 c =
    cut _ _ c.byte-b.ensures _ (omega (arith, length_jump _ (omega arith) c.if-b-lt160.false (omega arith)))

pub returns : goal.returns
returns c =
    c.far.ensures ∙ ap (jump_of _) c.byte_after.ensures
    ∙ sym (is_jump _ _ (omega arith) (omega arith))
    ∙ decoded _ _ c.byte-b.ensures _ (omega (arith, length_jump _ (omega arith) c.if-b-lt160.false (omega arith)))
