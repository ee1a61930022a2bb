-- One half of a word; the other stays.
use mathlib.Core.Path.{ap, ◌∙◌}
use Rattle.model.specs.Objects.{Objects, at_front}
use Rattle.objects.proofs.Buffers.{byte_high, byte_low}
use Rattle.objects.proofs.store_byte.Goals as goal

pub returns-then-i-eq0 : goal.returns-then-i-eq0
returns-then-i-eq0 c =
    c.store_word.ensures ∙ ap (λ (o : Objects). at_front o.bodies c.args.bodies.now) (byte_high _ _ _ _ _ c.if-i-eq0.true c.word_of-w.ensures)

pub returns-else-i-eq0 : goal.returns-else-i-eq0
returns-else-i-eq0 c =
    c.store_word-else-i-eq0.ensures ∙ ap (λ (o : Objects). at_front o.bodies c.args.bodies.now) (byte_low _ _ _ _ _ c.if-i-eq0.false c.word_of-w.ensures)
