use mathlib.Core.Path.{sym, ap, ◌∙◌}
use Rattle.readers.specs.Header.{flag_of}
use Rattle.activation.proofs.Activations.{below_flags, primitive_led, at_done, put_done}
use Rattle.activation.proofs.act.Goals as goal

pub returns-then-flag-lt-ANSWER_SELF : goal.returns-then-flag-lt-ANSWER_SELF
returns-then-flag-lt-ANSWER_SELF c =
    λ arguments p q room s t. below_flags c.requires _ room arguments _ (c.flag-flag.ensures ∙ ap flag_of c.header.ensures) c.if-flag-lt-ANSWER_SELF.true

pub returns-then-e-eq-AT : goal.returns-then-e-eq-AT
returns-then-e-eq-AT c =
    let e = c.flag-flag.ensures ∙ ap flag_of c.header.ensures in
    λ arguments p q room s t. primitive_led c.requires _ room arguments _ e c.if-flag-eq-PRIMITIVE.true s t _ _ _
    (at_done c.requires _ arguments p q (sym e ∙ c.if-flag-eq-PRIMITIVE.true) _ (sym c.extension-e.ensures ∙ c.if-e-eq-AT.true) c.at.ensures)
    _ c.outcome.ensures

pub returns-then-e-eq-AT_PUT : goal.returns-then-e-eq-AT_PUT
returns-then-e-eq-AT_PUT c =
    let e = c.flag-flag.ensures ∙ ap flag_of c.header.ensures in
    λ arguments p q room s t. primitive_led c.requires _ room arguments _ e c.if-flag-eq-PRIMITIVE.true s t _ _ _
    (put_done c.requires _ arguments p q (sym e ∙ c.if-flag-eq-PRIMITIVE.true) _ _ (sym c.extension-e.ensures ∙ c.if-e-eq-AT_PUT.true) c.at_put.ensures)
    _ c.outcome-then-e-eq-AT_PUT.ensures
