use mathlib.Core.Path.{ap, ◌∙◌}
use Rattle.readers.specs.Header.{flag_of}
use Rattle.activation.proofs.Activations.{holds_method, below_flags}
use Rattle.sends.proofs.acted.Goals as goal

pub header-requires : goal.header-requires
header-requires c =
    holds_method c.requires.0

pub returns-then-flag-lt-ANSWER_SELF : goal.returns-then-flag-lt-ANSWER_SELF
returns-then-flag-lt-ANSWER_SELF c =
    λ arguments p q room s t. below_flags c.requires.0 _ room arguments _ (c.flag.ensures ∙ ap flag_of c.header.ensures) c.if-flag-lt-ANSWER_SELF.true

pub returns : goal.returns
returns c =
    λ arguments p q. c.act.ensures arguments (c.argument-first.ensures ∙ p) (c.argument-second.ensures ∙ q)
