-- `extended_fits` is the rule on 128 to 134.
use mathlib.Core.Path.{sym, ◌∙◌}
use native.Mathlib.Omega.{arith}
use Rattle.flow.proofs.InstructionLaws.{extended_128, extended_129, extended_130, extended_131, extended_132, extended_133, extended_134}
use Rattle.flow.proofs.extended_fits.Goals as goal

pub returns-in-128 : goal.returns-in-128
returns-in-128 c = λ f e g. c.push_fits.ensures ∙ sym (extended_128 c.args.limits.now f e g c.in-128.is)

pub returns-in-129 : goal.returns-in-129
returns-in-129 c = λ f e g. c.store_fits.ensures ∙ sym (extended_129 c.args.limits.now f e g c.in-129.is)

pub returns-in-130 : goal.returns-in-130
returns-in-130 c = λ f e g. c.store_fits-in-130.ensures ∙ sym (extended_130 c.args.limits.now f e g c.in-130.is)

pub returns-in-131 : goal.returns-in-131
returns-in-131 c = λ f e g. sym (extended_131 c.args.limits.now f e g c.in-131.is)

pub returns-in-132 : goal.returns-in-132
returns-in-132 c = λ f e g. sym (extended_132 c.args.limits.now f e g c.in-132.is)

pub returns-in-133 : goal.returns-in-133
returns-in-133 c = λ f e g. sym (extended_133 c.args.limits.now f e g c.in-133.is)

pub returns-in_default : goal.returns-in_default
returns-in_default c = λ f e g. sym (extended_134 c.args.limits.now f e g (omega arith))
