use mathlib.Core.Path.{ap, ◌∙◌}
use Rattle.std.specs.Prelude.{Ok}
use Rattle.machine.proofs.Replying.{noted_done, noted_refused, noted_ran}
use Rattle.machine.proofs.write_reply.Goals as goal

pub returns-in-Ok-Done : goal.returns-in-Ok-Done
returns-in-Ok-Done c =
    let a = c.args in noted_done a.before a.reply a.answers.now _ a.at _ (c.in-Ok-Done.is ∙ ap Ok (rw c.in-Ok-Done.is at c.in-Ok-Done.field-0-is)) c.write_answer.ensures

pub returns-in-Err : goal.returns-in-Err
returns-in-Err c =
    let a = c.args in noted_refused a.before a.reply a.answers.now _ a.at _ _ c.number.ensures c.in-Err.is c.write_answer-in-Err.ensures

pub returns-in-Ok-Ran : goal.returns-in-Ok-Ran
returns-in-Ok-Ran c =
    let a = c.args in noted_ran a.before a.reply a.answers.now _ a.at _ (c.in-Ok-Ran.is ∙ ap Ok (rw c.in-Ok-Ran.is at c.in-Ok-Ran.field-0-is)) c.write_answer-in-Ok-Ran.ensures
