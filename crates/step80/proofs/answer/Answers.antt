use mathlib.Core.Path.{ap, ◌∙◌}
use Rattle.plain.specs.Program.{refusal}
use Rattle.step80.proofs.Printed.{printed}
use Rattle.step80.proofs.answer.Goals as goal

pub outcome-requires : goal.outcome-requires
outcome-requires c = let p = c.requires in (p.0, p.1, p.2, p.3)

pub returns-in-Ok : goal.returns-in-Ok
returns-in-Ok c =
    let a = c.args in
    let q = printed a.image.now a.out.now _ c.write_run.result _ c.in-Ok.ensures c.write_run.ensures in
    record { prefix_len = q.0; value = q.1 }

pub returns-in-Err : goal.returns-in-Err
returns-in-Err c =
    let a = c.args in
    let q = printed a.image.now a.out.now _ c.write_refusal.result _ (ap refusal c.number.ensures ∙ c.in-Err.ensures) c.write_refusal.ensures in
    record { prefix_len = q.0; value = q.1 }
