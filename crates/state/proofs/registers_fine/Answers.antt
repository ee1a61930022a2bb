use native.Mathlib.Omega.{arith}
use Rattle.state.proofs.PartLaws.{late_phase, finished_value, other_value}
use Rattle.state.proofs.registers_fine.Goals as goal

pub returns-in-2 : goal.returns-in-2
returns-in-2 c =
    let args = c.args in
    finished_value args.n args.phase args.value _ (omega arith) c.in-2.is c.is_valid.ensures

pub returns-in-0-to-5 : goal.returns-in-0-to-5
returns-in-0-to-5 c = other_value c.args.n c.args.phase c.args.value (omega arith) (λ e. omega arith)

pub returns-in_default : goal.returns-in_default
returns-in_default c = late_phase c.args.n c.args.phase c.args.value (omega arith)
