use mathlib.Core.Path.{sym, ◌∙◌}
use native.Mathlib.Omega.{arith}
use Rattle.state.proofs.PartLaws.{judged_no, lent, cache_long, rights, all_noted, standing_no, cache_left}
use Rattle.machine.specs.State.{registers_of}
use Rattle.machine.proofs.Answers.{number_err, number_ok}
use Rattle.machine.proofs.noted_fine.Goals as goal

pub judge-requires : goal.judge-requires
judge-requires c =
    let args = c.args in
    (lent (registers_of args.registers) _ _ args.stack.now args.cache.now c.requires.first_parts.0.header c.requires.t, c.requires.first_parts.1, c.requires.first_parts.2)

pub returns-then-is_err : goal.returns-then-is_err
returns-then-is_err c =
    judged_no (registers_of c.args.registers) _ _ _ _ _ _ c.judge.ensures (number_err c.judge.result (sym c.is_err.ensures.value ∙ c.if-is_err.true))

pub standing_fine-requires : goal.standing_fine-requires
standing_fine-requires c =
    let args = c.args in
    let room = c.requires.first_parts.1 in
    all_noted (registers_of args.registers) _ _ args.stack.now args.cache.now c.requires.first_parts.0.header c.requires.t _ _ c.judge.ensures
    (number_ok c.judge.result (sym c.is_err.ensures.value ∙ c.if-is_err.false)) (omega (arith, c.judge.auto.notes))

pub returns-else-standing_fine : goal.returns-else-standing_fine
returns-else-standing_fine c =
    c.if-standing_fine.false
    ∙ standing_no (registers_of c.args.registers) _ _ _ _ c.requires.first_parts.0.header c.requires.t _ _ c.judge.ensures
    (number_ok c.judge.result (sym c.is_err.ensures.value ∙ c.if-is_err.false)) c.requires.first_parts.0.registers (sym c.standing_fine.ensures ∙ c.if-standing_fine.false)

pub cache_fine-requires : goal.cache_fine-requires
cache_fine-requires c =
    let args = c.args in
    let regs = registers_of args.registers in
    let header = c.requires.first_parts.0.header in (
      (_, rights regs _ _ args.stack.now args.cache.now header c.requires.t _ _ c.judge.ensures (number_ok c.judge.result (sym c.is_err.ensures.value ∙ c.if-is_err.false))),
      cache_long regs args.contents.now args.bodies.now args.stack.now args.cache.now header c.requires.t,
    )

pub returns-then-standing_fine : goal.returns-then-standing_fine
returns-then-standing_fine c =
    cache_left (registers_of c.args.registers) _ _ _ _ c.requires.first_parts.0.header c.requires.t _ _ c.judge.ensures
    (number_ok c.judge.result (sym c.is_err.ensures.value ∙ c.if-is_err.false)) c.requires.first_parts.0.registers _
    (sym c.standing_fine.ensures ∙ c.if-standing_fine.true) c.cache_fine.ensures
