use mathlib.Core.Path.{sym, ◌∙◌}
use native.Mathlib.Omega.{arith}
use Rattle.state.proofs.PartLaws.{header_no, registers_no, notes_room}
use Rattle.machine.specs.State.{registers_of}
use Rattle.machine.proofs.state_fine.Goals as goal

pub returns-then-not-header_fine : goal.returns-then-not-header_fine
returns-then-not-header_fine c =
    header_no (registers_of c.args.registers) _ _ _ _ (sym c.header_fine.ensures ∙ c.if-not-header_fine.true)

pub returns-then-not-registers_fine : goal.returns-then-not-registers_fine
returns-then-not-registers_fine c =
    registers_no (registers_of c.args.registers) _ _ _ _ (sym c.registers_fine.ensures ∙ c.if-not-registers_fine.true)

pub noted-requires : goal.noted-requires
noted-requires c =
    let header = sym c.header_fine.ensures ∙ c.if-not-header_fine.false in
    let registers = sym c.registers_fine.ensures ∙ c.if-not-registers_fine.false in
    record { t = c.requires; first_parts = (record { header = header; registers = registers }, omega (arith, c.if-registers-le2000.true), omega arith) }

pub noted-requires-then-registers-le8000 : goal.noted-requires-then-registers-le8000
noted-requires-then-registers-le8000 c =
    let header = sym c.header_fine.ensures ∙ c.if-not-header_fine.false in
    let registers = sym c.registers_fine.ensures ∙ c.if-not-registers_fine.false in
    record { t = c.requires; first_parts = (record { header = header; registers = registers }, omega (arith, c.if-registers-le8000.true), omega arith) }

pub noted-requires-2 : goal.noted-requires-2
noted-requires-2 c =
    let header = sym c.header_fine.ensures ∙ c.if-not-header_fine.false in
    let registers = sym c.registers_fine.ensures ∙ c.if-not-registers_fine.false in
    record { t = c.requires; first_parts = (record { header = header; registers = registers }, notes_room (registers_of c.args.registers) _ _ c.args.stack.now c.args.cache.now header c.requires, omega arith) }
