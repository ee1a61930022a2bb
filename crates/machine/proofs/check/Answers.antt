use Rattle.machine.proofs.Answers.{answers-3, buffers-pass, answers-11, answers-yes}
use Rattle.machine.proofs.check.Goals as goal

pub returns-then-not-buffers_fine : goal.returns-then-not-buffers_fine
returns-then-not-buffers_fine c =
    let args = c.args in
    answers-3 args.registers args.contents.now args.bodies.now args.stack.now args.cache.now _ c.buffers_fine.ensures (c.if-not-buffers_fine.true)

pub state_fine-requires : goal.state_fine-requires
state_fine-requires c =
    let args = c.args in
    buffers-pass args.registers args.contents.now args.bodies.now args.stack.now args.cache.now _ c.buffers_fine.ensures (c.if-not-buffers_fine.false)

pub returns-then-not-state_fine : goal.returns-then-not-state_fine
returns-then-not-state_fine c =
    let args = c.args in
    answers-11 args.registers args.contents.now args.bodies.now args.stack.now args.cache.now _
    c.buffers_fine.ensures _ c.state_fine.ensures (c.if-not-buffers_fine.false) (c.if-not-state_fine.true)

pub returns : goal.returns
returns c =
    let args = c.args in
    answers-yes args.registers args.contents.now args.bodies.now args.stack.now args.cache.now _
    c.buffers_fine.ensures _ c.state_fine.ensures (c.if-not-buffers_fine.false) (c.if-not-state_fine.false)
