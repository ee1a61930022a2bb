use native.Mathlib.Omega.{arith}
use Rattle.interpreter.proofs.Advancing.{went_on, leaves_halt, halted, leaves_return, finishes, return_runs, returned_below, sent_low, can_send, answers, enters, leaves_stopped, stops, leaves_missed, misses}
use mathlib.Core.Path.{◌∙◌}
use Rattle.interpreter.proofs.advance.Goals as goal

pub step-requires : goal.step-requires
step-requires c =
    c.requires.0

pub send-requires : goal.send-requires
send-requires c =
    can_send c.requires.0 c.step.new.bodies c.step.new.stack c.step.result c.step.ensures _ c.in-Send.is _ c.requires.1

pub overflow_sub-result : goal.overflow_sub-result
overflow_sub-result c =
    sent_low c.requires.0 c.step.new.bodies c.step.new.stack c.step.result c.step.ensures _ c.in-Send.is

pub leave-requires : goal.leave-requires
leave-requires c =
    leaves_stopped c.requires.0 c.step.new.bodies c.step.new.stack c.step.result c.step.ensures _ c.in-Send.is c.args.edition c.args.cache.now c.send.new.contents c.send.new.bodies c.send.new.stack c.send.new.cache c.send.result c.send.ensures c.in-Full.is

pub leave-requires-in-Failed : goal.leave-requires-in-Failed
leave-requires-in-Failed c =
    leaves_missed c.requires.0 c.step.new.bodies c.step.new.stack c.step.result c.step.ensures _ c.in-Send.is c.args.edition c.args.cache.now c.send.new.contents c.send.new.bodies c.send.new.stack c.send.new.cache c.send.result c.send.ensures c.in-Failed.is

pub leave-requires-in-Return : goal.leave-requires-in-Return
leave-requires-in-Return c =
    leaves_return c.requires.0 c.step.new.bodies c.step.new.stack c.step.result c.step.ensures _ c.in-Return.is

pub returns-then-active-eq0 : goal.returns-then-active-eq0
returns-then-active-eq0 c =
    finishes c.requires.0 c.step.new.bodies c.step.new.stack c.step.result c.step.ensures _ c.in-Return.is _ c.leave-in-Return.ensures _ c.if-active-eq0.true c.args.edition

pub return_to-requires : goal.return_to-requires
return_to-requires c =
    (return_runs c.requires.0 c.step.new.bodies c.step.new.stack c.step.result c.step.ensures _ c.in-Return.is _ c.leave-in-Return.ensures, (let h = c.if-active-eq0.false in omega arith))

pub leave-requires-in-Halt : goal.leave-requires-in-Halt
leave-requires-in-Halt c =
    leaves_halt c.requires.0 c.step.new.bodies c.step.new.stack c.step.result c.step.ensures _ c.in-Halt.is

pub returns-in-Next : goal.returns-in-Next
returns-in-Next c =
    went_on c.requires.0 c.step.new.bodies c.step.new.stack c.step.result c.step.ensures _ _ _ c.in-Next.is c.args.edition

pub returns-in-Answered : goal.returns-in-Answered
returns-in-Answered c =
    answers c.requires.0 c.step.new.bodies c.step.new.stack c.step.result c.step.ensures _ c.in-Send.is c.args.edition c.args.cache.now c.send.new.contents c.send.new.bodies c.send.new.stack c.send.new.cache c.send.result c.send.ensures _ _ _ c.in-Answered.is

pub shape_of-bodies-in-Entered : goal.shape_of-bodies-in-Entered
shape_of-bodies-in-Entered c =
    c.send.auto.bodies ∙ c.step.auto.bodies

pub returns-in-Entered : goal.returns-in-Entered
returns-in-Entered c =
    enters c.requires.0 c.step.new.bodies c.step.new.stack c.step.result c.step.ensures _ c.in-Send.is c.args.edition c.args.cache.now c.send.new.contents c.send.new.bodies c.send.new.stack c.send.new.cache c.send.result c.send.ensures _ _ _ c.in-Entered.is

pub returns-in-Full : goal.returns-in-Full
returns-in-Full c =
    stops c.requires.0 c.step.new.bodies c.step.new.stack c.step.result c.step.ensures _ c.in-Send.is c.args.edition c.args.cache.now c.send.new.contents c.send.new.bodies c.send.new.stack c.send.new.cache c.send.result c.send.ensures c.in-Full.is _ c.leave.ensures

pub returns-in-Failed : goal.returns-in-Failed
returns-in-Failed c =
    misses c.requires.0 c.step.new.bodies c.step.new.stack c.step.result c.step.ensures _ c.in-Send.is c.args.edition c.args.cache.now c.send.new.contents c.send.new.bodies c.send.new.stack c.send.new.cache c.send.result c.send.ensures c.in-Failed.is _ c.leave-in-Failed.ensures

pub returns-else-active-eq0 : goal.returns-else-active-eq0
returns-else-active-eq0 c =
    returned_below c.requires.0 c.step.new.bodies c.step.new.stack c.step.result c.step.ensures _ c.in-Return.is _ c.leave-in-Return.ensures (let h = c.if-active-eq0.false in omega arith) _ c.return_to.result c.return_to.ensures _ c.args.edition

pub returns-in-Halt : goal.returns-in-Halt
returns-in-Halt c =
    halted c.requires.0 c.step.new.bodies c.step.new.stack c.step.result c.step.ensures _ c.in-Halt.is _ _ c.leave-in-Halt.ensures c.args.edition
