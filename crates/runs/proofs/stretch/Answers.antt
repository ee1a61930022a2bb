use native.Mathlib.Omega.{arith}
use mathlib.Core.Path.{◌∙◌}
use Rattle.frames.proofs.Standing.{holdable}
use Rattle.runs.proofs.Looping.{start_runs, loop_start, loop_holds_it, loop_active, loop_cached, held_small, held_lengths, held_leaves, loop_ends, loop_finished, loop_halted, loop_failed, loop_next_one, loop_answered, answered_few, loop_entered, entered_few, entered_low, loop_back}
use Rattle.runs.proofs.stretch.Goals as goal

pub frame_end-tally-requires : goal.frame_end-tally-requires
frame_end-tally-requires c =
    let a = c.args in let w = c.requires in start_runs a.edition w.receiver w.selector a.n a.b a.top a.contents.now a.bodies.now a.stack.now a.cache.now w.checks

pub hold-active-requires : goal.hold-active-requires
hold-active-requires c =
    let a = c.args in let w = c.requires in holdable (start_runs a.edition w.receiver w.selector a.n a.b a.top a.contents.now a.bodies.now a.stack.now a.cache.now w.checks)

pub loop-left-init : goal.loop-left-init
loop-left-init c =
    let a = c.args in let end = c.frame_end-tally.ensures in λ receiver selector e. loop_holds_it (loop_start a.edition receiver selector a.n a.b a.top a.contents.now a.bodies.now a.stack.now a.cache.now e a.grant _ end.0 end.1) c.hold-active.result c.hold-active.ensures

pub advance-requires : goal.advance-requires
advance-requires c =
    let w = c.requires in let l = c.loop-left.invariant w.receiver w.selector w.checks in (loop_active l, loop_cached l)

pub overflow_sub-left : goal.overflow_sub-left
overflow_sub-left c =
    let t = c.loop-left-test.true in omega arith

pub loop-left-smaller-in-Next : goal.loop-left-smaller-in-Next
loop-left-smaller-in-Next c =
    let t = c.loop-left-test.true in omega arith

pub loop-left-preserved-in-Next : goal.loop-left-preserved-in-Next
loop-left-preserved-in-Next c =
    λ receiver selector e. loop_next_one (c.loop-left.invariant receiver selector e) c.loop-left-test.true _ _ _ _ c.advance.result (c.advance.ensures receiver selector) _ _ c.in-Next.is

pub counted-tally-requires : goal.counted-tally-requires
counted-tally-requires c =
    let w = c.requires in let l = c.loop-left.invariant w.receiver w.selector w.checks in let few = l.at.turn.few in let word = c.ranges in (omega arith, answered_few l c.loop-left-test.true _ _ _ _ c.advance.result (c.advance.ensures w.receiver w.selector) _ _ _ _ _ c.in-Answered.is)

pub overflow_sub-left-in-Answered : goal.overflow_sub-left-in-Answered
overflow_sub-left-in-Answered c =
    let t = c.loop-left-test.true in omega arith

pub loop-left-smaller-in-Answered : goal.loop-left-smaller-in-Answered
loop-left-smaller-in-Answered c =
    let t = c.loop-left-test.true in omega arith

pub loop-left-preserved-in-Answered : goal.loop-left-preserved-in-Answered
loop-left-preserved-in-Answered c =
    λ receiver selector e. loop_answered (c.loop-left.invariant receiver selector e) c.loop-left-test.true _ _ _ _ c.advance.result (c.advance.ensures receiver selector) _ _ _ _ _ c.in-Answered.is _ _ c.counted-tally.ensures.0 c.counted-tally.ensures.1

pub raised-highest-requires : goal.raised-highest-requires
raised-highest-requires c =
    let w = c.requires in let l = c.loop-left.invariant w.receiver w.selector w.checks in let few = l.at.turn.few in let word = c.ranges in (entered_low l c.loop-left-test.true _ _ _ _ c.advance.result (c.advance.ensures w.receiver w.selector) _ _ _ c.in-Top.is, omega arith)

pub counted-tally-requires-in-Top : goal.counted-tally-requires-in-Top
counted-tally-requires-in-Top c =
    let w = c.requires in let l = c.loop-left.invariant w.receiver w.selector w.checks in let few = l.at.turn.few in let same = c.raised-highest.ensures.1 in let word = c.ranges in (omega arith, entered_few l c.loop-left-test.true _ _ _ _ c.advance.result (c.advance.ensures w.receiver w.selector) _ _ _ c.in-Top.is)

pub overflow_sub-left-in-Top : goal.overflow_sub-left-in-Top
overflow_sub-left-in-Top c =
    let t = c.loop-left-test.true in omega arith

pub loop-left-smaller-in-Top : goal.loop-left-smaller-in-Top
loop-left-smaller-in-Top c =
    let t = c.loop-left-test.true in omega arith

pub loop-left-preserved-in-Top : goal.loop-left-preserved-in-Top
loop-left-preserved-in-Top c =
    λ receiver selector e. loop_entered (c.loop-left.invariant receiver selector e) c.loop-left-test.true _ _ _ _ c.advance.result (c.advance.ensures receiver selector) _ _ _ c.in-Top.is _ _ (c.counted-tally-in-Top.ensures.0 ∙ c.raised-highest.ensures.0) (let a = c.counted-tally-in-Top.ensures.1 in let b = c.raised-highest.ensures.1 in omega arith)

pub overflow_sub-left-in-Below : goal.overflow_sub-left-in-Below
overflow_sub-left-in-Below c =
    let t = c.loop-left-test.true in omega arith

pub loop-left-smaller : goal.loop-left-smaller
loop-left-smaller c =
    let t = c.loop-left-test.true in omega arith

pub loop-left-preserved : goal.loop-left-preserved
loop-left-preserved c =
    λ receiver selector e. loop_back (c.loop-left.invariant receiver selector e) c.loop-left-test.true _ _ _ _ c.advance.result (c.advance.ensures receiver selector) _ c.in-Below.is

pub overflow_cast-result : goal.overflow_cast-result
overflow_cast-result c =
    let w = c.requires in let l = c.loop-left.invariant w.receiver w.selector w.checks in let k = held_small l in omega arith

pub overflow_cast-result-in-Finished : goal.overflow_cast-result-in-Finished
overflow_cast-result-in-Finished c =
    let w = c.requires in let l = c.loop-left.invariant w.receiver w.selector w.checks in let k = held_small l in omega arith

pub overflow_sub-result : goal.overflow_sub-result
overflow_sub-result c =
    let w = c.requires in let l = c.loop-left.invariant w.receiver w.selector w.checks in let g = l.within in omega arith

pub overflow_add-result : goal.overflow_add-result
overflow_add-result c =
    let w = c.requires in let l = c.loop-left.invariant w.receiver w.selector w.checks in let g = l.within in let t = c.loop-left-test.true in let f = c.ranges in omega arith

pub shape_of-contents-in-Finished : goal.shape_of-contents-in-Finished
shape_of-contents-in-Finished c =
    let w = c.requires in let l = c.loop-left.invariant w.receiver w.selector w.checks in c.advance.auto.contents ∙ (held_lengths l).0

pub shape_of-bodies-in-Finished : goal.shape_of-bodies-in-Finished
shape_of-bodies-in-Finished c =
    let w = c.requires in let l = c.loop-left.invariant w.receiver w.selector w.checks in c.advance.auto.bodies ∙ (held_lengths l).1

pub shape_of-stack-in-Finished : goal.shape_of-stack-in-Finished
shape_of-stack-in-Finished c =
    let w = c.requires in let l = c.loop-left.invariant w.receiver w.selector w.checks in c.advance.auto.stack ∙ (held_lengths l).2

pub shape_of-cache-in-Finished : goal.shape_of-cache-in-Finished
shape_of-cache-in-Finished c =
    let w = c.requires in let l = c.loop-left.invariant w.receiver w.selector w.checks in c.advance.auto.cache ∙ (held_lengths l).3

pub returns-in-Finished : goal.returns-in-Finished
returns-in-Finished c =
    λ receiver selector e. loop_finished (c.loop-left.invariant receiver selector e) c.loop-left-test.true _ _ _ _ c.advance.result (c.advance.ensures receiver selector) _ c.in-Finished.is

pub shape_of-contents-in-Failed : goal.shape_of-contents-in-Failed
shape_of-contents-in-Failed c =
    let w = c.requires in let l = c.loop-left.invariant w.receiver w.selector w.checks in c.advance.auto.contents ∙ (held_lengths l).0

pub shape_of-bodies-in-Failed : goal.shape_of-bodies-in-Failed
shape_of-bodies-in-Failed c =
    let w = c.requires in let l = c.loop-left.invariant w.receiver w.selector w.checks in c.advance.auto.bodies ∙ (held_lengths l).1

pub shape_of-stack-in-Failed : goal.shape_of-stack-in-Failed
shape_of-stack-in-Failed c =
    let w = c.requires in let l = c.loop-left.invariant w.receiver w.selector w.checks in c.advance.auto.stack ∙ (held_lengths l).2

pub shape_of-cache-in-Failed : goal.shape_of-cache-in-Failed
shape_of-cache-in-Failed c =
    let w = c.requires in let l = c.loop-left.invariant w.receiver w.selector w.checks in c.advance.auto.cache ∙ (held_lengths l).3

pub returns-in-Failed : goal.returns-in-Failed
returns-in-Failed c =
    λ receiver selector e. loop_failed (c.loop-left.invariant receiver selector e) c.loop-left-test.true _ _ _ _ c.advance.result (c.advance.ensures receiver selector) _ c.in-Failed.is

pub overflow_cast-result-in-Halted : goal.overflow_cast-result-in-Halted
overflow_cast-result-in-Halted c =
    let w = c.requires in let l = c.loop-left.invariant w.receiver w.selector w.checks in let k = held_small l in omega arith

pub overflow_cast-result-in-Halted-2 : goal.overflow_cast-result-in-Halted-2
overflow_cast-result-in-Halted-2 c =
    let w = c.requires in let l = c.loop-left.invariant w.receiver w.selector w.checks in let k = held_small l in omega arith

pub overflow_cast-result-in-Halted-3 : goal.overflow_cast-result-in-Halted-3
overflow_cast-result-in-Halted-3 c =
    let w = c.requires in let l = c.loop-left.invariant w.receiver w.selector w.checks in let k = held_small l in omega arith

pub overflow_sub-result-in-Halted : goal.overflow_sub-result-in-Halted
overflow_sub-result-in-Halted c =
    let w = c.requires in let l = c.loop-left.invariant w.receiver w.selector w.checks in let g = l.within in omega arith

pub shape_of-contents-in-Halted : goal.shape_of-contents-in-Halted
shape_of-contents-in-Halted c =
    let w = c.requires in let l = c.loop-left.invariant w.receiver w.selector w.checks in c.advance.auto.contents ∙ (held_lengths l).0

pub shape_of-bodies-in-Halted : goal.shape_of-bodies-in-Halted
shape_of-bodies-in-Halted c =
    let w = c.requires in let l = c.loop-left.invariant w.receiver w.selector w.checks in c.advance.auto.bodies ∙ (held_lengths l).1

pub shape_of-stack-in-Halted : goal.shape_of-stack-in-Halted
shape_of-stack-in-Halted c =
    let w = c.requires in let l = c.loop-left.invariant w.receiver w.selector w.checks in c.advance.auto.stack ∙ (held_lengths l).2

pub shape_of-cache-in-Halted : goal.shape_of-cache-in-Halted
shape_of-cache-in-Halted c =
    let w = c.requires in let l = c.loop-left.invariant w.receiver w.selector w.checks in c.advance.auto.cache ∙ (held_lengths l).3

pub returns-in-Halted : goal.returns-in-Halted
returns-in-Halted c =
    λ receiver selector e. rw c.phase.ensures (loop_halted (c.loop-left.invariant receiver selector e) c.loop-left-test.true _ _ _ _ c.advance.result (c.advance.ensures receiver selector) _ c.in-Halted.is)

pub leave-requires : goal.leave-requires
leave-requires c =
    let w = c.requires in let l = c.loop-left.invariant w.receiver w.selector w.checks in held_leaves l

pub overflow_cast-result-2 : goal.overflow_cast-result-2
overflow_cast-result-2 c =
    let w = c.requires in let l = c.loop-left.invariant w.receiver w.selector w.checks in let k = held_small l in omega arith

pub overflow_cast-result-3 : goal.overflow_cast-result-3
overflow_cast-result-3 c =
    let w = c.requires in let l = c.loop-left.invariant w.receiver w.selector w.checks in let k = held_small l in omega arith

pub overflow_cast-result-4 : goal.overflow_cast-result-4
overflow_cast-result-4 c =
    let w = c.requires in let l = c.loop-left.invariant w.receiver w.selector w.checks in let k = held_small l in omega arith

pub shape_of-contents : goal.shape_of-contents
shape_of-contents c =
    let w = c.requires in let l = c.loop-left.invariant w.receiver w.selector w.checks in (held_lengths l).0

pub shape_of-bodies : goal.shape_of-bodies
shape_of-bodies c =
    let w = c.requires in let l = c.loop-left.invariant w.receiver w.selector w.checks in (held_lengths l).1

pub shape_of-stack : goal.shape_of-stack
shape_of-stack c =
    let w = c.requires in let l = c.loop-left.invariant w.receiver w.selector w.checks in c.leave.auto.stack ∙ (held_lengths l).2

pub shape_of-cache : goal.shape_of-cache
shape_of-cache c =
    let w = c.requires in let l = c.loop-left.invariant w.receiver w.selector w.checks in (held_lengths l).3

pub returns : goal.returns
returns c =
    λ receiver selector e. loop_ends (c.loop-left.invariant receiver selector e) _ c.leave.ensures (let t = c.loop-left-test.false in omega arith)
