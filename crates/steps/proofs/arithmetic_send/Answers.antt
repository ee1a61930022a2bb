-- Each primitive is the one that 01's table has.
use native.Mathlib.Omega.{arith}
use Rattle.bytecode.proofs.Choice.{past}
use Rattle.frames.proofs.ActiveLaws.{ends}
use Rattle.steps.proofs.DoingLaws.{two, computing}
use Rattle.steps.proofs.arithmetic_send.Goals as goal

pub overflow_sub-w : goal.overflow_sub-w
overflow_sub-w c =
    let k = ends c.requires.0.active in
    let o = two c.requires.0 c.requires.1 in
    omega arith

pub offset_bounds-stack-end : goal.offset_bounds-stack-end
offset_bounds-stack-end c =
    let k = ends c.requires.0.active in
    let o = two c.requires.0 c.requires.1 in
    omega arith

pub bounds-stack-end : goal.bounds-stack-end
bounds-stack-end c =
    let k = ends c.requires.0.active in
    let o = two c.requires.0 c.requires.1 in
    omega arith

pub overflow_sub-v : goal.overflow_sub-v
overflow_sub-v c =
    let k = ends c.requires.0.active in
    let o = two c.requires.0 c.requires.1 in
    omega arith

pub offset_bounds-stack-end-2 : goal.offset_bounds-stack-end-2
offset_bounds-stack-end-2 c =
    let k = ends c.requires.0.active in
    let o = two c.requires.0 c.requires.1 in
    omega arith

pub bounds-stack-end-2 : goal.bounds-stack-end-2
bounds-stack-end-2 c =
    let k = ends c.requires.0.active in
    let o = two c.requires.0 c.requires.1 in
    omega arith

pub answer-requires : goal.answer-requires
answer-requires c =
    computing c.requires.0 c.requires.1 c.arithmetic-r.ensures c.in-0.is

pub answer-requires-in-1 : goal.answer-requires-in-1
answer-requires-in-1 c =
    computing c.requires.0 c.requires.1 c.arithmetic-r-in-1.ensures c.in-1.is

pub answer-requires-in-2 : goal.answer-requires-in-2
answer-requires-in-2 c =
    computing c.requires.0 c.requires.1 c.arithmetic-r-in-2.ensures c.in-2.is

pub answer-requires-in-3 : goal.answer-requires-in-3
answer-requires-in-3 c =
    computing c.requires.0 c.requires.1 c.arithmetic-r-in-3.ensures c.in-3.is

pub answer-requires-in-4 : goal.answer-requires-in-4
answer-requires-in-4 c =
    computing c.requires.0 c.requires.1 c.arithmetic-r-in-4.ensures c.in-4.is

pub answer-requires-in-5 : goal.answer-requires-in-5
answer-requires-in-5 c =
    computing c.requires.0 c.requires.1 c.arithmetic-r-in-5.ensures c.in-5.is

pub answer-requires-in-6 : goal.answer-requires-in-6
answer-requires-in-6 c =
    computing c.requires.0 c.requires.1 c.arithmetic-r-in-6.ensures c.in-6.is

pub answer-requires-in-7 : goal.answer-requires-in-7
answer-requires-in-7 c =
    computing c.requires.0 c.requires.1 c.arithmetic-r-in-7.ensures c.in-7.is

pub answer-requires-in-8 : goal.answer-requires-in-8
answer-requires-in-8 c =
    computing c.requires.0 c.requires.1 c.arithmetic-r-in-8.ensures c.in-8.is

pub answer-requires-in-9 : goal.answer-requires-in-9
answer-requires-in-9 c =
    computing c.requires.0 c.requires.1 c.compute-r.ensures c.in-9.is

pub answer-requires-in-10 : goal.answer-requires-in-10
answer-requires-in-10 c =
    computing c.requires.0 c.requires.1 c.compute-r-in-10.ensures c.in-10.is

pub answer-requires-in-11 : goal.answer-requires-in-11
answer-requires-in-11 c =
    computing c.requires.0 c.requires.1 c.compute-r-in-11.ensures c.in-11.is

pub answer-requires-in-12 : goal.answer-requires-in-12
answer-requires-in-12 c =
    computing c.requires.0 c.requires.1 c.compute-r-in-12.ensures c.in-12.is

pub answer-requires-in-13 : goal.answer-requires-in-13
answer-requires-in-13 c =
    computing c.requires.0 c.requires.1 c.compute-r-in-13.ensures c.in-13.is

pub answer-requires-in-14 : goal.answer-requires-in-14
answer-requires-in-14 c =
    computing c.requires.0 c.requires.1 c.arithmetic-r-in-14.ensures c.in-14.is

pub answer-requires-in_default : goal.answer-requires-in_default
answer-requires-in_default c =
    let h = past 0 15 _ (omega arith) c.in_default.in_default-own.rest in
    computing c.requires.0 c.requires.1 {j = 15} c.arithmetic-r-in_default.ensures (omega (arith, c.requires.1))
