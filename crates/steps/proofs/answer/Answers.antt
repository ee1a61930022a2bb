-- By what the primitive computes.
use native.Mathlib.Omega.{arith}
use mathlib.Core.Path.{refl}
use Rattle.steps.proofs.DoingLaws.{computing_two, computing_ends, special_inside, computed_done, failed_sends}
use Rattle.steps.proofs.answer.Goals as goal

pub overflow_sub-stack : goal.overflow_sub-stack
overflow_sub-stack c =
    let k = computing_ends c.requires in
    let o = computing_two c.requires in
    omega arith

pub offset_bounds-stack-end : goal.offset_bounds-stack-end
offset_bounds-stack-end c =
    let k = computing_ends c.requires in
    let o = computing_two c.requires in
    omega arith

pub bounds-stack-end : goal.bounds-stack-end
bounds-stack-end c =
    let k = computing_ends c.requires in
    let o = computing_two c.requires in
    omega arith

pub overflow_sub-result : goal.overflow_sub-result
overflow_sub-result c =
    let k = computing_ends c.requires in
    let o = computing_two c.requires in
    omega arith

pub word_of-s-requires : goal.word_of-s-requires
word_of-s-requires c =
    special_inside c.requires.doing

pub sent-requires : goal.sent-requires
sent-requires c =
    failed_sends c.requires _ c.in-None.is c.word_of-s.ensures

pub returns-in-Some : goal.returns-in-Some
returns-in-Some c =
    computed_done c.requires _ _ _ c.in-Some.is refl refl
