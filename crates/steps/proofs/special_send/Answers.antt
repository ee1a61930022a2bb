-- By the number of the send.
use native.Mathlib.Omega.{arith}
use mathlib.Core.Path.{refl}
use Rattle.frames.proofs.ActiveLaws.{ends}
use Rattle.steps.proofs.DoingLaws.{special_below, special_one, special_inside, special_valid, entries_room, same_two_there, same_done, class_done, special_done}
use Rattle.steps.proofs.special_send.Goals as goal

pub overflow_sub-last : goal.overflow_sub-last
overflow_sub-last c = let k = special_one c.requires.0 in omega arith

pub offset_bounds-stack-end : goal.offset_bounds-stack-end
offset_bounds-stack-end c = let k = ends c.requires.0.active in omega arith

pub bounds-stack-end : goal.bounds-stack-end
bounds-stack-end c = let k = ends c.requires.0.active in let o = special_one c.requires.0 in omega arith

pub overflow_sub-under : goal.overflow_sub-under
overflow_sub-under c = let k = same_two_there c.requires.0 c.if-k-eq22.true in omega arith

pub offset_bounds-stack-end-then-k-eq22 : goal.offset_bounds-stack-end-then-k-eq22
offset_bounds-stack-end-then-k-eq22 c = let k = ends c.requires.0.active in omega arith

pub bounds-stack-end-then-k-eq22 : goal.bounds-stack-end-then-k-eq22
bounds-stack-end-then-k-eq22 c =
    let k = ends c.requires.0.active in let o = same_two_there c.requires.0 c.if-k-eq22.true in omega arith

pub overflow_sub-stack : goal.overflow_sub-stack
overflow_sub-stack c = let k = same_two_there c.requires.0 c.if-k-eq22.true in omega arith

pub offset_bounds-stack-end-then-k-eq22-2 : goal.offset_bounds-stack-end-then-k-eq22-2
offset_bounds-stack-end-then-k-eq22-2 c = let k = ends c.requires.0.active in omega arith

pub bounds-stack-end-then-k-eq22-2 : goal.bounds-stack-end-then-k-eq22-2
bounds-stack-end-then-k-eq22-2 c =
    let k = ends c.requires.0.active in let o = same_two_there c.requires.0 c.if-k-eq22.true in omega arith

pub overflow_sub-result : goal.overflow_sub-result
overflow_sub-result c = let k = special_one c.requires.0 in omega arith

pub returns-then-k-eq22 : goal.returns-then-k-eq22
returns-then-k-eq22 c = same_done c.requires.0 c.if-k-eq22.true _ _ _ _ _ refl refl c.boolean_word.ensures refl refl

pub class_of-class-requires : goal.class_of-class-requires
class_of-class-requires c =
    (special_valid c.requires.0 _ refl, entries_room c.requires.0)

pub overflow_sub-stack-then-k-eq23 : goal.overflow_sub-stack-then-k-eq23
overflow_sub-stack-then-k-eq23 c = let k = special_one c.requires.0 in omega arith

pub offset_bounds-stack-end-then-k-eq23 : goal.offset_bounds-stack-end-then-k-eq23
offset_bounds-stack-end-then-k-eq23 c = let k = ends c.requires.0.active in omega arith

pub bounds-stack-end-then-k-eq23 : goal.bounds-stack-end-then-k-eq23
bounds-stack-end-then-k-eq23 c =
    let k = ends c.requires.0.active in let o = special_one c.requires.0 in omega arith

pub returns-then-k-eq23 : goal.returns-then-k-eq23
returns-then-k-eq23 c = class_done c.requires.0 c.if-k-eq23.true _ _ _ _ refl (c.class_of-class.ensures _ _) refl refl

pub word_of-s-requires : goal.word_of-s-requires
word_of-s-requires c = special_inside c.requires.0

pub special_count-count-requires : goal.special_count-count-requires
special_count-count-requires c =
    (c.requires.1, special_below c.requires.0)

pub sent-requires : goal.sent-requires
sent-requires c =
    special_done c.requires.0 _ _ c.requires.1 c.if-k-eq22.false c.if-k-eq23.false c.word_of-s.ensures c.special_count-count.ensures
