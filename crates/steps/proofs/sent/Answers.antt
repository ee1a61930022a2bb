-- The receiver is a valid word, so it has a class.
use native.Mathlib.Omega.{arith}
use mathlib.Core.Path.{refl}
use Rattle.steps.proofs.DoingLaws.{sent_one, sent_ends, sent_class, sent_done}
use Rattle.steps.proofs.sent.Goals as goal

pub overflow_sub-at : goal.overflow_sub-at
overflow_sub-at c = let k = sent_one c.requires in omega arith

pub overflow_sub-at-2 : goal.overflow_sub-at-2
overflow_sub-at-2 c = let k = sent_one c.requires in omega arith

pub offset_bounds-stack-at : goal.offset_bounds-stack-at
offset_bounds-stack-at c = let k = sent_ends c.requires in omega arith

pub bounds-stack-at : goal.bounds-stack-at
bounds-stack-at c = let k = sent_ends c.requires in let o = sent_one c.requires in omega arith

pub class_of-class-requires : goal.class_of-class-requires
class_of-class-requires c = sent_class c.requires _ refl

pub returns : goal.returns
returns c = sent_done c.requires _ _ refl (c.class_of-class.ensures _ _)
