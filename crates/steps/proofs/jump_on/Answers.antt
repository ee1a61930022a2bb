-- By the word that is tested.
use native.Mathlib.Omega.{arith}
use mathlib.Core.Logic.{inl, inr}
use mathlib.Core.Path.{refl}
use Rattle.steps.proofs.DoingLaws.{on_one, on_room, on_ends, jumps, passes, halts_there}
use Rattle.steps.proofs.jump_on.Goals as goal

pub overflow_sub-end : goal.overflow_sub-end
overflow_sub-end c = let k = on_one c.requires in omega arith

pub offset_bounds-stack-end : goal.offset_bounds-stack-end
offset_bounds-stack-end c = let k = on_ends c.requires in omega arith

pub bounds-stack-end : goal.bounds-stack-end
bounds-stack-end c = let k = on_ends c.requires in let o = on_one c.requires in omega arith

pub overflow_add-result : goal.overflow_add-result
overflow_add-result c = let k = on_room c.requires in omega arith

pub returns-then-w-boolean_word : goal.returns-then-w-boolean_word
returns-then-w-boolean_word c = jumps c.requires _ _ refl c.boolean_word.ensures c.if-w-boolean_word.true

pub returns-then-w-eq-TRUE : goal.returns-then-w-eq-TRUE
returns-then-w-eq-TRUE c = passes c.requires _ _ refl c.boolean_word.ensures c.if-w-boolean_word.false (elim c.then-w-eq-TRUE.either [ inl e ↦ inl e | inr e ↦ inr e.1 ])

pub returns : goal.returns
returns c =
    halts_there c.requires _ _ refl c.boolean_word.ensures c.if-w-boolean_word.false c.if-w-eq-TRUE.false c.if-w-eq-FALSE.false
