-- The home of the running method is a class, and the own receiver's chain has it.
use native.Mathlib.Omega.{arith}
use mathlib.Core.Path.{refl}
use Rattle.frames.proofs.ActiveLaws.{ends, active_method}
use Rattle.steps.proofs.DoingLaws.{super_one, super_literal, super_home, super_done}
use Rattle.steps.proofs.super_send.Goals as goal

pub offset_bounds-stack-base : goal.offset_bounds-stack-base
offset_bounds-stack-base c = let k = ends c.requires.active in omega arith

pub bounds-stack-base : goal.bounds-stack-base
bounds-stack-base c = let k = ends c.requires.active in omega arith

pub overflow_sub-at : goal.overflow_sub-at
overflow_sub-at c = let k = super_one c.requires in omega arith

pub overflow_sub-at-2 : goal.overflow_sub-at-2
overflow_sub-at-2 c = let k = super_one c.requires in omega arith

pub offset_bounds-stack-at : goal.offset_bounds-stack-at
offset_bounds-stack-at c = let k = ends c.requires.active in omega arith

pub bounds-stack-at : goal.bounds-stack-at
bounds-stack-at c =
    let k = ends c.requires.active in let o = super_one c.requires in omega arith

pub offset_bounds-stack-base-2 : goal.offset_bounds-stack-base-2
offset_bounds-stack-base-2 c = let k = ends c.requires.active in omega arith

pub bounds-stack-base-2 : goal.bounds-stack-base-2
bounds-stack-base-2 c = let k = ends c.requires.active in omega arith

pub literal-selector-requires : goal.literal-selector-requires
literal-selector-requires c = super_literal c.requires

pub home-home-requires : goal.home-home-requires
home-home-requires c = active_method c.requires.active _ refl

pub superclass-class-requires : goal.superclass-class-requires
superclass-class-requires c = super_home c.requires _ c.home-home.ensures

pub returns : goal.returns
returns c =
    super_done c.requires _ _ _ _ refl c.literal-selector.ensures c.home-home.ensures c.superclass-class.ensures
