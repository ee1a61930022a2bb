-- The selector is a literal of the method.
use native.Mathlib.Omega.{arith}
use Rattle.frames.proofs.ActiveLaws.{ends}
use Rattle.steps.proofs.DoingLaws.{send_literal, send_done}
use Rattle.steps.proofs.send.Goals as goal

pub offset_bounds-stack-base : goal.offset_bounds-stack-base
offset_bounds-stack-base c = let k = ends c.requires.active in omega arith

pub bounds-stack-base : goal.bounds-stack-base
bounds-stack-base c = let k = ends c.requires.active in omega arith

pub literal-s-requires : goal.literal-s-requires
literal-s-requires c = send_literal c.requires

pub sent-requires : goal.sent-requires
sent-requires c = send_done c.requires _ c.literal-s.ensures
