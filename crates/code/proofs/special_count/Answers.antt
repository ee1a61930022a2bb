use native.Mathlib.Omega.{arith}
use Rattle.code.proofs.LinkFine.{special_need}
use Rattle.code.proofs.special_count.Goals as goal

pub overflow_sub-result : goal.overflow_sub-result
overflow_sub-result c = let q = special_need _ _ c.requires.1 c.of.ensures in let r = c.need.ensures in omega arith

pub returns : goal.returns
returns c = let q = special_need _ _ c.requires.1 c.of.ensures in let r = c.need.ensures in omega arith
