-- At most 16,383 elements are an integer word.
use Rattle.std.proofs.Common.{ap, ◌∙◌, arith}
use Rattle.model.specs.Primitive.{computed}
use Rattle.primitives.proofs.Indexing.{taken, not_taken, size_none, size_some}
use Rattle.primitives.proofs.size_answer.Goals as goal

pub returns-in_err-e : goal.returns-in_err-e
returns-in_err-e c = ap (computed _) c.from_residual.ensures ∙ size_none _ _ (not_taken _ _ c.elements_of.ensures c.in_err-e.was)

pub overflow_mul-result : goal.overflow_mul-result
overflow_mul-result c = let s = (taken c.elements_of.ensures c.in_ok-e.was).small in omega arith

pub overflow_add-result : goal.overflow_add-result
overflow_add-result c = let s = (taken c.elements_of.ensures c.in_ok-e.was).small in omega arith

pub overflow_cast-result : goal.overflow_cast-result
overflow_cast-result c = let s = (taken c.elements_of.ensures c.in_ok-e.was).small in omega arith

pub returns : goal.returns
returns c = size_some (taken c.elements_of.ensures c.in_ok-e.was)
