-- `short` is the instruction of a byte below 128, whatever follows.
use mathlib.Core.Path.{sym, ◌∙◌}
use native.Mathlib.Omega.{arith}
use Rattle.bytecode.proofs.Choice.{past}
use Rattle.bytecode.proofs.CodeLaws.{push_field, push_temporary, push_literal, push_variable, is_short, is_constant}
use Rattle.bytecode.proofs.short.Goals as goal

pub constant-requires : goal.constant-requires
constant-requires c = omega (arith, past 0 7 _ (omega arith) c.in_default.in_default-own.rest)

pub returns-in-0 : goal.returns-in-0
returns-in-0 c = λ f. sym (push_field _ f (omega arith))

pub returns-in-1 : goal.returns-in-1
returns-in-1 c = λ f. sym (push_temporary _ f (omega arith) (omega arith))

pub returns-in-2 : goal.returns-in-2
returns-in-2 c = λ f. sym (push_literal _ f (omega arith) (omega arith))

pub returns-in-3 : goal.returns-in-3
returns-in-3 c = λ f. sym (push_literal _ f (omega arith) (omega arith))

pub returns-in-4 : goal.returns-in-4
returns-in-4 c = λ f. sym (push_variable _ f (omega arith) (omega arith))

pub returns-in-5 : goal.returns-in-5
returns-in-5 c = λ f. sym (push_variable _ f (omega arith) (omega arith))

pub returns-in-6 : goal.returns-in-6
returns-in-6 c = λ f. c.pop_store.ensures ∙ sym (is_short _ f (omega arith))

pub returns-in_default : goal.returns-in_default
returns-in_default c = λ f. c.constant.ensures ∙ sym (is_constant _ f (omega (arith, past 0 7 _ (omega arith) c.in_default.in_default-own.rest)) (omega arith))
