-- The place is there, by the rules of a reached push.
use native.Mathlib.Omega.{arith}
use Rattle.bytecode.specs.declared.Place.TheVariants.{Field, Temporary, Literal, LiteralVariable}
use Rattle.frames.proofs.ActiveLaws.{ends}
use Rattle.steps.proofs.PlaceLaws.{read_as}
use Rattle.steps.proofs.DoingLaws.{push_as, field_there, field_reads, temporary_there, temporary_reads, literal_lies, literal_reads, variable_lies, variable_there, variable_reads}
use Rattle.steps.proofs.read.Goals as goal

pub offset_bounds-stack-base : goal.offset_bounds-stack-base
offset_bounds-stack-base c =
    let k = ends c.requires.active in
    omega arith

pub bounds-stack-base : goal.bounds-stack-base
bounds-stack-base c =
    let k = ends c.requires.active in
    omega arith

pub word_of-requires : goal.word_of-requires
word_of-requires c =
    field_there (push_as c.requires (Field _) c.in-Field.is)

pub first_temporary-requires : goal.first_temporary-requires
first_temporary-requires c =
    let k = ends c.requires.active in
    omega arith

pub overflow_add-at : goal.overflow_add-at
overflow_add-at c =
    let k = temporary_there (push_as c.requires (Temporary _) c.in-Temporary.is) in
    let f = c.first_temporary.ensures in
    omega arith

pub offset_bounds-stack-at : goal.offset_bounds-stack-at
offset_bounds-stack-at c =
    let k = temporary_there (push_as c.requires (Temporary _) c.in-Temporary.is) in
    let f = c.first_temporary.ensures in
    omega arith

pub bounds-stack-at : goal.bounds-stack-at
bounds-stack-at c =
    let k = temporary_there (push_as c.requires (Temporary _) c.in-Temporary.is) in
    let f = c.first_temporary.ensures in
    omega arith

pub offset_bounds-stack-base-in-Literal : goal.offset_bounds-stack-base-in-Literal
offset_bounds-stack-base-in-Literal c =
    let k = ends c.requires.active in
    omega arith

pub bounds-stack-base-in-Literal : goal.bounds-stack-base-in-Literal
bounds-stack-base-in-Literal c =
    let k = ends c.requires.active in
    omega arith

pub literal-requires : goal.literal-requires
literal-requires c =
    literal_lies (push_as c.requires (Literal _) c.in-Literal.is)

pub offset_bounds-stack-base-in-LiteralVariable : goal.offset_bounds-stack-base-in-LiteralVariable
offset_bounds-stack-base-in-LiteralVariable c =
    let k = ends c.requires.active in
    omega arith

pub bounds-stack-base-in-LiteralVariable : goal.bounds-stack-base-in-LiteralVariable
bounds-stack-base-in-LiteralVariable c =
    let k = ends c.requires.active in
    omega arith

pub literal-v-requires : goal.literal-v-requires
literal-v-requires c =
    variable_lies (push_as c.requires (LiteralVariable _) c.in-LiteralVariable.is)

pub word_of-requires-in-LiteralVariable : goal.word_of-requires-in-LiteralVariable
word_of-requires-in-LiteralVariable c =
    variable_there (push_as c.requires (LiteralVariable _) c.in-LiteralVariable.is) _ c.literal-v.ensures

pub returns-in-Field : goal.returns-in-Field
returns-in-Field c =
    read_as _ _ c.in-Field.is (field_reads (push_as c.requires (Field _) c.in-Field.is) _ c.word_of.ensures)

pub returns-in-Temporary : goal.returns-in-Temporary
returns-in-Temporary c =
    read_as _ _ c.in-Temporary.is (temporary_reads (push_as c.requires (Temporary _) c.in-Temporary.is) _ (let f = c.first_temporary.ensures in omega arith))

pub returns-in-Literal : goal.returns-in-Literal
returns-in-Literal c =
    read_as _ _ c.in-Literal.is (literal_reads (push_as c.requires (Literal _) c.in-Literal.is) _ c.literal.ensures)

pub returns-in-LiteralVariable : goal.returns-in-LiteralVariable
returns-in-LiteralVariable c =
    read_as _ _ c.in-LiteralVariable.is (variable_reads (push_as c.requires (LiteralVariable _) c.in-LiteralVariable.is) _ _ c.literal-v.ensures c.word_of-in-LiteralVariable.ensures)
