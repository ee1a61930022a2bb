-- The place is there, by the rules of a reached store; none goes to a literal.
use native.Mathlib.Omega.{arith}
use mathlib.Core.Path.{refl}
use Rattle.bytecode.specs.declared.Place.TheVariants.{Field, Temporary, Literal, LiteralVariable}
use Rattle.steps.proofs.DoingLaws.{store_as, store_ends, store_one, own_there, own_stored, temporary_room, temporary_stored, literal_never, variable_holds, variable_room, variable_stored}
use Rattle.steps.proofs.store.Goals as goal

pub overflow_sub-at : goal.overflow_sub-at
overflow_sub-at c =
    let k = store_ends c.requires in
    let o = store_one c.requires in
    omega arith

pub offset_bounds-stack-at : goal.offset_bounds-stack-at
offset_bounds-stack-at c =
    let k = store_ends c.requires in
    omega arith

pub bounds-stack-at : goal.bounds-stack-at
bounds-stack-at c =
    let k = store_ends c.requires in
    let o = store_one c.requires in
    omega arith

pub offset_bounds-stack-base : goal.offset_bounds-stack-base
offset_bounds-stack-base c =
    let k = store_ends c.requires in
    omega arith

pub bounds-stack-base : goal.bounds-stack-base
bounds-stack-base c =
    let k = store_ends c.requires in
    omega arith

pub store_word-requires : goal.store_word-requires
store_word-requires c =
    own_there (store_as c.requires (Field _) c.in-Field.is)

pub first_temporary-requires : goal.first_temporary-requires
first_temporary-requires c =
    let k = store_ends c.requires in
    omega arith

pub overflow_add-to : goal.overflow_add-to
overflow_add-to c =
    let k = temporary_room (store_as c.requires (Temporary _) c.in-Temporary.is) in
    let f = c.first_temporary.ensures in
    omega arith

pub offset_bounds-stack-to : goal.offset_bounds-stack-to
offset_bounds-stack-to c =
    let k = temporary_room (store_as c.requires (Temporary _) c.in-Temporary.is) in
    let f = c.first_temporary.ensures in
    omega arith

pub bounds-stack-to : goal.bounds-stack-to
bounds-stack-to c =
    let k = temporary_room (store_as c.requires (Temporary _) c.in-Temporary.is) in
    let f = c.first_temporary.ensures in
    omega arith

pub offset_bounds-stack-base-in-LiteralVariable : goal.offset_bounds-stack-base-in-LiteralVariable
offset_bounds-stack-base-in-LiteralVariable c =
    let k = store_ends c.requires in
    omega arith

pub bounds-stack-base-in-LiteralVariable : goal.bounds-stack-base-in-LiteralVariable
bounds-stack-base-in-LiteralVariable c =
    let k = store_ends c.requires in
    omega arith

pub literal-v-requires : goal.literal-v-requires
literal-v-requires c =
    variable_holds (store_as c.requires (LiteralVariable _) c.in-LiteralVariable.is)

pub store_word-requires-in-LiteralVariable : goal.store_word-requires-in-LiteralVariable
store_word-requires-in-LiteralVariable c =
    variable_room (store_as c.requires (LiteralVariable _) c.in-LiteralVariable.is) _ c.literal-v.ensures

pub returns-in-Field : goal.returns-in-Field
returns-in-Field c =
    own_stored (store_as c.requires (Field _) c.in-Field.is) _ _ refl c.store_word.ensures

pub returns-in-Temporary : goal.returns-in-Temporary
returns-in-Temporary c =
    temporary_stored (store_as c.requires (Temporary _) c.in-Temporary.is) _ _ _ refl (let f = c.first_temporary.ensures in omega
    arith) refl

pub returns-in-Literal : goal.returns-in-Literal
returns-in-Literal c =
    absurd (literal_never (store_as c.requires (Literal _) c.in-Literal.is))

pub returns-in-LiteralVariable : goal.returns-in-LiteralVariable
returns-in-LiteralVariable c =
    variable_stored (store_as c.requires (LiteralVariable _) c.in-LiteralVariable.is) _ _ _ refl c.literal-v.ensures c.store_word-in-LiteralVariable.ensures
