-- The frame's own words give it back.
use native.Mathlib.Omega.{arith}
use Rattle.frames.proofs.ActiveLaws.{entered}
use Rattle.frames.proofs.hold.Goals as goal

pub overflow_add-method : goal.overflow_add-method
overflow_add-method c =
    let k = c.requires in
    omega arith

pub offset_bounds-stack-base : goal.offset_bounds-stack-base
offset_bounds-stack-base c =
    let k = c.requires in
    omega arith

pub bounds-stack-base : goal.bounds-stack-base
bounds-stack-base c =
    let k = c.requires in
    omega arith

pub code_of-code-requires : goal.code_of-code-requires
code_of-code-requires c =
    c.requires.method

pub header-requires : goal.header-requires
header-requires c =
    c.requires.method

pub first_temporary-requires : goal.first_temporary-requires
first_temporary-requires c =
    let k = c.requires in
    omega arith

pub overflow_add-operands : goal.overflow_add-operands
overflow_add-operands c =
    let k = c.requires in
    omega (arith, c.temporary_count-temporaries.ensures, c.header.ensures, c.first_temporary.ensures)

pub overflow_add-position : goal.overflow_add-position
overflow_add-position c =
    let k = c.requires in
    omega arith

pub offset_bounds-stack-base-2 : goal.offset_bounds-stack-base-2
offset_bounds-stack-base-2 c =
    let k = c.requires in
    omega arith

pub bounds-stack-base-2 : goal.bounds-stack-base-2
bounds-stack-base-2 c =
    let k = c.requires in
    omega arith

pub overflow_cast-position : goal.overflow_cast-position
overflow_cast-position c =
    let k = c.requires in
    omega arith

pub overflow_add-depth : goal.overflow_add-depth
overflow_add-depth c =
    let k = c.requires in
    omega arith

pub offset_bounds-stack-base-3 : goal.offset_bounds-stack-base-3
offset_bounds-stack-base-3 c =
    let k = c.requires in
    omega arith

pub bounds-stack-base-3 : goal.bounds-stack-base-3
bounds-stack-base-3 c =
    let k = c.requires in
    omega arith

pub overflow_cast-depth : goal.overflow_cast-depth
overflow_cast-depth c =
    let k = c.requires in
    omega arith

pub overflow_add-result : goal.overflow_add-result
overflow_add-result c =
    let k = c.requires in
    omega (arith, c.temporary_count-temporaries.ensures, c.header.ensures, c.first_temporary.ensures)

pub returns : goal.returns
returns c =
    entered _ _ _ _ _ _ c.code_of-code.result _ _ _ c.code_of-code.ensures c.header.ensures c.temporary_count-temporaries.ensures (let e = c.first_temporary.ensures in omega arith)
