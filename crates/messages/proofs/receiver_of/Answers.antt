use native.Mathlib.Omega.{arith}
use Rattle.plain.proofs.RunningLaws.{top_bounds, is_method}
use Rattle.messages.proofs.receiver_of.Goals as goal

pub overflow_add-running : goal.overflow_add-running
overflow_add-running c =
    let t = top_bounds c.requires.0 in omega arith

pub offset_bounds-stack-base : goal.offset_bounds-stack-base
offset_bounds-stack-base c =
    let t = top_bounds c.requires.0 in omega arith

pub bounds-stack-base : goal.bounds-stack-base
bounds-stack-base c =
    let t = top_bounds c.requires.0 in omega arith

pub overflow_add-depth : goal.overflow_add-depth
overflow_add-depth c =
    let t = top_bounds c.requires.0 in omega arith

pub offset_bounds-stack-base-2 : goal.offset_bounds-stack-base-2
offset_bounds-stack-base-2 c =
    let t = top_bounds c.requires.0 in omega arith

pub bounds-stack-base-2 : goal.bounds-stack-base-2
bounds-stack-base-2 c =
    let t = top_bounds c.requires.0 in omega arith

pub overflow_cast-depth : goal.overflow_cast-depth
overflow_cast-depth c =
    let t = top_bounds c.requires.0 in omega arith

pub header-requires : goal.header-requires
header-requires c =
    record { right = (c.requires.0.edition, c.requires.0.right); kinds = is_method c.requires.0 }

pub overflow_sub-left : goal.overflow_sub-left
overflow_sub-left c =
    let h = c.requires.1 in omega arith

pub overflow_sub-left-2 : goal.overflow_sub-left-2
overflow_sub-left-2 c =
    let h = c.requires.1 in omega arith

pub first_temporary-requires : goal.first_temporary-requires
first_temporary-requires c =
    let t = top_bounds c.requires.0 in omega arith

pub overflow_add-result : goal.overflow_add-result
overflow_add-result c =
    let t = top_bounds c.requires.0 in omega (arith, c.temporary_count-temporaries.ensures, c.header.ensures, c.first_temporary.ensures)

pub overflow_add-result-2 : goal.overflow_add-result-2
overflow_add-result-2 c =
    let t = top_bounds c.requires.0 in let h = c.requires.1 in omega (arith, c.temporary_count-temporaries.ensures, c.header.ensures, c.first_temporary.ensures)

pub returns : goal.returns
returns c =
    let h = c.requires.1 in record { below = omega arith; stands = omega (arith, c.temporary_count-temporaries.ensures, c.header.ensures, c.first_temporary.ensures) }
