use native.Mathlib.Omega.{arith}
use Rattle.plain.proofs.RunningLaws.{top_bounds, is_method}
use Rattle.runs.proofs.frame_end.Goals as goal

pub overflow_add-method : goal.overflow_add-method
overflow_add-method c =
    let t = top_bounds c.requires in
    omega arith

pub offset_bounds-stack-top : goal.offset_bounds-stack-top
offset_bounds-stack-top c =
    let t = top_bounds c.requires in
    omega arith

pub bounds-stack-top : goal.bounds-stack-top
bounds-stack-top c =
    let t = top_bounds c.requires in
    omega arith

pub end_of-requires : goal.end_of-requires
end_of-requires c =
    (record { right = (_, c.requires.right); kinds = is_method c.requires }, let t = top_bounds c.requires in omega arith)

pub returns : goal.returns
returns c =
    (c.end_of.ensures.0, let t = top_bounds c.requires in let e = c.end_of.ensures.0 in omega arith)
