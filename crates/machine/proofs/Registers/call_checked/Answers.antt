use native.Mathlib.Omega.{arith}
use mathlib.Core.Path.{◌∙◌}
use Rattle.std.proofs.lemmas.Result.{err_from_is_err_and}
use Rattle.machine.specs.State.{state}
use Rattle.machine.proofs.Replying.{begin_inside, begin_called, run_called, drops_checked, forgets_checked}
use Rattle.machine.proofs.Registers.call_checked.Goals as goal

pub offset_bounds-calls-from : goal.offset_bounds-calls-from
offset_bounds-calls-from c =
    let k = begin_inside c.call_at.result _ _ _ _ _ c.call_at.ensures.1 c.in-Begin.is in omega (arith, c.well_formed)

pub slice_bounds-arguments-count : goal.slice_bounds-arguments-count
slice_bounds-arguments-count c = let k = begin_inside c.call_at.result _ _ _ _ _ c.call_at.ensures.1 c.in-Begin.is in omega arith

pub slice_bounds-arguments-start : goal.slice_bounds-arguments-start
slice_bounds-arguments-start c = let k = begin_inside c.call_at.result _ _ _ _ _ c.call_at.ensures.1 c.in-Begin.is in omega arith

pub slice_bounds-arguments-end : goal.slice_bounds-arguments-end
slice_bounds-arguments-end c = let k = begin_inside c.call_at.result _ _ _ _ _ c.call_at.ensures.1 c.in-Begin.is in omega arith

pub returns-in_err-registers-in-Begin : goal.returns-in_err-registers-in-Begin
returns-in_err-registers-in-Begin c =
    let a = c.args in
    let p = err_from_is_err_and c.from_residual.result c.from_residual.ensures.1 in
    rw (p.1, p.2) (c.in_err-registers-in-Begin.ensures ∙ begin_called (state a.self a.contents.now a.bodies.now a.stack.now a.cache.now) a.calls.now _ c.call_at.result c.call_at.ensures.0 _ _ _ _ c.in-Begin.is)

pub returns-in_ok-registers-in-Begin : goal.returns-in_ok-registers-in-Begin
returns-in_ok-registers-in-Begin c =
    let a = c.args in
    c.in_ok-registers-in-Begin.ensures ∙ begin_called (state a.self a.contents.now a.bodies.now a.stack.now a.cache.now) a.calls.now _ c.call_at.result c.call_at.ensures.0 _ _ _ _ c.in-Begin.is

pub returns-in_err-ran-in-Run : goal.returns-in_err-ran-in-Run
returns-in_err-ran-in-Run c =
    let a = c.args in
    let p = err_from_is_err_and c.from_residual-in_err-ran-in-Run.result c.from_residual-in_err-ran-in-Run.ensures.1 in
    rw (p.1, p.2) (c.in_err-ran-in-Run.ensures ∙ run_called (state a.self a.contents.now a.bodies.now a.stack.now a.cache.now) a.calls.now _ c.call_at.result c.call_at.ensures.0 _ c.in-Run.is)

pub returns-in_ok-ran-in-Run : goal.returns-in_ok-ran-in-Run
returns-in_ok-ran-in-Run c =
    let a = c.args in
    c.in_ok-ran-in-Run.ensures ∙ run_called (state a.self a.contents.now a.bodies.now a.stack.now a.cache.now) a.calls.now _ c.call_at.result c.call_at.ensures.0 _ c.in-Run.is

pub returns-in-Drop : goal.returns-in-Drop
returns-in-Drop c =
    let a = c.args in drops_checked a.self a.contents.now a.bodies.now a.stack.now a.cache.now a.calls.now _ c.call_at.result c.call_at.ensures.0 c.requires.cache_value _ c.with_phase.ensures c.in-Drop.is

pub returns-in-Forget : goal.returns-in-Forget
returns-in-Forget c =
    let a = c.args in forgets_checked a.self a.contents.now a.bodies.now a.stack.now a.cache.now a.calls.now _ c.call_at.result c.call_at.ensures.0 c.requires.cache_value _ (c.fill.ensures.after (λ y q. q)) c.in-Forget.is
