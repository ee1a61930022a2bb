use native.Mathlib.Omega.{arith}
use mathlib.Core.Path.{◌∙◌}
use Rattle.calls.proofs.Lists.{within, begin_fits, run_fits, reads_begin, reads_run, reads_drop, reads_forget}
use Rattle.calls.specs.Listing.{listed}
use Rattle.calls.proofs.call_at.Goals as goal

pub offset_bounds-calls-i : goal.offset_bounds-calls-i
offset_bounds-calls-i c = let h = within c.args.calls.now c.args.i c.requires in omega arith

pub bounds-calls-i : goal.bounds-calls-i
bounds-calls-i c = within c.args.calls.now c.args.i c.requires

pub begin_at-requires : goal.begin_at-requires
begin_at-requires c =
    let args = c.args in
    begin_fits args.calls.now args.i (within args.calls.now args.i c.requires) c.in-0.is c.requires

pub returns-in-0 : goal.returns-in-0
returns-in-0 c =
    let args = c.args in
    (c.begin_at.ensures.0 ∙ reads_begin args.calls.now args.i c.in-0.is, c.begin_at.ensures.1)

pub run_at-requires : goal.run_at-requires
run_at-requires c =
    let args = c.args in
    run_fits args.calls.now args.i (within args.calls.now args.i c.requires) c.in-1.is c.requires

pub returns-in-1 : goal.returns-in-1
returns-in-1 c =
    let args = c.args in
    let e = c.in-1.is in
    (c.run_at.ensures.0 ∙ reads_run args.calls.now args.i (λ z. omega arith) e, c.run_at.ensures.1)

pub returns-in-2 : goal.returns-in-2
unfolding listed
returns-in-2 c =
    let args = c.args in
    let e = c.in-2.is in
    (reads_drop args.calls.now args.i (λ z. omega arith) (λ z. omega arith) e, tt)

pub returns-in_default : goal.returns-in_default
unfolding listed
returns-in_default c =
    let args = c.args in
    (reads_forget args.calls.now args.i (λ z. omega arith) (λ z. omega arith) (λ z. omega arith), tt)
