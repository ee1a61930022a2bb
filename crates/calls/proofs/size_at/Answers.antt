use native.Mathlib.Omega.{arith}
use mathlib.Core.Path.{sym}
use Rattle.calls.proofs.Lists.{size_past, size_begin_short, sized_begin, sized_run, size_one, size_other}
use Rattle.calls.proofs.size_at.Goals as goal

pub returns-then-calls-i : goal.returns-then-calls-i
returns-then-calls-i c = size_past c.args.calls.now c.args.i c.if-calls-i.true

pub returns-then-left-lt4 : goal.returns-then-left-lt4
returns-then-left-lt4 c = size_begin_short c.args.calls.now c.args.i c.if-calls-i.false c.in-0.is c.if-left-lt4.true

pub returns-else-left-lt4 : goal.returns-else-left-lt4
returns-else-left-lt4 c = sized_begin c.args.calls.now c.args.i c.if-calls-i.false c.in-0.is c.if-left-lt4.false c.within.result c.within.ensures

pub returns-in-1 : goal.returns-in-1
returns-in-1 c = sized_run c.args.calls.now c.args.i c.if-calls-i.false c.in-1.is c.within-in-1.result c.within-in-1.ensures

pub returns-in-2 : goal.returns-in-2
returns-in-2 c = (sym (size_one c.args.calls.now c.args.i c.if-calls-i.false (omega arith) (omega arith)), omega arith)

pub returns-in_default : goal.returns-in_default
returns-in_default c = size_other c.args.calls.now c.args.i c.if-calls-i.false (λ z. omega arith) (λ z. omega arith) (λ z. omega arith) (λ z. omega arith)
