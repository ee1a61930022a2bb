-- The digits of the tenth, then one more.
use mathlib.Core.Path.{ap}
use mathlib.Core.List.{List}
use Prim.Native.Nat.{ℕ}
use native.Mathlib.Omega.{arith}
use lib.ListN.{length}
use Rattle.lines.proofs.Digits.{one_digit, length_more}
use Rattle.lines.proofs.Puts.{put_one, put_more}
use Rattle.lines.proofs.+put_number.Goals as goal

pub bounds-out-at : goal.bounds-out-at
bounds-out-at t c = let e = ap (λ (ds : List ℕ). length ds) (one_digit c.args.n c.if-n-lt10.true) in omega arith

pub returns-then-n-lt10 : goal.returns-then-n-lt10
returns-then-n-lt10 t c = put_one _ _ _ c.if-n-lt10.true

pub put_number-end-requires : goal.put_number-end-requires
put_number-end-requires t c =
    let e = length_more c.args.n c.if-n-lt10.false in (omega arith, omega arith)

pub bounds-out-end : goal.bounds-out-end
bounds-out-end t c =
    let e = length_more c.args.n c.if-n-lt10.false in let r = c.put_number-end.ensures.0 in let k = c.put_number-end.auto.out in omega arith

pub overflow_add-result-2 : goal.overflow_add-result-2
overflow_add-result-2 t c =
    let e = length_more c.args.n c.if-n-lt10.false in let r = c.put_number-end.ensures.0 in let k = c.put_number-end.auto.out in omega arith

pub returns : goal.returns
returns t c = put_more _ _ _ _ _ c.if-n-lt10.false c.put_number-end.ensures
