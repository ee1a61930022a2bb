-- `arithmetic::left` meets its contract.
use Rattle.std.proofs.Common.{ℕ, ◌≤◌, ◌^◌, min, pos, ◌*ℤ◌, ap, ◌∙◌, arith}
use mir.Syntax.{w32}
use mir.Val.{SFits}
use Rattle.model.specs.Arithmetic.{number}
use Rattle.arithmetic.proofs.Machine.{read, reads, asks, gives}
use Rattle.arithmetic.proofs.Shifts.{small_power, left_fits, left_capped}
use Rattle.arithmetic.proofs.left.Goals as goal

small_fits : (n : ℕ) → n ≤ 15 → SFits w32 (pos (2 ^ n))
small_fits n h = let p = small_power n h in record { sfits = omega arith }

pub overflow_mul-a : goal.overflow_mul-a
overflow_mul-a c =
    let n = c.args.n in
    let e = reads (c.power.ensures ∙ ap (λ (k : ℕ). pos (2 ^ k)) c.min.ensures) (small_fits (min n 15) (omega arith)) in
    asks ◌*ℤ◌ (read c.ranges.a) e (left_fits c.args.a (min n 15) c.requires (omega arith))

pub returns : goal.returns
returns c =
    let n = c.args.n in
    let e = reads (c.power.ensures ∙ ap (λ (k : ℕ). pos (2 ^ k)) c.min.ensures) (small_fits (min n 15) (omega arith)) in
    c.number.ensures
    ∙ ap number (gives ◌*ℤ◌ (read c.ranges.a) e (left_fits c.args.a (min n 15) c.requires (omega arith)))
    ∙ left_capped c.args.a n
