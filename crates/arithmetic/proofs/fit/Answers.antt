-- `arithmetic::fit` meets its contract: its test is the range, and the number raised by 65,536 is a natural number.
use Rattle.std.proofs.Common.{◌≤◌, ◌<◌, pos, ◌+ℤ◌, sym, ◌∙◌, arith}
use Rattle.std.specs.Int.Signed.{mag}
use Rattle.std.proofs.lemmas.Grind.{common_steps}
use Rattle.arithmetic.proofs.Machine.{read, literal, gives}
use Rattle.arithmetic.proofs.Magnitude.{fits, sum_mag}
use Rattle.arithmetic.proofs.Tags.{fit_outside, wrapped, fitted}
use Rattle.arithmetic.proofs.fit.Goals as goal

pub returns-then-contains : goal.returns-then-contains
returns-then-contains c a e =
    let z = c.args.z in
    let h : mag z ≤ 32767 = grind (arith, common_steps) in
    let g = sum_mag z (pos 65536) in
    let r = gives ◌+ℤ◌ (read c.ranges.z) (literal (pos 65536)) (fits 131072 (omega arith) (omega arith)) ∙ wrapped z h in
    rw r (fitted a e h)

pub returns-else-contains : goal.returns-else-contains
returns-else-contains c a e =
    let h : 32767 < mag c.args.z = grind (arith, common_steps) in sym (fit_outside a (rw e at h))
