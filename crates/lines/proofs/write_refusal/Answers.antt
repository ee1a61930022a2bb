-- Three parts, of at most 19 bytes together.
use native.Mathlib.Omega.{arith}
use Rattle.lines.proofs.Digits.{count_digits}
use Rattle.lines.proofs.Whole.{refusal_put}
use Rattle.lines.proofs.write_refusal.Goals as goal

pub put_number-b-requires : goal.put_number-b-requires
put_number-b-requires c =
    let d0 = count_digits _ c.ranges.number.fits in let e0 = c.put_text-a.ensures.0 in let k0 = c.put_text-a.auto.out in omega (arith, c.requires)

pub put_text-requires : goal.put_text-requires
put_text-requires c =
    let d0 = count_digits _ c.ranges.number.fits in let e0 = c.put_text-a.ensures.0 in let k0 = c.put_text-a.auto.out in let e1 =
    c.put_number-b.ensures.0 in let k1 = c.put_number-b.auto.out in omega (arith, c.requires)

pub returns : goal.returns
returns c =
    refusal_put _ _ _ _ _ _ _ _ c.requires c.ranges.number.fits c.put_text-a.ensures c.put_number-b.ensures c.put_text.ensures
