-- Seven parts, of at most 41 bytes together.
use native.Mathlib.Omega.{arith}
use Rattle.lines.proofs.Digits.{word_digits, count_digits}
use Rattle.lines.proofs.Whole.{run_put}
use Rattle.lines.proofs.write_run.Goals as goal

pub put_number-b-requires : goal.put_number-b-requires
put_number-b-requires c =
    let d0 = word_digits _ c.ranges.phase.fits in let d1 = count_digits _ c.ranges.count.fits in let d2 = word_digits _
    c.ranges.value.fits in let e0 = c.put_text-a.ensures.0 in let k0 = c.put_text-a.auto.out in omega (arith, c.requires)

pub put_text-c-requires : goal.put_text-c-requires
put_text-c-requires c =
    let d0 = word_digits _ c.ranges.phase.fits in let d1 = count_digits _ c.ranges.count.fits in let d2 = word_digits _
    c.ranges.value.fits in let e0 = c.put_text-a.ensures.0 in let k0 = c.put_text-a.auto.out in let e1 =
    c.put_number-b.ensures.0 in let k1 = c.put_number-b.auto.out in omega (arith, c.requires)

pub put_number-d-requires : goal.put_number-d-requires
put_number-d-requires c =
    let d0 = word_digits _ c.ranges.phase.fits in let d1 = count_digits _ c.ranges.count.fits in let d2 = word_digits _
    c.ranges.value.fits in let e0 = c.put_text-a.ensures.0 in let k0 = c.put_text-a.auto.out in let e1 =
    c.put_number-b.ensures.0 in let k1 = c.put_number-b.auto.out in let e2 = c.put_text-c.ensures.0 in let k2 =
    c.put_text-c.auto.out in omega (arith, c.requires)

pub put_text-e-requires : goal.put_text-e-requires
put_text-e-requires c =
    let d0 = word_digits _ c.ranges.phase.fits in let d1 = count_digits _ c.ranges.count.fits in let d2 = word_digits _
    c.ranges.value.fits in let e0 = c.put_text-a.ensures.0 in let k0 = c.put_text-a.auto.out in let e1 =
    c.put_number-b.ensures.0 in let k1 = c.put_number-b.auto.out in let e2 = c.put_text-c.ensures.0 in let k2 =
    c.put_text-c.auto.out in let e3 = c.put_number-d.ensures.0 in let k3 = c.put_number-d.auto.out in omega (arith, c.requires)

pub put_number-f-requires : goal.put_number-f-requires
put_number-f-requires c =
    let d0 = word_digits _ c.ranges.phase.fits in let d1 = count_digits _ c.ranges.count.fits in let d2 = word_digits _
    c.ranges.value.fits in let e0 = c.put_text-a.ensures.0 in let k0 = c.put_text-a.auto.out in let e1 =
    c.put_number-b.ensures.0 in let k1 = c.put_number-b.auto.out in let e2 = c.put_text-c.ensures.0 in let k2 =
    c.put_text-c.auto.out in let e3 = c.put_number-d.ensures.0 in let k3 = c.put_number-d.auto.out in let e4 =
    c.put_text-e.ensures.0 in let k4 = c.put_text-e.auto.out in omega (arith, c.requires)

pub put_text-requires : goal.put_text-requires
put_text-requires c =
    let d0 = word_digits _ c.ranges.phase.fits in let d1 = count_digits _ c.ranges.count.fits in let d2 = word_digits _
    c.ranges.value.fits in let e0 = c.put_text-a.ensures.0 in let k0 = c.put_text-a.auto.out in let e1 =
    c.put_number-b.ensures.0 in let k1 = c.put_number-b.auto.out in let e2 = c.put_text-c.ensures.0 in let k2 =
    c.put_text-c.auto.out in let e3 = c.put_number-d.ensures.0 in let k3 = c.put_number-d.auto.out in let e4 =
    c.put_text-e.ensures.0 in let k4 = c.put_text-e.auto.out in let e5 = c.put_number-f.ensures.0 in let k5 =
    c.put_number-f.auto.out in omega (arith, c.requires)

pub returns : goal.returns
returns c =
    run_put _ _ _ _ _ _ _ _ _ _ _ _ _ _ _ _ _ _ c.requires c.ranges.phase.fits c.ranges.count.fits c.ranges.value.fits
    c.put_text-a.ensures c.put_number-b.ensures c.put_text-c.ensures c.put_number-d.ensures
    c.put_text-e.ensures c.put_number-f.ensures c.put_text.ensures
