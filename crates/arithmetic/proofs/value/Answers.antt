-- `arithmetic::value` meets its contract: the word raised by 16,384 integers is a natural number.
use Rattle.std.proofs.Common.{pos, ◌-ℤ◌, ◌∙◌, arith}
use mir.Syntax.{w32}
use mir.ValLaws.{to_z_pos}
use Rattle.arithmetic.proofs.Machine.{literal, gives}
use Rattle.arithmetic.proofs.Magnitude.{fits, difference_mag}
use Rattle.arithmetic.proofs.Values.{raised_word, lowered}
use Rattle.arithmetic.proofs.value.Goals as goal

pub returns : goal.returns
returns c =
    let w = c.args.w in
    let h = difference_mag (pos (raised_word w)) (pos 16384) in
    gives ◌-ℤ◌ (to_z_pos w32 (raised_word w) (omega arith)) (literal (pos 16384)) (fits 65536 (omega arith) (omega arith)) ∙ lowered w c.ranges.w.fits
