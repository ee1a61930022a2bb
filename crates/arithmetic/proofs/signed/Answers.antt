-- `arithmetic::signed` meets its contract: the word raised by 32,768 is a natural number.
use Rattle.std.proofs.Common.{pos, ◌-ℤ◌, ◌∙◌, arith}
use mir.Syntax.{w32}
use mir.ValLaws.{to_z_pos}
use Rattle.arithmetic.proofs.Machine.{literal, gives}
use Rattle.arithmetic.proofs.Magnitude.{fits, difference_mag}
use Rattle.arithmetic.proofs.Tags.{raised_signed, signed_word}
use Rattle.arithmetic.proofs.signed.Goals as goal

pub returns : goal.returns
returns c =
    let w = c.args.w in
    let h = difference_mag (pos (raised_signed w)) (pos 32768) in
    gives ◌-ℤ◌ (to_z_pos w32 (raised_signed w) (omega arith)) (literal (pos 32768)) (fits 131072 (omega arith) (omega arith)) ∙ signed_word w c.ranges.w.fits c.requires
