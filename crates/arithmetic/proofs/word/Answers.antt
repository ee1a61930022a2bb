-- `arithmetic::word` meets its contract: the integer raised by 16,384 is a natural number.
use Rattle.std.proofs.Common.{pos, ◌+ℤ◌, ◌∙◌, arith}
use Rattle.arithmetic.proofs.Machine.{read, literal, gives}
use Rattle.arithmetic.proofs.Magnitude.{fits, sum_mag}
use Rattle.arithmetic.proofs.Values.{raised, word_of_raised}
use Rattle.arithmetic.proofs.word.Goals as goal

pub returns : goal.returns
returns c =
    let z = c.args.z in
    let h = sum_mag z (pos 16384) in
    let e = gives ◌+ℤ◌ (read c.ranges.z) (literal (pos 16384)) (fits 65536 (omega arith) (omega arith)) ∙ raised z c.requires in
    rw e (word_of_raised z c.requires)
