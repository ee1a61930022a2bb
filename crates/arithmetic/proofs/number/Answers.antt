-- `arithmetic::number` meets its contract: its test is the range.
use Rattle.std.proofs.Common.{◌≤◌, ◌<◌, Some, sym, ap, ◌∙◌, arith}
use Rattle.std.specs.Int.Signed.{mag}
use Rattle.std.proofs.lemmas.Grind.{common_steps}
use Rattle.model.specs.Limits.{largest_integer}
use Rattle.model.specs.Word.{word_of}
use Rattle.arithmetic.proofs.Machine.{read}
use Rattle.arithmetic.proofs.Ranges.{in_range, out_of_range}
use Rattle.arithmetic.proofs.number.Goals as goal

pub returns-then-contains : goal.returns-then-contains
returns-then-contains c =
    let h : mag c.args.z ≤ largest_integer = grind (arith, common_steps) in
    ap Some (c.word.ensures ∙ ap word_of (read c.ranges.z)) ∙ sym (in_range c.args.z h)

pub returns-else-contains : goal.returns-else-contains
returns-else-contains c =
    let h : largest_integer < mag c.args.z = grind (arith, common_steps) in sym (out_of_range c.args.z h)
