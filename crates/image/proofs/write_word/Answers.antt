-- Two stores are the two bytes of a word.
use Prim.Native.Nat.{ℕ, suc, ◌*◌, ◌/◌, ◌%◌}
use mathlib.Core.Path.{◌≡◌, ap, ap₂, ◌∙◌}
use native.Mathlib.Omega.{arith}
use native.Mathlib.Numerals.{add-one}
use lib.ListN.{set, get_or}
use Rattle.model.specs.Image.{bytes_of}
use Rattle.image.proofs.write_word.Goals as goal

pub returns : goal.returns
unfolding bytes_of
returns c =
    let i = 2 * c.args.i in
    let bytes = c.to_be_bytes.ensures in
    let high : get_or c.to_be_bytes.result 0 0 ≡ c.args.w / 256 = ap (λ l. get_or l 0 0) bytes ∙ omega arith in
    let low : get_or c.to_be_bytes.result 1 0 ≡ c.args.w % 256 = ap (λ l. get_or l 1 0) bytes ∙ omega arith in
    simp add-one (ap₂ (λ (a b : ℕ). set (set c.args.output.now i a) (suc i) b) high low)
