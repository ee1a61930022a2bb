use mathlib.Core.Path.{refl, ap, ◌∙◌}
use mathlib.Core.List.{List, [], ◌∷◌}
use Prim.Native.Nat.{ℕ, ◌+◌, ◌-◌}
use native.Mathlib.Omega.{arith}
use borrow.Rule.Slice.PartMut.{put_mid}
use Rattle.calls.specs.Encoding.{high_word, low_word}
use Rattle.calls.proofs.Lists.{put_part}
use Rattle.calls.proofs.write_answer.Goals as goal

pub returns : goal.returns
returns c =
    let a = c.args.answer in
    let words : List ℕ = a.number ∷ a.phase ∷ a.count ∷ a.value ∷ a.reach ∷ high_word a.dictionaries ∷ low_word a.dictionaries ∷ [] in
    ap (λ (ws : List ℕ). put_mid c.args.at (c.args.at + 7 - c.args.at) c.args.answers.now ws) c.copy_from_slice.ensures.after
    ∙ put_part c.args.answers.now words c.args.at 7 (c.args.at + 7 - c.args.at) refl (omega arith) c.requires
