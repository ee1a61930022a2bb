-- The part that was filled, put back in its place.
use Prim.Native.Nat.{ℕ, ◌+◌}
use mathlib.Core.Path.{◌≡◌, ap, ◌∙◌}
use native.Mathlib.Omega.{arith}
use lib.ListN.{replicate}
use lib.Seq.{sets}
use Rattle.std.proofs.lemmas.List.Edits.{length-between}
use Rattle.std.proofs.Common.{rules}
use Rattle.words.proofs.Runs.{stored}
use Rattle.words.proofs.fill.Goals as goal

pub returns : goal.returns
returns c =
    let args = c.args in
    let part = length-between args.words.now args.at (args.at + args.count) c.requires in
    let e : c.fill.new.self ≡ replicate args.count args.w =
    c.fill.ensures.after (λ y h. search rules) ∙ ap (λ (k : ℕ). replicate k args.w) (omega arith) in
    stored args.words.now c.fill.new.self args.at _ (omega arith) (omega arith)
    ∙ ap (sets args.words.now args.at) e
