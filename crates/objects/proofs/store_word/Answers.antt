use Prim.Native.Nat.{ℕ, ◌+◌}
use mathlib.Core.Path.{ap}
use native.Mathlib.Omega.{arith}
use Rattle.objects.proofs.Buffers.{stored}
use Rattle.objects.proofs.store_word.Goals as goal

pub returns : goal.returns
returns c =
    let args = c.args in
    let h = c.requires in
    let s = c.start.ensures in
    stored args.n args.b args.contents.now args.bodies.now _ _ _ (c.start.result + args.i) h.words (ap (λ (x : ℕ). x + args.i) s) (omega arith)
