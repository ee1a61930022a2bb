-- The words before i are the image's.
use Prim.Native.Nat.{ℕ, ◌+◌, ◌<◌}
use mathlib.Core.Path.{◌≡◌}
use lib.ListN.{length, get_or}
use Rattle.model.specs.Image.{words_of}
use Rattle.image.proofs.read_words.Given as goal

abbrev pub invariant-loop-i : goal.invariant-loop-i
invariant-loop-i l =
    (length l.words ≡ length l.initial.words) × ((k : ℕ) → k < l.i → get_or l.words k 0 ≡ get_or (words_of l.image) (l.from + k) 0)
