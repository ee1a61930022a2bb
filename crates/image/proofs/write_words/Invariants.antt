-- The bytes of the first i words are stored.
use Prim.Native.Nat.{◌*◌}
use mathlib.Core.Path.{◌≡◌}
use lib.ListN.{length, take}
use lib.Seq.{sets}
use Rattle.model.specs.Image.{bytes_of}
use Rattle.image.proofs.write_words.Given as goal

abbrev pub invariant-loop-i : goal.invariant-loop-i
invariant-loop-i l = (l.output ≡ sets l.initial.output (2 * l.at) (bytes_of (take l.i l.words))) × (length l.output ≡ length l.initial.output)
