-- How many words a body has by its kind, and where its words stand in the buffer.
use Prim.Native.Nat.{ℕ, min, ◌+◌, ◌/◌, ◌%◌, ◌≤◌, ◌<◌}
use mathlib.Core.Path.{◌≡◌, sym, ap, ◌∙◌}
use mathlib.Core.Bool.{true, false}
use mathlib.Core.List.{List}
use native.Mathlib.Omega.{arith}
use lib.ListN.{length, get_or, take}
use lib.Seq.{length-take-le, get_or-take}
use Rattle.bytecode.proofs.Choice.{if_no}
use Rattle.bytecode.proofs.TestLaws.{true→T}
use Rattle.model.specs.Objects.{Objects, objects_at, kind, start, size, sized_in_bytes, body_words, body_end, body_word, body_of, part}
use Rattle.model.proofs.Parts.{part_same}
use Rattle.model.proofs.Facts.{in_bytes}

pub body_bytes : (o : Objects) (k s : ℕ) → s ≡ size o k → sized_in_bytes (kind o k) ≡ true → s / 2 + min 1 (s % 2) ≡ body_words o k
body_bytes o k s e t = let q = in_bytes o k (true→T t) in omega arith

pub body_plain : (o : Objects) (k : ℕ) → sized_in_bytes (kind o k) ≡ false → body_words o k ≡ size o k
unfolding body_words
body_plain o k t = if_no _ _ t

module _ (n b : ℕ) (contents bodies : List ℕ) where
  -- a word below b
  pub word_at : (k i at : ℕ) → at ≡ start (objects_at n b contents bodies) k + i → at < b → get_or bodies at 0 ≡ body_word (objects_at n b contents bodies) k i
  word_at k i at e l = sym (get_or-take b bodies at 0 l) ∙ ap (λ (x : ℕ). get_or (take b bodies) x 0) e

  -- a body inside the b words is the same part of the longer buffer
  pub body_part : (k : ℕ) → b ≤ length bodies → body_end (objects_at n b contents bodies) k ≤ b
      → body_of (objects_at n b contents bodies) k ≡ part bodies (start (objects_at n b contents bodies) k) (body_words (objects_at n b contents bodies) k)
  unfolding body_of
  body_part k h g =
      let o : Objects = objects_at n b contents bodies in
      let l : length (take b bodies) ≡ b = length-take-le b bodies h in
      part_same bodies (take b bodies) (start o k) (body_words o k) (omega arith) (omega arith)
      (λ i q. get_or-take b bodies (start o k + i) 0 (omega arith))
