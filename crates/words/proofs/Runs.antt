-- Runs of stores: one more at the end, and at the front of a buffer.
use Rattle.std.proofs.Common.{append_assoc}
use Prim.Native.Nat.{ℕ, ◌+◌, ◌≤◌, ◌<◌}
use borrow.Rule.Slice.PartMut.{put_mid}
use mathlib.Core.Path.{◌≡◌, sym, ap, ap₂, ◌∙◌}
use mathlib.Core.List.{List, [], ◌∷◌, ◌++◌}
use native.Mathlib.Omega.{arith}
use native.Mathlib.Numerals.{add-one}
use lib.ListN.{length, get_or, set, take, drop, replicate, length-append, length-drop, length-replicate}
use lib.Seq.{sets, drop-drop, sets-eq, take_at, take-suc, length-take-le, get_or-drop}
use Rattle.model.specs.Objects.{part, at_front}
use Rattle.model.proofs.Parts.{length_part, sets_append}

-- what a write to a part of a buffer leaves
pub stored : (l ws : List ℕ) (at k : ℕ) → length ws ≡ k → at + k ≤ length l → put_mid at k l ws ≡ sets l at ws
stored l ws at k e h =
    ap (λ (r : List ℕ). take at l ++ (ws ++ r)) (drop-drop k at l) ∙ ap (λ (i : ℕ). take at l ++ (ws ++ drop (at + i) l)) (sym e)
    ∙ sym (sets-eq ws l at (omega arith) ∙ append_assoc (take at l) ws (drop (at + length ws) l))

-- one more word of a part that is copied
pub copied_more : (l a : List ℕ) (at from i : ℕ) → from + i < length a
    → sets l at (part a from (i + 1)) ≡ set (sets l at (part a from i)) (at + i) (get_or a (from + i) 0)
copied_more l a at from i h =
    let long = length-drop from a in
    ap (λ (k : ℕ). sets l at (part a from k)) (add-one i) ∙ ap (sets l at) (take-suc (drop from a) i 0 (omega arith))
    ∙ sets_append l at (part a from i) (get_or (drop from a) i 0 ∷ [])
    ∙ ap₂ (λ (k v : ℕ). set (sets l at (part a from i)) (at + k) v) (length-take-le i (drop from a) (omega arith)) (get_or-drop from a i 0)

-- the first two, stored by themselves
pub copied_one : (l a : List ℕ) (at from : ℕ) → from < length a → set l at (get_or a from 0) ≡ sets l at (part a from 1)
copied_one l a at from h = ap₂ (λ (i j : ℕ). set l i (get_or a j 0)) (add_none at) (add_none from) ∙ sym (copied_more l a at from 0 (omega arith))
  where
    add_none : (i : ℕ) → i ≡ i + 0
    add_none i = omega arith

pub copied_two : (l a : List ℕ) (at from : ℕ) → from + 1 < length a → set (set l at (get_or a from 0)) (at + 1) (get_or a (from + 1) 0) ≡ sets l at (part a from 2)
copied_two l a at from h = ap (λ (x : List ℕ). set x (at + 1) (get_or a (from + 1) 0)) (copied_one l a at from (omega arith)) ∙ sym (copied_more l a at from 1 h)

-- A run behind words that stay, and one at the front
pub behind : (l ws : List ℕ) (b : ℕ) → b + length ws ≤ length l → sets l b ws ≡ at_front (take b l ++ ws) l
behind l ws b h = sets-eq ws l b h ∙ ap (λ (k : ℕ). (take b l ++ ws) ++ drop k l) (sym long)
  where
    long : length (take b l ++ ws) ≡ b + length ws
    long = length-append (take b l) ws ∙ ap (λ (k : ℕ). k + length ws) (length-take-le b l (omega arith))

pub in_front : (l ws : List ℕ) {k : ℕ} → length ws ≡ k → k ≤ length l → sets l 0 ws ≡ ws ++ drop k l
in_front l ws e h = behind l ws 0 (omega arith) ∙ ap (λ (k : ℕ). ws ++ drop k l) e

pub filled_front : (l : List ℕ) (count w : ℕ) → count ≤ length l → sets l 0 (replicate count w) ≡ replicate count w ++ drop count l
filled_front l count w h = in_front l (replicate count w) (length-replicate count w) h

pub copied_front : (l a : List ℕ) (from count : ℕ) → from + count ≤ length a → count ≤ length l → sets l 0 (part a from count) ≡ part a from count ++ drop count l
copied_front l a from count g h = in_front l (part a from count) (length_part a from count g) h

-- what was copied to the front stands there
pub copied_stands : (l a : List ℕ) (from count : ℕ) → from + count ≤ length a → count ≤ length l → take count (sets l 0 (part a from count)) ≡ part a from count
copied_stands l a from count g h =
    ap (take count) (copied_front l a from count g h) ∙ take_at (part a from count) (drop count l) count (length_part a from count g)
