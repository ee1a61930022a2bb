-- Words of bytes and bytes of words: what stands where, and that each undoes the other.
use Prim.Native.Nat.{ℕ, zero, suc, ◌+◌, ◌*◌, ◌/◌, ◌%◌, ◌≤◌, ◌<◌}
use mathlib.Core.Path.{◌≡◌, refl, sym, ap, ap₂, ◌∙◌}
use mathlib.Core.List.{List, [], ◌∷◌, ◌++◌}
use native.Mathlib.Omega.{arith}
use native.Mathlib.Numerals.{add-one}
use lib.ListN.{length, get_or, take, get_or-eq_default}
use lib.Seq.{sets, take-suc, length-take-le}
use Rattle.model.specs.Image.{words_of, bytes_of}
use Rattle.model.proofs.Parts.{sets_append}

two : (i : ℕ) → 2 * suc i ≡ suc (suc (2 * i))
two i = omega arith

two_one : (i : ℕ) → 2 * suc i + 1 ≡ suc (suc (2 * i + 1))
two_one i = omega arith

-- a last single byte makes no word
pub length_words : (bs : List ℕ) → length (words_of bs) ≡ length bs / 2
unfolding words_of
length_words [] = refl
length_words (x ∷ []) = refl
length_words (x ∷ y ∷ bs) = let h = length_words bs in omega arith

pub words_inside : (bs : List ℕ) (i : ℕ) → 2 * i + 1 < length bs → get_or (words_of bs) i 0 ≡ get_or bs (2 * i) 0 * 256 + get_or bs (2 * i + 1) 0
unfolding words_of
words_inside [] i h = absurd (omega arith)
words_inside (x ∷ []) i h = absurd (omega arith)
words_inside (x ∷ y ∷ bs) zero h = refl
words_inside (x ∷ y ∷ bs) (suc i) h =
    words_inside bs i (omega arith) ∙ sym (ap₂ (λ (a b : ℕ). get_or (x ∷ y ∷ bs) a 0 * 256 + get_or (x ∷ y ∷ bs) b 0) (two i) (two_one i))

pub words_outside : (bs : List ℕ) (i : ℕ) → length bs ≤ 2 * i + 1 → get_or (words_of bs) i 0 ≡ 0
words_outside bs i h = let l = length_words bs in get_or-eq_default (words_of bs) 0 (omega arith)

pub length_bytes : (ws : List ℕ) → length (bytes_of ws) ≡ 2 * length ws
unfolding bytes_of
length_bytes [] = refl
length_bytes (w ∷ ws) = let h = length_bytes ws in omega arith

pub bytes_append : (vs ws : List ℕ) → bytes_of (vs ++ ws) ≡ bytes_of vs ++ bytes_of ws
unfolding bytes_of
bytes_append [] ws = refl
bytes_append (v ∷ vs) ws = ap (λ (l : List ℕ). (v / 256) ∷ (v % 256) ∷ l) (bytes_append vs ws)

-- Each undoes the other: for every word, and for whole words of bytes.
pub words_bytes : (ws : List ℕ) → words_of (bytes_of ws) ≡ ws
unfolding words_of bytes_of
words_bytes [] = refl
words_bytes (w ∷ ws) = ap₂ ◌∷◌ (whole w) (words_bytes ws)
  where
    whole : (w : ℕ) → w / 256 * 256 + w % 256 ≡ w
    whole w = omega arith

pub bytes_words : (bs : List ℕ) → length bs % 2 ≡ 0 → ((i : ℕ) → i < length bs → get_or bs i 0 < 256) → bytes_of (words_of bs) ≡ bs
unfolding words_of bytes_of
bytes_words [] e h = refl
bytes_words (x ∷ []) e h = absurd (omega arith)
bytes_words (x ∷ y ∷ bs) e h =
    let a : x < 256 = h 0 (omega arith) in
    let b : y < 256 = h 1 (omega arith) in
    ap₂ (λ (u v : ℕ). u ∷ v ∷ bytes_of (words_of bs)) (high x y b) (low x y b)
    ∙ ap (λ (l : List ℕ). x ∷ y ∷ l) (bytes_words bs (omega arith) (λ i l. h (suc (suc i)) (omega arith)))
  where
    high : (x y : ℕ) → y < 256 → (x * 256 + y) / 256 ≡ x
    high x y l = omega arith

    low : (x y : ℕ) → y < 256 → (x * 256 + y) % 256 ≡ y
    low x y l = omega arith

-- one more word behind those that stand
written_next : (l : List ℕ) (at i : ℕ) (ws : List ℕ) → i < length ws
    → sets (sets l (2 * at) (bytes_of (take i ws))) (2 * (at + i)) (bytes_of (get_or ws i 0 ∷ [])) ≡ sets l (2 * at) (bytes_of (take (i + 1) ws))
written_next l at i ws h =
    ap (λ (k : ℕ). sets (sets l (2 * at) (bytes_of (take i ws))) k (bytes_of (get_or ws i 0 ∷ []))) there
    ∙ sym (sets_append l (2 * at) (bytes_of (take i ws)) (bytes_of (get_or ws i 0 ∷ [])))
    ∙ ap (sets l (2 * at)) (sym (bytes_append (take i ws) (get_or ws i 0 ∷ [])) ∙ ap bytes_of (sym (take-suc ws i 0 h) ∙ ap (λ (k : ℕ). take k ws) (sym (add-one i))))
  where
    there : 2 * (at + i) ≡ 2 * at + length (bytes_of (take i ws))
    there = let a = length_bytes (take i ws) in let b = length-take-le i ws (omega arith) in omega arith

-- What a function that stores a word leaves, after those before it
pub written_more : {out next : List ℕ} (l : List ℕ) (at i : ℕ) (ws : List ℕ) → i < length ws → out ≡ sets l (2 * at) (bytes_of (take i ws))
    → next ≡ sets out (2 * (at + i)) (bytes_of (get_or ws i 0 ∷ [])) → next ≡ sets l (2 * at) (bytes_of (take (i + 1) ws))
written_more l at i ws h p q =
    q ∙ ap (λ (o : List ℕ). sets o (2 * (at + i)) (bytes_of (get_or ws i 0 ∷ []))) p ∙ written_next l at i ws h

pub written_five : {l1 l2 l3 l4 l5 : List ℕ} (l : List ℕ) (a b c d e : ℕ) → l1 ≡ sets l 0 (bytes_of (a ∷ [])) → l2 ≡ sets l1 2 (bytes_of (b ∷ [])) → l3 ≡ sets l2 4 (bytes_of (c ∷ []))
    → l4 ≡ sets l3 6 (bytes_of (d ∷ [])) → l5 ≡ sets l4 8 (bytes_of (e ∷ [])) → l5 ≡ sets l 0 (bytes_of (a ∷ b ∷ c ∷ d ∷ e ∷ []))
unfolding bytes_of
written_five l a b c d e p q r s t =
    t ∙ ap (λ (o : List ℕ). sets o 8 (bytes_of (e ∷ []))) (s ∙ ap (λ (o : List ℕ). sets o 6 (bytes_of (d ∷ [])))
    (r ∙ ap (λ (o : List ℕ). sets o 4 (bytes_of (c ∷ []))) (q ∙ ap (λ (o : List ℕ). sets o 2 (bytes_of (b ∷ []))) p)))
