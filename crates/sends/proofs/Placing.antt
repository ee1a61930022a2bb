-- Arguments in the stack, the base of a new frame, and its words written into a part of the stack.
use Prim.Native.Nat.{ℕ, zero, suc, ◌+◌, ◌-◌, ◌/◌, ◌%◌, ◌≤◌, ◌<◌}
use mathlib.Core.Path.{◌≡◌, refl, sym, ap, ap₂, ◌∙◌, subst}
use mathlib.Core.Bool.{Bool, true, false, ◌&&◌}
use mathlib.Core.List.{List, [], ◌∷◌, ◌++◌, append-nil}
use native.Mathlib.Omega.{arith}
use borrow.Author.Tests.{eq-eqb, ne_eqb, le-leb, lt-leb}
use lib.Dec.{T, leb, eqb}
use lib.ListN.{length, get_or, take, drop, set, length-drop, drop_of_length-le}
use lib.Seq.{sets, take_all, get_or-take, get_or-drop}
use Rattle.bytecode.proofs.Choice.{if_yes, if_no}
use Rattle.model.specs.Limits.{class_kind, most_stack_words}
use Rattle.model.specs.Word.{is_valid, integer_class}
use Rattle.model.specs.Objects.{Objects, is_kind, is_nil_or, class_of, class_word, part}
use Rattle.model.specs.Rules.{Right}
use Rattle.model.proofs.Facts.{Valid, odd, names, valid_cases, entry_class, integer_class_lem}
use Rattle.model.proofs.Parts.{or_right}
use Rattle.plain.specs.State.{fits_stack}

-- ---- words of the stack

pub argument_none : (l : List ℕ) (from count i : ℕ) → count ≤ i → 0 ≡ get_or (part l from count) i 0
argument_none l from count i h = go (drop from l) count i h
  where
    go : (xs : List ℕ) (k j : ℕ) → k ≤ j → 0 ≡ get_or (take k xs) j 0
    go xs zero j l = refl
    go [] (suc k) j l = refl
    go (x ∷ xs) (suc k) zero l = absurd (omega arith)
    go (x ∷ xs) (suc k) (suc j) l = go xs k j (omega arith)

pub argument_at : (l : List ℕ) (from count i : ℕ) → i < count → get_or l (from + i) 0 ≡ get_or (part l from count) i 0
argument_at l from count i h = sym (get_or-take count (drop from l) i 0 h ∙ get_or-drop from l i 0)

-- ---- the base of a frame

module _ (room base words : ℕ) where
  pub fits_not : room < base + words → fits_stack room base words ≡ false
  unfolding fits_stack
  fits_not h = ap (λ (t : Bool). t && leb (base + words) most_stack_words) (lt-leb (base + words) room h)

  pub fits_over : base + words ≤ room → 65536 < base + words → fits_stack room base words ≡ false
  unfolding fits_stack
  fits_over h g = ap₂ ◌&&◌ (le-leb (base + words) room h) (lt-leb (base + words) most_stack_words g)

  pub fits_both : base + words ≤ room → base + words ≤ 65536 → fits_stack room base words ≡ true
  unfolding fits_stack
  fits_both h g = ap₂ ◌&&◌ (le-leb (base + words) room h) (le-leb (base + words) most_stack_words g)

-- the class of a valid word is a class
pub class_starts : {e : ℕ} {o : Objects} (r : Right e o) (w c : ℕ) → T (is_valid o.n w) → c ≡ class_of o w → T (is_nil_or o class_kind c)
unfolding class_of
class_starts {o} r w c v e = subst (λ (k : ℕ). T (is_nil_or o class_kind k)) (sym e) (go (valid_cases o.n w v))
  where
    go : Valid o.n w → T (is_nil_or o class_kind (class_of o w))
    go (odd h) =
        subst (λ (k : ℕ). T (is_nil_or o class_kind k)) (sym (if_yes _ _ (eq-eqb (w % 2) 1 h)))
        (or_right (eqb integer_class 2) (is_kind o class_kind integer_class) (integer_class_lem r))
    go (names a d g) =
        subst (λ (k : ℕ). T (is_nil_or o class_kind k)) (sym (if_no _ _ (ne_eqb (w % 2) 1 (omega arith))))
        (or_right (eqb (class_word o (w / 2)) 2) (is_kind o class_kind (class_word o (w / 2))) (entry_class r (w / 2) d g))

-- ---- words written into the part from a base on

part_sets : (ws l : List ℕ) (base : ℕ) → base ≤ length l → take base l ++ sets (drop base l) 0 ws ≡ sets l base ws
part_sets ws l base h = go ws l base 0 h ∙ ap (λ (k : ℕ). sets l k ws) (plus_zero base)
  where
    plus_zero : (k : ℕ) → k + 0 ≡ k
    plus_zero k = omega arith

    go : (ws l : List ℕ) (k i : ℕ) → k ≤ length l → take k l ++ sets (drop k l) i ws ≡ sets l (k + i) ws
    go [] l k i h = lib.ListN.take-append-drop k l
    go (w ∷ ws) l k i h =
        ap₂ (λ (xs ys : List ℕ). xs ++ sets ys (suc i) ws) (front l k i w) (behind l k i w h)
        ∙ go ws (set l (k + i) w) k (suc i) (subst (λ (n : ℕ). k ≤ n) (sym (lib.ListN.length-set l (k + i) w)) h)
        ∙ ap (λ (j : ℕ). sets (set l (k + i) w) j ws) (plus_suc k i)
      where
        plus_suc : (a b : ℕ) → a + suc b ≡ suc (a + b)
        plus_suc a b = omega arith

        front : (l : List ℕ) (k i w : ℕ) → take k l ≡ take k (set l (k + i) w)
        front l k i w = sym (lib.Seq.take-set-le k l (k + i) w (omega arith))

        behind : (l : List ℕ) (k i w : ℕ) → k ≤ length l → set (drop k l) i w ≡ drop k (set l (k + i) w)
        behind l k i w h = sym (lib.Seq.drop-set-add k l i w)

-- A part that is lent up to the end, and given back with words written at its front
pub lent_sets : {ys : List ℕ} (ws xs : List ℕ) (base : ℕ) → base ≤ length xs → ys ≡ sets (part xs base (length xs - base)) 0 ws
    → take base xs ++ (ys ++ drop (length xs - base) (drop base xs)) ≡ sets xs base ws
lent_sets ws xs base h e =
    ap₂ (λ (y z : List ℕ). take base xs ++ (y ++ z)) (e ∙ ap (λ (l : List ℕ). sets l 0 ws) whole) none
    ∙ ap (λ (y : List ℕ). take base xs ++ y) (append-nil (sets (drop base xs) 0 ws)) ∙ part_sets ws xs base h
  where
    long : length (drop base xs) ≤ length xs - base
    long = let q = length-drop base xs in omega arith

    whole : take (length xs - base) (drop base xs) ≡ drop base xs
    whole = take_all (length xs - base) (drop base xs) long

    none : drop (length xs - base) (drop base xs) ≡ []
    none = drop_of_length-le (drop base xs) long
