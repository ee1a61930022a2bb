-- The search in a dictionary: how it turns, and that it comes to what the definitions say.
use Prim.Native.Nat.{ℕ, zero, suc, ◌+◌, ◌*◌, ◌-◌, ◌/◌, ◌≤◌, ◌<◌}
use mathlib.Core.Path.{◌≡◌, refl, sym, ap, ◌∙◌, subst}
use mathlib.Core.Bool.{Bool, true, false}
use mathlib.Core.List.{List}
use native.Mathlib.Omega.{arith}
use native.Mathlib.Numerals.{add-one}
use borrow.Author.Tests.{eq-eqb, ne_eqb, ltb-true, ltb-false}
use borrow.Author.Count.{below_more}
use lib.Dec.{ltb}
use lib.ListN.{length, get_or}
use Rattle.std.specs.Prelude.{None}
use Rattle.model.specs.Limits.{list_kind}
use Rattle.model.specs.Word.{object_number}
use Rattle.model.specs.Objects.{Objects, objects_at, start, size, pair_selector, pair_method}
use Rattle.model.specs.Lookup.{found, find_from, find_in, pairs_in, first, all}
use Rattle.model.proofs.Facts.{most_words}
use Rattle.model.proofs.PairLaws.{pairs_are, pairs_few}
use Rattle.model.proofs.Unchanged.{find_hit, find_miss}
use Rattle.readers.proofs.Bodies.{word_at}
use Rattle.readers.proofs.InsideLaws.{word_inside}
use Rattle.objects.specs.Lent.{Holds}
use Rattle.objects.specs.Searches.{IsDictionary, FirstPlace}
use Rattle.objects.proofs.Bodies.{holds_laid}

left_one : (count i : ℕ) → i < count → count - i ≡ suc (count - (i + 1))
left_one count i h = omega arith

-- The pairs that are left, from the first on
module _ (o : Objects) (d s : ℕ) where
  find_next : (count i : ℕ) → i < count → (pair_selector o d i ≡ s → ⊥) → find_from o d s (i + 1) (count - (i + 1)) ≡ find_from o d s i (count - i)
  find_next count i h e =
      ap (λ (k : ℕ). find_from o d s k (count - (i + 1))) (add-one i)
      ∙ sym (find_miss o d s i (count - (i + 1)) (ne_eqb (pair_selector o d i) s e)) ∙ ap (find_from o d s i) (sym (left_one count i h))

  -- none of the first i
  find_skip : (count i : ℕ) → i ≤ count → ((k : ℕ) → k < i → pair_selector o d k ≡ s → ⊥) → find_from o d s i (count - i) ≡ find_from o d s 0 count
  find_skip count zero h f = ap (find_from o d s 0) (all count)
    where
      all : (count : ℕ) → count - 0 ≡ count
      all count = omega arith
  find_skip count (suc i) h f =
      ap (λ (k : ℕ). find_from o d s k (count - k)) (sym (add-one i)) ∙ find_next count i (omega arith) (f i (omega arith)) ∙ find_skip count i (omega arith) (λ k l. f k (omega arith))

module _ {n b : ℕ} {contents bodies : List ℕ} {d : ℕ} (h : Holds list_kind n b contents bodies d) (s : ℕ) {from count : ℕ} (p : from ≡ start (objects_at n b contents bodies) (object_number d))
    (q : count ≡ size (objects_at n b contents bodies) (object_number d) / 2) where
  pair_room : (k : ℕ) → k < count → from + 2 * k + 1 < b
  pair_room k l = let r = (word_inside (holds_laid h) list_kind {i = 2 * k + 1} tt h.kinds (omega arith)).below in omega arith

  pairs_fit : 0 < count → from + 2 * count ≤ length bodies
  pairs_fit l = let r = pair_room (count - 1) (omega arith) in let s = (holds_laid h).words in omega arith

  selector_at : (k : ℕ) → k < count → get_or bodies (from + 2 * k) 0 ≡ pair_selector (objects_at n b contents bodies) d k
  selector_at k l = let r = pair_room k l in word_at n b contents bodies (object_number d) (2 * k) (from + 2 * k) (omega arith) (omega arith)

  method_at : (k : ℕ) → k < count → get_or bodies (from + 2 * k + 1) 0 ≡ pair_method (objects_at n b contents bodies) d k
  method_at k l = let r = pair_room k l in word_at n b contents bodies (object_number d) (2 * k + 1) (from + 2 * k + 1) (omega arith) (omega arith)

  skipped : (i : ℕ) → i ≤ count → ((k : ℕ) → k < i → get_or bodies (from + 2 * k) 0 ≡ s → ⊥) → find_from (objects_at n b contents bodies) d s i (count - i) ≡ find_in (objects_at n b contents bodies) d s
  unfolding find_in
  skipped i l f =
      find_skip (objects_at n b contents bodies) d s count i l (λ k g e. f k g (selector_at k (omega arith) ∙ e)) ∙ ap (find_from (objects_at n b contents bodies) d s 0) q

  found_pair : (i : ℕ) → i < count → ((k : ℕ) → k < i → get_or bodies (from + 2 * k) 0 ≡ s → ⊥) → get_or bodies (from + 2 * i) 0 ≡ s
      → found (get_or bodies (from + 2 * i + 1) 0) ≡ find_in (objects_at n b contents bodies) d s
  found_pair i l f e =
      ap found (method_at i l)
      ∙ sym (find_hit (objects_at n b contents bodies) d s i (count - (i + 1)) (eq-eqb (pair_selector (objects_at n b contents bodies) d i) s (sym (selector_at i l) ∙ e)))
      ∙ ap (find_from (objects_at n b contents bodies) d s i) (sym (left_one count i l)) ∙ skipped i (omega arith) f

  no_pair : (i : ℕ) → i ≤ count → count ≤ i → ((k : ℕ) → k < i → get_or bodies (from + 2 * k) 0 ≡ s → ⊥) → None ≡ find_in (objects_at n b contents bodies) d s
  unfolding find_from
  no_pair i l g f = ap (find_from (objects_at n b contents bodies) d s i) none ∙ skipped i l f
    where
      none : 0 ≡ count - i
      none = omega arith

-- The search in a dictionary: pair `index` is the first whose selector is not smaller, or the last.
module _ {bodies : List ℕ} {from count s : ℕ} where
  pub passed_stop : (i : ℕ) → i < count → ((j : ℕ) → j < i → get_or bodies (from + 2 * j) 0 < s) → s ≤ get_or bodies (from + 2 * i) 0 → FirstPlace bodies from count s (from + 2 * i)
  passed_stop i h b l = record { index = i; place = refl; inside = h; below = b; stops = λ _. l }

  pub passed_all : (i : ℕ) → i < count → ((j : ℕ) → j < i → get_or bodies (from + 2 * j) 0 < s) → count ≤ i + 1 → FirstPlace bodies from count s (from + 2 * (count - 1))
  passed_all i h b l = record { index = i; place = omega arith; inside = h; below = b; stops = λ g. absurd (omega arith) }

-- What it leaves, by the definitions
module _ {n b : ℕ} {contents bodies : List ℕ} {d : ℕ} (h : IsDictionary n b contents bodies d) (s : ℕ) {from count : ℕ} (p : from ≡ start (objects_at n b contents bodies) (object_number d))
    (q : count ≡ size (objects_at n b contents bodies) (object_number d) / 2) where
  selector_is : (k : ℕ) → k < count → get_or bodies (from + 2 * k) 0 ≡ pair_selector (objects_at n b contents bodies) d k
  selector_is = selector_at h.holds s p q

  below_selector : (i : ℕ) → i ≤ count → ((j : ℕ) → j < i → get_or bodies (from + 2 * j) 0 < s) → (j : ℕ) → j < i → pair_selector (objects_at n b contents bodies) d j < s
  below_selector i l f j g = subst (λ (w : ℕ). w < s) (selector_is j (omega arith)) (f j g)

  pub pairs_inside : 0 < count → from + 2 * count ≤ length bodies
  pairs_inside = pairs_fit h.holds s p q

  pairs_most : pairs_in (objects_at n b contents bodies) d s ≤ 12000
  pairs_most = go (ltb 0 count) refl
    where
      few : pairs_in (objects_at n b contents bodies) d s ≤ count
      few = let l = pairs_few (objects_at n b contents bodies) d s in omega arith

      go : (x : Bool) → ltb 0 count ≡ x → pairs_in (objects_at n b contents bodies) d s ≤ 12000
      go true e =
          let r = pair_room h.holds s p q (count - 1) (let l = ltb-true 0 count e in omega arith) in
          let m = most_words h.holds.right.1 in
          let l = few in
          omega arith
      go false e = let l = ltb-false 0 count e in let g = few in omega arith

  -- a dictionary without pairs
  pub none_found : count ≡ 0 → None ≡ find_in (objects_at n b contents bodies) d s
  none_found e = no_pair h.holds s p q 0 (omega arith) (omega arith) (λ k l. absurd (omega arith))

  pub none_read : count ≡ 0 → 0 ≡ pairs_in (objects_at n b contents bodies) d s
  none_read e = sym e ∙ q ∙ pairs_are (objects_at n b contents bodies) d s (all (λ j l. absurd (omega arith)))

  module _ {at : ℕ} (f : FirstPlace bodies from count s at) where
    at_place : get_or bodies (from + 2 * f.index) 0 ≡ get_or bodies at 0
    at_place = ap (λ (k : ℕ). get_or bodies k 0) (sym f.place)

    pub place_fits : at + 1 < length bodies
    place_fits = let r = pairs_inside (let i = f.inside in omega arith) in let i = f.inside in let e = f.place in omega arith

    pub place_found : get_or bodies at 0 ≡ s → found (get_or bodies (at + 1) 0) ≡ find_in (objects_at n b contents bodies) d s
    place_found e =
        ap (λ (k : ℕ). found (get_or bodies (k + 1) 0)) f.place
        ∙ found_pair h.holds s p q f.index f.inside (λ k l g. let x = f.below k l in absurd (omega arith)) (at_place ∙ e)

    -- the selectors behind it are above the one sought
    pub place_missed : (get_or bodies at 0 ≡ s → ⊥) → None ≡ find_in (objects_at n b contents bodies) d s
    place_missed e = no_pair h.holds s p q count (omega arith) (omega arith) other
      where
        other : (k : ℕ) → k < count → get_or bodies (from + 2 * k) 0 ≡ s → ⊥
        other k l g = go (ltb k f.index) (ltb f.index k) refl refl
          where
            go : (x y : Bool) → ltb k f.index ≡ x → ltb f.index k ≡ y → ⊥
            go true y u v = let w = f.below k (ltb-true k f.index u) in omega arith
            go false true u v =
                let r = ltb-true f.index k v in
                let w = f.stops (omega arith) in
                let z = h.rises f.index k r (omega arith) in
                let a = selector_is k l in
                let c = selector_is f.index f.inside in
                let t = at_place in
                omega arith
            go false false u v =
                let x = ltb-false k f.index u in
                let y = ltb-false f.index k v in
                let same : k ≡ f.index = omega arith in
                e (sym at_place ∙ ap (λ (i : ℕ). get_or bodies (from + 2 * i) 0) (sym same) ∙ g)

    -- pairs up to it are read
    read_to : f.index + 1 ≡ pairs_in (objects_at n b contents bodies) d s
    read_to = go (ltb (get_or bodies at 0) s) refl
      where
        stopped : s ≤ pair_selector (objects_at n b contents bodies) d f.index → f.index + 1 ≡ pairs_in (objects_at n b contents bodies) d s
        stopped l =
            add-one f.index
            ∙ pairs_are (objects_at n b contents bodies) d s (first (let i = f.inside in omega arith) (below_selector f.index (let i = f.inside in omega arith) f.below) l)

        last : get_or bodies at 0 < s → f.index + 1 ≡ count
        last l = go' (ltb (f.index + 1) count) refl
          where
            go' : (x : Bool) → ltb (f.index + 1) count ≡ x → f.index + 1 ≡ count
            go' true u = let w = f.stops (ltb-true (f.index + 1) count u) in absurd (omega arith)
            go' false u = let w = ltb-false (f.index + 1) count u in let i = f.inside in omega arith

        go : (x : Bool) → ltb (get_or bodies at 0) s ≡ x → f.index + 1 ≡ pairs_in (objects_at n b contents bodies) d s
        go false u = stopped (subst (λ (w : ℕ). s ≤ w) (sym at_place ∙ selector_is f.index f.inside) (ltb-false (get_or bodies at 0) s u))
        go true u =
            let l = ltb-true (get_or bodies at 0) s u in
            let e = last l in
            let under = below_more (λ (k : ℕ). get_or bodies (from + 2 * k) 0 < s) f.index f.below (subst (λ (w : ℕ). w < s) (sym at_place) l) in
            e ∙ q ∙ pairs_are (objects_at n b contents bodies) d s (all (λ j g. below_selector (f.index + 1) (omega arith) under j (omega arith)))

    pub place_read : (at - from) / 2 + 1 ≡ pairs_in (objects_at n b contents bodies) d s
    place_read = let e = f.place in let r = read_to in omega arith

-- A search reads no more pairs than the bodies have room for.
pub few_read : {n b : ℕ} {contents bodies : List ℕ} {d : ℕ} → IsDictionary n b contents bodies d → (s k : ℕ) → k ≡ pairs_in (objects_at n b contents bodies) d s → k ≤ 12000
few_read h s k e = let m = pairs_most h s refl refl in omega arith
