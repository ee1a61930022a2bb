-- What rule 4 says of each object, and that bodies lie inside the lent words.
use Prim.Native.Nat.{ℕ, zero, suc, ◌+◌, ◌-◌, ◌/◌, ◌%◌, ◌≤◌}
use mathlib.Core.Path.{◌≡◌, refl, sym, ap, ◌∙◌, subst}
use mathlib.Core.Logic.{◌≢◌}
use mathlib.Core.Bool.{Bool, true, false, not, ◌||◌}
use mathlib.Core.List.{List}
use native.Mathlib.Omega.{arith}
use native.Mathlib.Decide.{ℕ_discrete}
use borrow.Author.Tests.{eq-eqb, ne_eqb}
use lib.Dec.{eqb, eqb→eq}
use lib.ListN.{get_or}
use Rattle.bytecode.specs.Test.{when◌then◌else◌, up_to, every, all_of}
use Rattle.bytecode.proofs.Choice.{if_yes, if_no}
use Rattle.bytecode.proofs.TestLaws.{true→T, and_left, and_right, up_to_at}
use Rattle.model.specs.Word.{is_valid}
use Rattle.model.specs.Objects.{Objects, objects_at, class_word, kind, start, size, sized_in_bytes, body_words, body_end, body_of}
use Rattle.model.specs.Rules.{start_fine_of, padding_fine, layout_rules, words_fine, rule4}
use Rattle.model.proofs.Facts.{Layout, layout_facts, in_bytes, five_least}
use Rattle.readers.specs.Places.{Laid}
use Rattle.rules.specs.Lent.{Lent, start_of}
use Rattle.readers.proofs.Loops.{UpBefore, up_all, up_no}

-- where a body has to start
pub start_fine : (o : Objects) (k : ℕ) → start_fine_of o k ≡ eqb (start o k) (start_of o k)
unfolding start_fine_of start_of
start_fine o k = go (eqb k 1)
  where
    go : (t : Bool) → (when t then eqb (start o k) 0 else eqb (start o k) (body_end o (k - 1))) ≡ eqb (start o k) (when t then 0 else body_end o (k - 1))
    go true = if_yes _ _ refl ∙ ap (eqb (start o k)) (sym (if_yes _ _ refl))
    go false = if_no _ _ refl ∙ ap (eqb (start o k)) (sym (if_no _ _ refl))

pub start_first : (o : Objects) → start_of o 1 ≡ 0
unfolding start_of
start_first o = if_yes _ _ refl

pub start_next : (o : Objects) (k : ℕ) → 1 ≤ k → start_of o (k + 1) ≡ body_end o k
unfolding start_of
start_next o k h = if_no _ _ (ne_eqb (k + 1) 1 (λ e. omega arith)) ∙ ap (body_end o) (before k)
  where
    before : (k : ℕ) → k + 1 - 1 ≡ k
    before k = omega arith

-- padding
pub padding_none : (o : Objects) (k : ℕ) → sized_in_bytes (kind o k) ≡ false → padding_fine o k ≡ true
unfolding padding_fine
padding_none o k t = rw t

pub padding_even : (o : Objects) (k : ℕ) → sized_in_bytes (kind o k) ≡ true → size o k % 2 ≢ 1 → padding_fine o k ≡ true
unfolding padding_fine
padding_even o k t h = rw (t, ne_eqb (size o k % 2) 1 h)

pub padding_odd : (o : Objects) (k : ℕ) → sized_in_bytes (kind o k) ≡ true → size o k % 2 ≡ 1
    → padding_fine o k ≡ eqb (get_or o.bodies (start o k + size o k / 2) 0 % 256) 0
unfolding padding_fine
padding_odd o k t h = rw (t, eq-eqb (size o k % 2) 1 h) (ap (λ (i : ℕ). eqb (get_or o.bodies i 0 % 256) 0) last)
  where
    last : start o k + (body_words o k - 1) ≡ start o k + size o k / 2
    last = let q = in_bytes o k (true→T t) in omega arith

pub padding_is : (o : Objects) (k : ℕ)
    → padding_fine o k ≡ ((not (sized_in_bytes (kind o k)) || eqb (size o k % 2) 0) || eqb (get_or o.bodies (start o k + size o k / 2) 0 % 256) 0)
padding_is o k = go (sized_in_bytes (kind o k)) refl (ℕ_discrete (size o k % 2) 1)
  where
    go : (t : Bool) → sized_in_bytes (kind o k) ≡ t → Dec (size o k % 2 ≡ 1)
        → padding_fine o k ≡ ((not t || eqb (size o k % 2) 0) || eqb (get_or o.bodies (start o k + size o k / 2) 0 % 256) 0)
    go false e d = padding_none o k e
    go true e (yes h) = padding_odd o k e h ∙ sym (ap (λ (x : Bool). x || eqb (get_or o.bodies (start o k + size o k / 2) 0 % 256) 0) (ne_eqb (size o k % 2) 0 (λ q. omega arith)))
    go true e (no h) = padding_even o k e h ∙ sym (ap (λ (x : Bool). x || eqb (get_or o.bodies (start o k + size o k / 2) 0 % 256) 0) (eq-eqb (size o k % 2) 0 (omega arith)))

-- the whole rule, from each object
pub laid_no : (e : ℕ) (o : Objects) (k : ℕ) → 1 ≤ k → k ≤ o.n → all_of (layout_rules e o k) ≡ false → rule4 e o ≡ false
unfolding rule4
laid_no e o k h g t = rw (up_no o.n (λ k. all_of (layout_rules e o k)) k h g t)

pub laid_all : (e : ℕ) (o : Objects) (k from : ℕ) → 1 ≤ o.n → k ≡ o.n + 1 → from ≡ start_of o k → UpBefore (λ k. all_of (layout_rules e o k)) k → eqb from o.b ≡ rule4 e o
unfolding rule4
laid_all e o k from h t s f =
    rw (up_all o.n k (λ k. all_of (layout_rules e o k)) (omega arith) f)
    (ap (λ (x : ℕ). eqb x o.b) (s ∙ ap (start_of o) t ∙ start_next o o.n h))

module _ (e : ℕ) (o : Objects) (laid : rule4 e o ≡ true) where
  pub layout_at : (k : ℕ) → 1 ≤ k → k ≤ o.n → Layout o k
  unfolding rule4
  layout_at k h g =
      layout_facts e o k (up_to_at o.n (λ k. all_of (layout_rules e o k)) (and_left (up_to o.n (λ k. all_of (layout_rules e o k))) (eqb (body_end o o.n) o.b) (true→T laid)) k h g)

  last_at : start o o.n + body_words o o.n ≡ o.b
  unfolding rule4
  last_at = eqb→eq (body_end o o.n) o.b (and_right (up_to o.n (λ k. all_of (layout_rules e o k))) (eqb (body_end o o.n) o.b) (true→T laid))

  -- from the last object downwards
  inside_by : (d k : ℕ) → 1 ≤ k → k + d ≡ o.n → start o k + body_words o k ≤ o.b
  inside_by zero k h q = subst (λ (x : ℕ). start o x + body_words o x ≤ o.b) (sym same) (omega (arith, last_at))
    where
      same : k ≡ o.n
      same = omega arith
  inside_by (suc d) k h q =
      let a : start o (k + 1) + body_words o (k + 1) ≤ o.b = inside_by d (k + 1) (omega arith) (omega arith) in
      let l : start o (k + 1) ≡ start o (k + 1 - 1) + body_words o (k + 1 - 1) = (layout_at (k + 1) (omega arith) (omega arith)).next (λ x. omega arith) in
      let s : start o (k + 1 - 1) + body_words o (k + 1 - 1) ≡ start o k + body_words o k = ap (body_end o) (before k) in
      omega arith
    where
      before : (k : ℕ) → k + 1 - 1 ≡ k
      before k = omega arith

  pub inside_at : (k : ℕ) → 1 ≤ k → k ≤ o.n → start o k + body_words o k ≤ o.b
  inside_at k h g = inside_by (o.n - k) k h (omega arith)

-- what the layout gives a reader
pub layout_laid : (e n b : ℕ) (contents bodies : List ℕ) → Lent e n b contents bodies → rule4 e (objects_at n b contents bodies) ≡ true → Laid n b contents bodies
layout_laid e n b contents bodies l t =
    let o : Objects = objects_at n b contents bodies in
    let five = five_least e in
    let least = l.least in
    record {
      entries = l.entries;
      words = l.words;
      known = omega arith;
      most = l.most;
      most_words = l.most_words;
      inside = inside_at e o t;
      four = λ k h g. (layout_at e o t k h g).four;
    }

-- Rule 5 of an object
pub words_no : (o : Objects) (k : ℕ) → is_valid o.n (class_word o k) ≡ false → false ≡ words_fine o k
unfolding words_fine
words_no o k e = rw e

pub words_bytes : (o : Objects) (k : ℕ) → is_valid o.n (class_word o k) ≡ true → sized_in_bytes (kind o k) ≡ true → true ≡ words_fine o k
unfolding words_fine
words_bytes o k e t = rw (e, t)

pub words_all : (o : Objects) (k : ℕ) → is_valid o.n (class_word o k) ≡ true → sized_in_bytes (kind o k) ≡ false → every (is_valid o.n) (body_of o k) ≡ words_fine o k
unfolding words_fine
words_all o k e t = rw (e, t)
