-- The objects that counting reads are there.
use Prim.Native.Nat.{ℕ, ◌+◌, ◌*◌, ◌/◌, ◌≤◌, ◌<◌}
use mathlib.Core.Path.{◌≡◌, refl, sym, ap, ◌∙◌, subst}
use mathlib.Core.Bool.{Bool, true, false}
use mathlib.Core.List.{List}
use native.Mathlib.Omega.{arith}
use lib.Dec.{T}
use lib.ListN.{length}
use Rattle.model.specs.Limits.{bytes_kind, class_kind, list_kind, method_kind}
use Rattle.model.specs.Objects.{Objects, objects_at, body_word, kind, size, is_kind, dictionary_word, pair_count, pair_selector, pair_method}
use Rattle.model.specs.Method.{home, literal_count, argument_count}
use Rattle.model.proofs.ChainLaws as C
use Rattle.model.proofs.Facts.{naming, named_pointer}
use Rattle.readers.specs.Places.{Inside, CountInside}
use Rattle.readers.proofs.InsideLaws.{word_inside}
use Rattle.rules.proofs.RuleFacts.{class_at}
use Rattle.methods.specs.Asked.{Ready, Literals, ClassAsked, PairAsked, ObjectAsked}
use Rattle.methods.specs.Counts.{Counting, Turned, Noted, Held}
use Rattle.methods.proofs.ShapeLaws.{shape_at, primitive_at, literals_held, count_here}
use Rattle.methods.proofs.HolderLaws.{pair_at, wrong_home, wrong_count, right_count, next_class}

-- the words of a class's dictionary, from the dictionary d that was read
module _ {n b : ℕ} {contents bodies : List ℕ} (ready : Ready n b contents bodies) (class : ℕ) (isC : T (is_kind (objects_at n b contents bodies) class_kind class)) where
  abbrev o : Objects
  o = objects_at n b contents bodies

  pub dictionary_kind : {d : ℕ} → d ≡ dictionary_word o class → T (is_kind o list_kind d)
  dictionary_kind e = subst (λ (x : ℕ). T (is_kind o list_kind x)) (sym e) (class_at ready.edition o ready.classes class isC).dictionary

  module _ (i : ℕ) (l : i < pair_count o (dictionary_word o class)) where
    pub pair_inside : {d : ℕ} → d ≡ dictionary_word o class → (j : ℕ) → j ≤ 2 * i + 1 → Inside n b contents bodies d j
    pair_inside {d} e j h =
        let q : i < size o (d / 2) / 2 = subst (λ (x : ℕ). i < pair_count o x) (sym e) l in
        word_inside ready.laid list_kind tt (dictionary_kind e) (omega arith)

    pub selector_most : {s : ℕ} → s ≡ pair_selector o (dictionary_word o class) i → s / 2 ≤ n
    selector_most e =
        subst (λ (x : ℕ). x / 2 ≤ n) (sym e) (C.named o bytes_kind (pair_selector o (dictionary_word o class) i) (pair_at ready.edition o ready.classes class i isC l).selector).most

    method_kind_lem : {m : ℕ} → m ≡ pair_method o (dictionary_word o class) i → T (is_kind o method_kind m)
    method_kind_lem e = subst (λ (x : ℕ). T (is_kind o method_kind x)) (sym e) (pair_at ready.edition o ready.classes class i isC l).method

-- One pair, from the words that were read: d the dictionary, s the selector, m the method, h its home
module _ {n b : ℕ} {contents bodies : List ℕ} {class i : ℕ} {counts : List ℕ} (p : PairAsked n b contents bodies class i counts) {d m : ℕ}
    (ed : d ≡ dictionary_word (objects_at n b contents bodies) class) (em : m ≡ body_word (objects_at n b contents bodies) (d / 2) (2 * i + 1)) where
  abbrev o' : Objects
  o' = objects_at n b contents bodies

  method_is : m ≡ pair_method o' (dictionary_word o' class) i
  method_is = em ∙ ap (λ (x : ℕ). body_word o' (x / 2) (2 * i + 1)) ed

  pub method_held : Literals n b contents bodies m (literal_count o' m)
  method_held =
      let t = method_kind_lem p.ready class p.is_class i p.inside method_is in
      literals_held p.ready.laid m t (shape_at o' m t p.shaped)

  pub pair_counts : CountInside n b contents bodies m
  pair_counts = let t = method_kind_lem p.ready class p.is_class i p.inside method_is in count_here method_held (primitive_at o' m (shape_at o' m t p.shaped))

  home_is : {h : ℕ} → h ≡ body_word o' (m / 2) 1 → h ≡ home o' (pair_method o' (dictionary_word o' class) i)
  home_is eh = eh ∙ ap (λ (x : ℕ). body_word o' (x / 2) 1) method_is

  pub pair_no : {h : ℕ} → h ≡ body_word o' (m / 2) 1 → (counts' : List ℕ) → (h ≡ class → ⊥) → Turned o' (class / 2) (i + 1) counts' false
  unfolding Turned
  pair_no eh counts' f = wrong_home p.ready.edition p.ready.classes p.so_far class p.is_class refl p.inside p.long (λ e. f (home_is eh ∙ e))

  pub pair_turned : {s h count : ℕ} → s ≡ body_word o' (d / 2) (2 * i) → h ≡ body_word o' (m / 2) 1 → h ≡ class → count ≡ argument_count o' m → (counts' : List ℕ) (r : Bool)
      → Noted counts (s / 2) (count + 1) counts' r
      → Turned o' (class / 2) (i + 1) counts' r
  pair_turned {s} es eh f ec counts' r t = go r (subst (λ (x : ℕ). Noted counts x (argument_count o' (pair_method o' (dictionary_word o' class) i) + 1) counts'
      r) (ap (λ (x : ℕ). x / 2) selector_is) (subst (λ (x : ℕ). Noted counts (s / 2) (x + 1) counts' r) (ec ∙ ap (argument_count o') method_is) t))
    where
      selector_is : s ≡ pair_selector o' (dictionary_word o' class) i
      selector_is = es ∙ ap (λ (x : ℕ). body_word o' (x / 2) (2 * i)) ed

      go : (r : Bool) → Noted counts (pair_selector o' (dictionary_word o' class) i / 2) (argument_count o' (pair_method o' (dictionary_word o' class) i) + 1)
          counts' r → Turned o' (class / 2) (i + 1) counts' r
      go true x = right_count p.ready.edition p.ready.classes p.so_far class p.is_class refl p.inside p.long (sym (home_is eh) ∙ f) counts' x
      go false x = wrong_count p.ready.edition p.ready.classes p.so_far class p.is_class refl p.inside p.long counts' x

-- the loop over the pairs of a class
pub pair_asked : {n b : ℕ} {contents bodies : List ℕ} {class : ℕ} {counts₀ : List ℕ} → ClassAsked n b contents bodies class counts₀ → {d z : ℕ}
    → d ≡ dictionary_word (objects_at n b contents bodies) class
    → z ≡ size (objects_at n b contents bodies) (d / 2) → (counts : List ℕ) (i : ℕ) → length counts ≡ length counts₀
    → Counting (objects_at n b contents bodies) counts (class / 2) i → i < z / 2
    → PairAsked n b contents bodies class i counts
pair_asked {n} {b} {contents} {bodies} p ed ez counts i l w h =
    record {
      ready = p.ready;
      shaped = p.shaped;
      is_class = p.is_class;
      long = let x = p.long in omega arith;
      inside = subst (λ (x : ℕ). i < size (objects_at n b contents bodies)
          (x / 2) / 2) ed (subst (λ (x : ℕ). i < x / 2) ez h);
      so_far = w;
    }

pub class_no : (o : Objects) (k i k' i' : ℕ) (counts counts' : List ℕ) → Turned o k i counts false → Turned o k' i' counts' false
unfolding Turned
class_no o k i k' i' counts counts' t = t

pub turned_on : (o : Objects) (k i : ℕ) (counts : List ℕ) (r : Bool) → r ≡ true → Turned o k i counts r → Counting o counts k i
unfolding Turned
turned_on o k i counts r e t = go r e t
  where
    go : (x : Bool) → x ≡ true → Turned o k i counts x → Counting o counts k i
    go true q y = y
    go false q y = absurd (subst T (sym q) tt)

pub class_done : {n b : ℕ} {contents bodies : List ℕ} {class : ℕ} {counts₀ : List ℕ} → ClassAsked n b contents bodies class counts₀ → {d z : ℕ}
    → d ≡ dictionary_word (objects_at n b contents bodies) class
    → z ≡ size (objects_at n b contents bodies) (d / 2) → (counts : List ℕ) (i : ℕ) → Counting (objects_at n b contents bodies) counts (class / 2) i → z / 2 ≤ i
    → Turned (objects_at n b contents bodies) (class / 2 + 1) 0 counts true
unfolding Turned
class_done {n} {b} {contents} {bodies} {class} p {d} {z} ed ez counts i w h =
    next_class (objects_at n b contents bodies) counts (class / 2) i w
    (λ c j a e l.
    let x = (C.named (objects_at n b contents bodies) class_kind c a).even in
    let y = (C.named (objects_at n b contents bodies) class_kind class p.is_class).even in
    let q : c ≡ class = omega arith in
    let u : j < size (objects_at n b contents bodies) (dictionary_word (objects_at n b contents bodies) class / 2) / 2 = subst
    (λ (v : ℕ). j < pair_count (objects_at n b contents bodies) (dictionary_word (objects_at n b contents bodies) v)) q l in
    let v : j < z / 2 = subst (λ (t : ℕ). j < t / 2) (sym ez) (subst (λ (t : ℕ). j < size (objects_at n b contents bodies) (t / 2) / 2) (sym ed) u) in
    omega arith)

-- the loop over the objects
module _ {n b : ℕ} {contents bodies : List ℕ} {k : ℕ} {counts : List ℕ} (p : ObjectAsked n b contents bodies k counts) where
  pub no_class_here : (kind (objects_at n b contents bodies) k ≡ class_kind → ⊥) → Turned (objects_at n b contents bodies) (k + 1) 0 counts true
  unfolding Turned
  no_class_here h =
      next_class (objects_at n b contents bodies) counts k 0 p.so_far
      (λ c j a e l. absurd (h (ap (kind (objects_at n b contents bodies)) (sym e) ∙ (C.named (objects_at n b contents bodies) class_kind c a).kinds)))

  pub class_here : kind (objects_at n b contents bodies) k ≡ class_kind → (w : ℕ) → w ≡ 2 * k → ClassAsked n b contents bodies w counts
  class_here h w e =
      let half : w / 2 ≡ k = omega arith in
      record {
        ready = p.ready;
        shaped = p.shaped;
        is_class = subst (λ (x : ℕ). T (is_kind (objects_at n b contents bodies) class_kind x)) (sym e)
            (subst (λ (x : ℕ). T (is_kind (objects_at n b contents bodies) x (2 * k))) h
            (naming (objects_at n b contents bodies) (kind (objects_at n b contents bodies) k) (2 * k) (named_pointer (objects_at n b contents bodies) k p.least
            p.most)));
        long = p.long;
        so_far = subst (λ (x : ℕ). Counting (objects_at n b contents bodies) counts x 0) (sym half) p.so_far;
      }

  pub turned_here : (w : ℕ) → w ≡ 2 * k → (counts' : List ℕ) (r : Bool) → Turned (objects_at n b contents bodies) (w / 2 + 1) 0 counts' r → Turned (objects_at n b contents bodies) (k + 1) 0 counts' r
  turned_here w e counts' r t = let half : w / 2 ≡ k = omega arith in subst (λ (x : ℕ). Turned (objects_at n b contents bodies) (x + 1) 0 counts' r) half t

pub held_no : (o : Objects) (k i : ℕ) (counts counts' : List ℕ) → Turned o k i counts false → Held o counts' false
unfolding Turned Held
held_no o k i counts counts' t = t
