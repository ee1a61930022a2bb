-- What a lookup finds, and the fields of a receiver whose class chain holds a method's home.
use Prim.Native.Nat.{ℕ, zero, suc, ◌+◌, ◌/◌, ◌%◌, ◌≤◌, ◌<◌}
use mathlib.Core.Path.{◌≡◌, refl, sym, ap, ◌∙◌, subst}
use mathlib.Core.Logic.{◌≢◌, ◌⊎◌, inl, inr}
use mathlib.Core.Bool.{Bool, true, false}
use native.Mathlib.Omega.{arith}
use borrow.Author.Tests.{eq-eqb, ne_eqb, eqb-true}
use lib.Dec.{T, eqb, eqb→eq}
use Rattle.bytecode.specs.Constant.{nil_word}
use Rattle.bytecode.specs.Test.{below, implies}
use Rattle.bytecode.proofs.Choice.{if_yes, if_no}
use Rattle.bytecode.proofs.TestLaws.{true→T, and_left, and_right, or_cases, implied, up_to_at, below_at}
use Rattle.std.specs.Prelude.{Option, Some, None}
use Rattle.model.specs.declared.Pointer.{Pointer}
use Rattle.model.specs.Limits.{fields_kind, bytes_kind, class_kind, method_kind}
use Rattle.model.specs.Word.{is_valid, pointer, integer_class}
use Rattle.model.specs.Objects.{Objects, class_word, kind, size, body_word, is_kind, is_nil_or, class_of, superclass_word, dictionary_word, field_count, form, pair_count, pair_selector, pair_method}
use Rattle.model.specs.Method.{home, argument_count}
use Rattle.model.specs.Lookup.{found, find_from, find_in, lookup, dictionaries_read, in_chain, Looks, ended, here, above, InChain, same, higher}
use Rattle.model.specs.Rules.{takes_count, send_fine}
use Rattle.model.proofs.ChainLaws.{named, class_below}
use Rattle.model.proofs.Facts.{Right, Valid, odd, names, naming, valid_cases, valid_name, valid_kind, pointer_of, in_words, word_valid, Fits, fixed, indexed, bytes, other, entry_class, entry_fits, class_facts, known_facts, integer_class_lem, nil_no_class, pair_facts, pair_home}
use Rattle.model.proofs.LookupLaws.{reads_few, decides_in}
use Rattle.model.proofs.Unchanged.{find_hit, find_miss}

abbrev IsMethod : Option Pointer → Type 0
IsMethod (Some w) = Unit {0}
IsMethod None = ⊥

abbrev word_found : Option Pointer → ℕ
word_found (Some w) = w.0
word_found None = 0

nothing_found : (m : ℕ) → None ≡ found m → ⊥
nothing_found m p = subst IsMethod (sym p) tt

-- a pair of a dictionary
pub record PairOf (o : Objects) (d s m : ℕ) : Type 0 where
  pub place : ℕ
  pub inside : place < pair_count o d
  pub selector : pair_selector o d place ≡ s
  pub method : pair_method o d place ≡ m

module _ (o : Objects) where
  found_from : (d s m i left : ℕ) → i + left ≤ pair_count o d → find_from o d s i left ≡ found m → PairOf o d s m
  unfolding find_from
  found_from d s m i zero h p = absurd (nothing_found m p)
  found_from d s m i (suc left) h p = go (eqb (pair_selector o d i) s) refl (found_from d s m (suc i) left (omega arith))
    where
      go : (b : Bool) → eqb (pair_selector o d i) s ≡ b → (find_from o d s (suc i) left ≡ found m → PairOf o d s m) → PairOf o d s m
      go true q ih = record { place = i; inside = omega arith; selector = eqb-true (pair_selector o d i) s q; method = ap word_found (sym (find_hit o d s i left q) ∙ p) }
      go false q ih = ih (sym (find_miss o d s i left q) ∙ p)

  pub found_in : (d s m : ℕ) → find_in o d s ≡ found m → PairOf o d s m
  unfolding find_in
  found_in d s m p = found_from d s m 0 (pair_count o d) (omega arith) p

-- the class whose dictionary has the method
record Holder (o : Objects) (s c m : ℕ) : Type 0 where
  holder : ℕ
  classes : T (is_kind o class_kind holder)
  chain : InChain o holder c
  pair : PairOf o (dictionary_word o holder) s m

pub record FoundFacts (o : Objects) (s c m : ℕ) : Type 0 where
  pub method : T (is_kind o method_kind m)
  pub homes : T (in_chain o (home o m) c)
  pub counts : (n : ℕ) → T (takes_count o s n) → argument_count o m ≡ n

module _ {e : ℕ} {o : Objects} (r : Right e o) where
  holder_by : (s c m k : ℕ) (f : Option Pointer) {p : ℕ} → Looks o s c f k p → f ≡ found m → Holder o s c m
  holder_by s c m k f (ended p) e = absurd (nothing_found m e)
  holder_by s c m k f (here p q u) e = record { holder = c; classes = true→T p; chain = same p refl; pair = found_in o (dictionary_word o c) s m (q ∙ e) }
  holder_by s c m k f (above {k = j} p q u l) e =
      let h = holder_by s (superclass_word o c) m j f l e in
      record { holder = h.holder; classes = h.classes; chain = higher p h.chain; pair = h.pair }

  holder_of : (s c m : ℕ) → lookup o s c ≡ found m → Holder o s c m
  holder_of s c m e = holder_by s c m (dictionaries_read o s c) (lookup o s c) (reads_few r s c).ends e

  -- every method under a selector takes the count that the test says
  count_at : (c s m n : ℕ) → T (is_kind o class_kind c) → PairOf o (dictionary_word o c) s m → T (takes_count o s n) → argument_count o m ≡ n
  unfolding takes_count
  count_at c s m n t p q =
      let h = named o class_kind c t in
      let all = implied (eqb (kind o (c / 2)) class_kind) (counted (pointer (c / 2)))
      (up_to_at o.n (λ k. implies (eqb (kind o k) class_kind) (counted (pointer k))) q (c / 2) h.least h.most) (true→T (eq-eqb (kind o (c / 2)) class_kind h.kinds)) in
      let mine : T (counted c) = subst (λ (x : ℕ). T (counted x)) (pointer_of c h.even) all in
      ap (argument_count o) (sym p.method)
      ∙ eqb→eq (argument_count o (pair_method o (dictionary_word o c) p.place)) n
      (implied (eqb (pair_selector o (dictionary_word o c) p.place) s) (eqb (argument_count o (pair_method o (dictionary_word o c) p.place)) n)
      (below_at (pair_count o (dictionary_word o c)) (pair_test c) mine p.place p.inside) (true→T (eq-eqb (pair_selector o (dictionary_word o c) p.place) s p.selector)))
    where
      pair_test : ℕ → ℕ → Bool
      pair_test x i = implies (eqb (pair_selector o (dictionary_word o x) i) s) (eqb (argument_count o (pair_method o (dictionary_word o x) i)) n)

      counted : ℕ → Bool
      counted x = below (pair_count o (dictionary_word o x)) (pair_test x)

  -- a method found is one, its home is in the class chain, and it takes the selector's count
  pub lookup_facts : (s c m : ℕ) → lookup o s c ≡ found m → FoundFacts o s c m
  lookup_facts s c m p =
      let h = holder_of s c m p in
      let q = h.pair in
      let home_is : home o m ≡ h.holder = ap (home o) (sym q.method) ∙ pair_home r h.holder q.place h.classes q.inside in
      record {
        method = subst (λ (x : ℕ). T (is_kind o method_kind x)) q.method (pair_facts r h.holder q.place h.classes q.inside).method;
        homes = subst (λ (x : ℕ). T (in_chain o x c)) (sym home_is) ((decides_in r h.holder c).1 h.chain);
        counts = λ n t. count_at h.holder s m n h.classes q t;
      }

  -- nil as a selector finds nothing (01, "Image"): selectors of dictionaries have kind 1, and nil has kind 0.
  pub nil_finds_nothing : (c : ℕ) → lookup o nil_word c ≡ None
  nil_finds_nothing c = go (lookup o nil_word c) refl
    where
      go : (f : Option Pointer) → lookup o nil_word c ≡ f → f ≡ None
      go None p = refl
      go (Some m) p =
          let h = holder_of nil_word c m.0 p in
          let q = h.pair in
          let t = subst (λ (x : ℕ). T (is_kind o bytes_kind x)) q.selector (pair_facts r h.holder q.place h.classes q.inside).selector in
          let k : kind o 1 ≡ 1 = (named o bytes_kind nil_word t).kinds in
          let z : kind o 1 ≡ 0 = (known_facts r).nil in
          absurd (omega arith)

  -- F is not below that of a class above
  fewer : (a c : ℕ) → InChain o a c → field_count o a ≤ field_count o c
  fewer a c (same p e) = subst (λ (x : ℕ). field_count o a ≤ field_count o x) e (omega arith)
  fewer a c (higher p i) =
      let f = (class_facts r c (true→T p)).rises (λ q. nil_no_class r (subst (λ (w : ℕ). T (is_kind o class_kind w)) q (true→T (class_below o i)))) in
      let g = fewer a (superclass_word o c) i in
      omega arith

  pub chain_fields : (a c : ℕ) → T (in_chain o a c) → field_count o a ≤ field_count o c
  chain_fields a c t = fewer a c ((decides_in r a c).0 t)

  -- the fields of a home are fields of the receiver
  pub receiver_fields : (w a i : ℕ) → T (is_valid o.n w) → T (in_chain o a (class_of o w)) → i < field_count o a → T (is_kind o fields_kind w) × (i < size o (w / 2))
  unfolding class_of
  receiver_fields w a i v t l = go (valid_cases o.n w v)
    where
      below_class : i < field_count o (class_of o w)
      below_class = let f = chain_fields a (class_of o w) t in omega arith

      go : Valid o.n w → T (is_kind o fields_kind w) × (i < size o (w / 2))
      go (odd h) =
          let c : class_of o w ≡ integer_class = if_yes _ _ (eq-eqb (w % 2) 1 h) in
          let f : i < field_count o integer_class = subst (λ (x : ℕ). i < field_count o x) c below_class in
          let k = (known_facts r).integer_form in
          let z = (class_facts r integer_class (integer_class_lem r)).none (omega arith) in
          absurd (omega arith)
      go (names b d g) =
          let c : class_of o w ≡ class_word o (w / 2) = if_no _ _ (ne_eqb (w % 2) 1 (omega arith)) in
          fitted (entry_fits r (w / 2) d g) (subst (λ (x : ℕ). i < field_count o x) c below_class)
        where
          is_fields : kind o (w / 2) ≡ fields_kind → T (is_kind o fields_kind w)
          is_fields k = naming o fields_kind w (record { even = b; least = d; most = g; kinds = k })

          none : 2 ≤ form o (class_word o (w / 2)) → field_count o (class_word o (w / 2)) ≡ 0
          none h = (class_facts r (class_word o (w / 2)) (entry_class r (w / 2) d g)).none h

          fitted : Fits o (w / 2) (class_word o (w / 2)) → i < field_count o (class_word o (w / 2)) → T (is_kind o fields_kind w) × (i < size o (w / 2))
          fitted (fixed x k z) f = (is_fields k, omega arith)
          fitted (indexed x k z) f = (is_fields k, omega arith)
          fitted (bytes x k) f = let z = none (omega arith) in absurd (omega arith)
          fitted (other x k) f = let z = none (omega arith) in absurd (omega arith)

  -- a field holds a valid word, and so does the class of a valid word
  pub field_valid_lem : (w i : ℕ) → T (is_kind o fields_kind w) → i < size o (w / 2) → T (is_valid o.n (body_word o (w / 2) i))
  field_valid_lem w i t l =
      let h = named o fields_kind w t in
      let k = h.kinds in
      let nb : kind o (w / 2) ≢ bytes_kind = λ q. omega arith in
      let nm : kind o (w / 2) ≢ method_kind = λ q. omega arith in
      let b = in_words o (w / 2) nb nm in
      word_valid r (w / 2) i h.least h.most nb nm (omega arith)

  -- a valid word's class is one
  pub class_kind_lem : (w : ℕ) → T (is_valid o.n w) → T (is_kind o class_kind (class_of o w))
  unfolding class_of
  class_kind_lem w v = go (valid_cases o.n w v)
    where
      go : Valid o.n w → T (is_kind o class_kind (class_of o w))
      go (odd h) = subst (λ (x : ℕ). T (is_kind o class_kind x)) (sym (if_yes _ _ (eq-eqb (w % 2) 1 h))) (integer_class_lem r)
      go (names b d g) = subst (λ (x : ℕ). T (is_kind o class_kind x)) (sym (if_no _ _ (ne_eqb (w % 2) 1 (omega arith)))) (entry_class r (w / 2) d g)

  pub class_valid_lem : (w : ℕ) → T (is_valid o.n w) → T (is_valid o.n (class_of o w))
  class_valid_lem w v = valid_kind o class_kind (class_of o w) (class_kind_lem w v)

-- a send's rule: what it says of its selector
pub selector_takes : (o : Objects) (s count : ℕ) → T (send_fine o s count) → T (takes_count o s count)
unfolding send_fine
selector_takes o s count t = and_right (is_nil_or o bytes_kind s) (takes_count o s count) t

pub selector_valid : (o : Objects) (s count : ℕ) → 1 ≤ o.n → T (send_fine o s count) → T (is_valid o.n s)
unfolding send_fine
selector_valid o s count l t = go (or_cases (eqb s nil_word) (is_kind o bytes_kind s) (and_left (is_nil_or o bytes_kind s) (takes_count o s count) t))
  where
    go : T (eqb s nil_word) ⊎ T (is_kind o bytes_kind s) → T (is_valid o.n s)
    go (inl e) = let q = eqb→eq s nil_word e in valid_name o.n s (omega arith) (omega arith) (omega arith)
    go (inr k) = valid_kind o bytes_kind s k
