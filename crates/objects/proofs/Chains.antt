-- Turns of the walks along a class chain.
use Prim.Native.Nat.{ℕ, suc, ◌+◌, ◌*◌, ◌-◌, ◌≤◌, ◌<◌}
use mathlib.Core.Path.{◌≡◌, refl, sym, ap, ◌∙◌, subst}
use mathlib.Core.Logic.{◌⊎◌, inl, inr}
use mathlib.Core.Bool.{Bool, true, false, ◌||◌}
use mathlib.Core.List.{List}
use native.Mathlib.Omega.{arith}
use borrow.Author.Tests.{eq-eqb, ne_eqb}
use lib.Dec.{T, eqb, eqb→eq}
use Rattle.bytecode.specs.Constant.{nil_word}
use Rattle.bytecode.proofs.TestLaws.{true→T, T→true, or_cases}
use Rattle.model.specs.declared.Pointer.{Pointer}
use Rattle.std.specs.Prelude.{Option, Some, None}
use Rattle.model.specs.Limits.{class_kind, longest_chain}
use Rattle.model.specs.Objects.{Objects, objects_at, is_kind, is_nil_or, superclass_word, dictionary_word}
use Rattle.model.specs.Lookup.{found, find_in, lookup_within, lookup, dictionaries_within, dictionaries_read, pairs_in, pairs_within, pairs_read, in_chain_within, in_chain}
use Rattle.model.specs.Rules.{Right, IsRight}
use Rattle.model.proofs.Facts.{nil_no_class, class_facts, selectors_rise}
use Rattle.model.proofs.PairLaws.{pairs_hit, pairs_miss, pairs_none}
use Rattle.model.proofs.ChainLaws.{class_hit, class_miss, no_class, read_hit, read_miss, read_none, chain_class, chain_none}
use Rattle.objects.specs.Searches.{IsDictionary}

one_left : (left : ℕ) → 0 < left → suc (left - 1) ≡ left
one_left left h = omega arith

-- one turn more, one left less
turn_less : (P : ℕ → Type 0) (turn : ℕ) → P (longest_chain - turn - 1) → P (longest_chain - (turn + 1))
turn_less P turn h = subst P (omega arith) h

-- A class chain: nil ends it, and all before is a class with a dictionary.
module _ {e : ℕ} {o : Objects} (r : Right e o) where
  pub class_here : (c : ℕ) → T (is_nil_or o class_kind c) → (c ≡ 2 → ⊥) → T (is_kind o class_kind c)
  class_here c t d = go (or_cases (eqb c nil_word) (is_kind o class_kind c) t)
    where
      go : T (eqb c nil_word) ⊎ T (is_kind o class_kind c) → T (is_kind o class_kind c)
      go (inl q) = absurd (d (eqb→eq c nil_word q))
      go (inr q) = q

  pub class_above : (c a : ℕ) → a ≡ superclass_word o c → T (is_kind o class_kind c) → T (is_nil_or o class_kind a)
  class_above c a e h =
      subst (λ (x : ℕ). T (is_nil_or o class_kind x)) (sym e) (class_facts r c h).superclass

  nil_none : (c : ℕ) → c ≡ 2 → is_kind o class_kind c ≡ false
  nil_none c e = go (is_kind o class_kind c) refl
    where
      go : (x : Bool) → is_kind o class_kind c ≡ x → is_kind o class_kind c ≡ false
      go true p = absurd (nil_no_class r (subst (λ (y : ℕ). T (is_kind o class_kind y)) e (true→T p)))
      go false p = p

  pub chain_nil : (left a c : ℕ) → c ≡ 2 → false ≡ in_chain_within left o a c
  chain_nil left a c e = sym (chain_none o left a c (nil_none c e))

  pub chain_here : (left a c : ℕ) → 0 < left → T (is_kind o class_kind c) → a ≡ c → true ≡ in_chain_within left o a c
  chain_here left a c l h e =
      sym (chain_class o (left - 1) a c (T→true (is_kind o class_kind c) h) ∙ ap (λ (x : Bool). x || in_chain_within (left - 1) o a (superclass_word o c)) (eq-eqb a c e))
      ∙ ap (λ (k : ℕ). in_chain_within k o a c) (one_left left l)

  pub chain_up : (left a c d : ℕ) → 0 < left → T (is_kind o class_kind c) → (a ≡ c → ⊥) → d ≡ superclass_word o c
      → in_chain_within (left - 1) o a d ≡ in_chain_within left o a c
  chain_up left a c d l h e g =
      ap (in_chain_within (left - 1) o a) g
      ∙ sym (chain_class o (left - 1) a c (T→true (is_kind o class_kind c) h) ∙ ap (λ (x : Bool). x || in_chain_within (left - 1) o a (superclass_word o c)) (ne_eqb a c e))
      ∙ ap (λ (k : ℕ). in_chain_within k o a c) (one_left left l)

  pub chain_turn : (turn a c d : ℕ) → turn < longest_chain → T (is_kind o class_kind c) → (a ≡ c → ⊥) → d ≡ superclass_word o c
      → in_chain_within (longest_chain - (turn + 1)) o a d ≡ in_chain_within (longest_chain - turn) o a c
  chain_turn turn a c d l h e g =
      turn_less (λ (k : ℕ). in_chain_within k o a d ≡ in_chain_within (longest_chain - turn) o a c) turn (chain_up (longest_chain - turn) a c d (omega arith) h e g)

-- a class's dictionary
pub dictionary_of : {n b : ℕ} {contents bodies : List ℕ} {d : ℕ} (c : ℕ) → IsRight (objects_at n b contents bodies) → d ≡ dictionary_word (objects_at n b contents bodies) c
    → T (is_kind (objects_at n b contents bodies) class_kind c) → IsDictionary n b contents bodies d
dictionary_of {n = n} {b = b} {contents = contents} {bodies = bodies} c r e h =
    subst (IsDictionary n b contents bodies) (sym e)
    (record { holds = record { right = r; kinds = (class_facts r.1 c h).dictionary }; rises = λ i j l m. selectors_rise r.1 c i j h l m })

-- at the start, and where no turn is left
pub chain_first : (o : Objects) (a c : ℕ) → in_chain_within longest_chain o a c ≡ in_chain o a c
unfolding in_chain
chain_first o a c = refl

pub chain_over : (left : ℕ) (o : Objects) (a c : ℕ) → left ≤ 0 → false ≡ in_chain_within left o a c
unfolding in_chain_within
chain_over left o a c h = ap (λ (k : ℕ). in_chain_within k o a c) (none left h)
  where
    none : (left : ℕ) → left ≤ 0 → 0 ≡ left
    none left h = omega arith

-- A lookup that has come to class c with so many turns left, one dictionary having been read in each turn before, and so many pairs: what is found from here, and
-- read from here on, is what is found and read from the start. The last fields bound the sums.
pub record LookupAt (o : Objects) (s start left pairs c : ℕ) : Type 0 where
  pub classes : T (is_nil_or o class_kind c)
  pub finds : lookup_within left o s c ≡ lookup o s start
  pub walks : longest_chain - left + dictionaries_within left o s c ≡ dictionaries_read o s start
  pub reads : pairs + pairs_within left o s c ≡ pairs_read o s start
  pub turns : left ≤ longest_chain
  pub few : pairs + 12000 * left ≤ 288000

pub lookup_first : {o : Objects} {s c : ℕ} → T (is_nil_or o class_kind c) → LookupAt o s c longest_chain 0 c
unfolding lookup dictionaries_read pairs_read
lookup_first t = record { classes = t; finds = refl; walks = omega arith; reads = omega arith; turns = omega arith; few = omega arith }

module _ {e : ℕ} {o : Objects} (r : Right e o) {s a left pairs c : ℕ} (t : LookupAt o s a left pairs c) where
  -- the chain is over, or no turn is left
  pub lookup_nil : c ≡ 2 → (None ≡ lookup o s a) × (longest_chain - left ≡ dictionaries_read o s a) × (pairs ≡ pairs_read o s a)
  lookup_nil h =
      let k = nil_none r c h in
      let z = pairs_none o left s c k in
      let y = read_none o left s c k in
      let v = t.walks in
      let w = t.reads in
      (sym (no_class o left s c k) ∙ t.finds, omega arith, omega arith)

  pub lookup_over : left ≤ 0 → (None ≡ lookup o s a) × (longest_chain ≡ dictionaries_read o s a) × (pairs ≡ pairs_read o s a)
  unfolding lookup_within dictionaries_within pairs_within
  lookup_over h = (ap (λ (k : ℕ). lookup_within k o s c) none ∙ t.finds, all, sum)
    where
      none : 0 ≡ left
      none = omega arith

      all : longest_chain ≡ dictionaries_read o s a
      all =
          let z : 0 ≡ dictionaries_within left o s c = ap (λ (k : ℕ). dictionaries_within k o s c) none in
          let w = t.walks in
          omega arith

      sum : pairs ≡ pairs_read o s a
      sum =
          let z : 0 ≡ pairs_within left o s c = ap (λ (k : ℕ). pairs_within k o s c) none in
          let w = t.reads in
          omega arith

  -- a class whose dictionary was searched
  module _ {d p : ℕ} {f : Option Pointer} (l : 0 < left) (h : T (is_kind o class_kind c)) (g : d ≡ dictionary_word o c) (x : f ≡ find_in o d s) (y : p ≡ pairs_in o d s) where
    search_here : f ≡ find_in o (dictionary_word o c) s
    search_here = x ∙ ap (λ (w : ℕ). find_in o w s) g

    pairs_here : p ≡ pairs_in o (dictionary_word o c) s
    pairs_here = y ∙ ap (λ (w : ℕ). pairs_in o w s) g

    is_class : is_kind o class_kind c ≡ true
    is_class = T→true (is_kind o class_kind c) h

    pub lookup_hit : (m : Pointer) → f ≡ Some m → (Some m ≡ lookup o s a) × (longest_chain - left + 1 ≡ dictionaries_read o s a) × (pairs + p ≡ pairs_read o s a)
    lookup_hit m q =
        let k : find_in o (dictionary_word o c) s ≡ found m.0 = sym search_here ∙ q in
        let z = pairs_hit o (left - 1) s c m.0 is_class k in
        let u = ap (λ (k : ℕ). pairs_within k o s c) (one_left left l) in
        let v = pairs_here in
        let w = t.reads in
        let n = read_hit o (left - 1) s c m.0 is_class k in
        let i = ap (λ (k : ℕ). dictionaries_within k o s c) (one_left left l) in
        let j = t.walks in
        (sym (class_hit o (left - 1) s c m.0 is_class k) ∙ ap (λ (k : ℕ). lookup_within k o s c) (one_left left l) ∙ t.finds, omega arith, omega arith)

    pub lookup_up : (w : ℕ) → p ≤ 12000 → w ≡ superclass_word o c → f ≡ None → LookupAt o s a (left - 1) (pairs + p) w
    lookup_up w few e q =
        let k : find_in o (dictionary_word o c) s ≡ None = sym search_here ∙ q in
        let z = pairs_miss o (left - 1) s c is_class k in
        let u = ap (λ (k : ℕ). pairs_within k o s c) (one_left left l) in
        let v = pairs_here in
        let i = ap (pairs_within (left - 1) o s) e in
        let j = t.reads in
        let n = t.few in
        let z₂ = read_miss o (left - 1) s c is_class k in
        let u₂ = ap (λ (k : ℕ). dictionaries_within k o s c) (one_left left l) in
        let i₂ = ap (dictionaries_within (left - 1) o s) e in
        let j₂ = t.walks in
        let n₂ = t.turns in
        record {
          classes = class_above r c w e h;
          finds = ap (lookup_within (left - 1) o s) e ∙ sym (class_miss o (left - 1) s c is_class k) ∙ ap (λ (k : ℕ). lookup_within k o s c) (one_left left l) ∙ t.finds;
          walks = omega arith;
          reads = omega arith;
          turns = omega arith;
          few = omega arith;
        }

pub lookup_turn : {o : Objects} {s a pairs c : ℕ} (turn : ℕ) → LookupAt o s a (longest_chain - turn - 1) pairs c → LookupAt o s a (longest_chain - (turn + 1)) pairs c
lookup_turn {o = o} {s} {a} {pairs} {c} turn = turn_less (λ (k : ℕ). LookupAt o s a k pairs c) turn
