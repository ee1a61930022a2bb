-- The pass over all objects: what one turn needs, and what it leaves of the others' notes
use Prim.Native.Nat.{ℕ, zero, suc, ◌+◌, ◌-◌, ◌*◌, ◌/◌, ◌≤◌, ◌<◌}
use mathlib.Core.Path.{◌≡◌, refl, sym, ap, ap₂, ◌∙◌, subst}
use mathlib.Core.Logic.{inl, inr}
use mathlib.Core.Bool.{Bool, true, false, not, ◌&&◌}
use mathlib.Core.List.{List}
use native.Mathlib.Decide.{ℕ_discrete}
use native.Mathlib.Omega.{arith}
use borrow.Author.Tests.{eq-eqb, ne_eqb}
use lib.Dec.{T, eqb}
use lib.ListN.{get_or, replicate}
use Rattle.bytecode.specs.Test.{implies, all_of}
use Rattle.bytecode.proofs.TestLaws.{true→T, T→true, implied, up_to_at, never}
use Rattle.model.specs.Limits.{method_kind}
use Rattle.model.specs.Word.{pointer}
use Rattle.model.specs.Objects.{Objects, objects_at, kind, start, body_words, body_end}
use Rattle.model.specs.Method.{code_size, runs_code}
use Rattle.model.specs.Depth.{is_some}
use Rattle.model.specs.Rules.{method_table, failure_methods_fine, rule4, rule7}
use Rattle.model.specs.Notes.{notes_from, MethodNoted, NotedBefore}
use Rattle.rules.proofs.Laid.{layout_at}
use Rattle.readers.proofs.Names.{names_kind}
use Rattle.readers.proofs.Loops.{UpBefore, up_none, up_more, up_all, up_no, stop, pass}
use Rattle.methods.specs.Passes.{shape_rules, shape_fine, code_fine, shapes, holders, codes}
use Rattle.methods.specs.Counts.{Held, Counts}
use Rattle.methods.proofs.PassLaws.{passes}
use Rattle.code.specs.Asked.{Asked, Blank, BlankFrom, MethodWalked, PassLent, ObjectNoted, CodesNoted, MethodsNoted}
use Rattle.code.proofs.CodePlace.{code_starts, body_size}

half : (k : ℕ) → pointer k / 2 ≡ k
half k = omega arith

-- bodies lie in the order of their objects
module _ (e : ℕ) (o : Objects) (laid : rule4 e o ≡ true) where
  next_start : (k : ℕ) → 1 ≤ k → k < o.n → start o (suc k) ≡ body_end o k
  next_start k h l =
      (layout_at e o laid (suc k) (omega arith) (omega arith)).next (λ q. omega arith) ∙ ap (body_end o) (same k)
    where
      same : (k : ℕ) → suc k - 1 ≡ k
      same k = omega arith

  later : (d k : ℕ) → 1 ≤ k → k + suc d ≤ o.n → body_end o k ≤ start o (k + suc d)
  later zero k h l = let t = next_start k h (omega arith) in subst (λ (x : ℕ). body_end o k ≤ start o x) (one k) (omega arith)
    where
      one : (k : ℕ) → suc k ≡ k + 1
      one k = omega arith
  later (suc d) k h l =
      let a = later d k h (omega arith) in
      let t = next_start (k + suc d) (omega arith) (omega arith) in
      subst (λ (x : ℕ). body_end o k ≤ start o x) (more k d) (omega arith)
    where
      more : (k d : ℕ) → suc (k + suc d) ≡ k + suc (suc d)
      more k d = omega arith

  pub in_order : (j k : ℕ) → 1 ≤ j → j < k → k ≤ o.n → body_end o j ≤ start o k
  in_order j k h l g = subst (λ (x : ℕ). body_end o j ≤ start o x) (gap j k l) (later (k - suc j) j h (omega arith))
    where
      gap : (j k : ℕ) → j < k → j + suc (k - suc j) ≡ k
      gap j k l = omega arith

pub held_counts : (o : Objects) (counts : List ℕ) (r : Bool) → Held o counts r → r ≡ true → T (holders o) × Counts o counts
unfolding Held
held_counts o counts true h q = h
held_counts o counts false h q = absurd (subst T (sym q) tt)

module _ (edition : ℕ) (o : Objects) where
  -- a method's code is asked for only where it can run
  code_sound : (k : ℕ) → is_some (method_table edition o (pointer k)) ≡ true → code_fine edition o k ≡ true
  unfolding code_fine
  code_sound k s =
      ap (λ (x : Bool). implies (eqb (kind o k) method_kind) (implies (runs_code o (pointer k)) x)) s ∙ vacuous (eqb (kind o k) method_kind) (runs_code o (pointer k))
    where
      vacuous : (a b : Bool) → implies a (implies b true) ≡ true
      vacuous true true = refl
      vacuous true false = refl
      vacuous false b = refl

  code_unsound : (k : ℕ) → kind o k ≡ method_kind → is_some (method_table edition o (pointer k)) ≡ false → code_fine edition o k ≡ not (runs_code o (pointer k))
  unfolding code_fine
  code_unsound k e s =
      ap₂ (λ (a x : Bool). implies a (implies (runs_code o (pointer k)) x)) (eq-eqb (kind o k) method_kind e) s ∙ asked (runs_code o (pointer k))
    where
      asked : (b : Bool) → implies b false ≡ not b
      asked true = refl
      asked false = refl

  code_other : (k : ℕ) → (kind o k ≡ method_kind → ⊥) → code_fine edition o k ≡ true
  unfolding code_fine
  code_other k e = ap (λ (a : Bool). implies a (implies (runs_code o (pointer k)) (is_some (method_table edition o (pointer k))))) (ne_eqb (kind o k) method_kind e)

  one_more : (ns : List ℕ) (k : ℕ) → NotedBefore edition o ns k → (kind o k ≡ method_kind → MethodNoted edition o ns (pointer k)) → NotedBefore edition o ns (suc k)
  one_more ns k f g j h l = go (ℕ_discrete j k)
    where
      go : Dec (j ≡ k) → kind o j ≡ method_kind → MethodNoted edition o ns (pointer j)
      go (yes e) = subst (λ (x : ℕ). kind o x ≡ method_kind → MethodNoted edition o ns (pointer x)) (sym e) g
      go (no e) = f j h (omega arith)

  pub object_other : (k : ℕ) (ns : List ℕ) → BlankFrom (start o k) ns → (kind o k ≡ method_kind → ⊥) → ObjectNoted edition o k ns ns true
  object_other k ns h e =
      record { answer = sym (code_other k e); noted = λ f. one_more ns k f (λ q. absurd (e q)); blank = λ i l. h i (omega arith) }

  pub codes_stop : (k : ℕ) (ns ns' : List ℕ) (r : Bool) → 1 ≤ k → k ≤ o.n → ObjectNoted edition o k ns ns' r → r ≡ false → CodesNoted edition o ns' false
  unfolding codes
  codes_stop k ns ns' r h g w e =
      record { answer = sym (up_no o.n (code_fine edition o) k h g (sym w.answer ∙ e)); noted = λ q. absurd (subst T (sym q) tt) }

  -- so far
  pub record Going (k : ℕ) (ns : List ℕ) : Type 0 where
    pub least : 1 ≤ k
    pub most : k ≤ suc o.n
    pub passed : UpBefore (code_fine edition o) k
    pub noted : NotedBefore edition o ns k
    pub blank : k ≤ o.n → BlankFrom (start o k) ns

  pub going_first : (ns : List ℕ) → Blank ns → Going 1 ns
  going_first ns h =
      record {
        least = omega arith;
        most = omega arith;
        passed = up_none (code_fine edition o);
        noted = λ j h l. absurd (omega arith);
        blank = λ _ i _. h i;
      }

  pub going_on : (e₀ : ℕ) → T (rule4 e₀ o) → (k : ℕ) (ns ns' : List ℕ) (r : Bool) → Going k ns → k ≤ o.n → ObjectNoted edition o k ns ns' r → r ≡ true → Going (k + 1) ns'
  going_on e₀ laid k ns ns' r g h w e =
      record {
        least = omega arith;
        most = omega arith;
        passed = up_more (code_fine edition o) k g.passed (sym w.answer ∙ e);
        noted = subst (NotedBefore edition o ns') (behind k) (w.noted g.noted);
        blank = λ l. subst (λ (x : ℕ). BlankFrom (start o x) ns') (behind k)
            (λ i x. let z = g.least in let y = next_start e₀ o (T→true _ laid) k z (omega arith) in w.blank i (omega arith));
      }
    where
      behind : (k : ℕ) → suc k ≡ k + 1
      behind k = omega arith

  pub going_over : (k : ℕ) (ns : List ℕ) → Going k ns → o.n < k → CodesNoted edition o ns true
  unfolding codes
  going_over k ns g h =
      let m = g.most in
      record {
        answer = sym (up_all o.n k (code_fine edition o) (omega arith) g.passed);
        noted = λ q. subst (NotedBefore edition o ns) (last g.most h) g.noted;
      }
    where
      last : k ≤ suc o.n → o.n < k → k ≡ suc o.n
      last m h = omega arith

  -- rule 7 by the passes
  abbrev F : Bool
  F = failure_methods_fine edition o

  refused_seven : (ns : List ℕ) → rule7 edition o ≡ false → MethodsNoted edition o ns false
  refused_seven ns e = record { answer = sym e; noted = λ q. absurd (subst T (sym q) tt) }

  pub seven_shapes : (ns : List ℕ) → shapes o ≡ false → MethodsNoted edition o ns false
  seven_shapes ns e = refused_seven ns (passes edition o ∙ stop (shapes o) (holders o && (F && codes edition o)) e)

  after_shapes : shapes o ≡ true → rule7 edition o ≡ (holders o && (F && codes edition o))
  after_shapes e = passes edition o ∙ pass (shapes o) (holders o && (F && codes edition o)) e

  pub seven_holders : (ns counts : List ℕ) (r : Bool) → shapes o ≡ true → Held o counts r → r ≡ false → MethodsNoted edition o ns false
  unfolding Held
  seven_holders ns counts true e h q = absurd (subst T q tt)
  seven_holders ns counts false e h q = refused_seven ns (after_shapes e ∙ stop (holders o) (F && codes edition o) (never (holders o) h))

  after_holders : shapes o ≡ true → T (holders o) → rule7 edition o ≡ (F && codes edition o)
  after_holders e h = after_shapes e ∙ pass (holders o) (F && codes edition o) (T→true (holders o) h)

  pub seven_failures : (ns : List ℕ) → shapes o ≡ true → T (holders o) → F ≡ false → MethodsNoted edition o ns false
  seven_failures ns e h f = refused_seven ns (after_holders e h ∙ stop F (codes edition o) f)

  pub seven_codes : (ns : List ℕ) (r : Bool) → shapes o ≡ true → T (holders o) → F ≡ true → CodesNoted edition o ns r → MethodsNoted edition o ns r
  seven_codes ns r e h f c = record { answer = c.answer ∙ sym (after_holders e h ∙ pass F (codes edition o) f); noted = c.noted }

module _ {table contents bodies counts : List ℕ} {n b notes pending : ℕ} (l : PassLent table n b contents bodies counts notes pending) where
  abbrev o : Objects
  o = objects_at n b contents bodies

  -- a method among the objects
  pub asked_at : (k : ℕ) → 1 ≤ k → k ≤ n → kind o k ≡ method_kind → Asked table n b contents bodies counts (pointer k)
  unfolding shapes shape_fine
  asked_at k h g e =
      record {
        entries = l.entries;
        ready = l.ready;
        sends = l.sends;
        is_method = true→T (names_kind o k method_kind h g e);
        shape = implied (eqb (kind o k) method_kind) (all_of (shape_rules o (pointer k))) (up_to_at n (shape_fine o) l.shaped k h g) (true→T (eq-eqb (kind o k) method_kind e));
      }

  pub blank_method : (ns : List ℕ) (k : ℕ) → BlankFrom (start o k) ns → BlankFrom (start o (pointer k / 2)) ns
  blank_method ns k h = subst (λ (x : ℕ). BlankFrom (start o x) ns) (sym (half k)) h

  -- the code of an earlier method ends before that of a later one begins
  apart : (j k : ℕ) → 1 ≤ j → j < k → k ≤ n → kind o j ≡ method_kind → notes_from o (pointer j) + code_size o (pointer j) ≤ notes_from o (pointer k)
  unfolding code_size
  apart j k h l' g e =
      let a = asked_at j h (omega arith) e in
      let s = code_starts a in
      let w = body_size a in
      let r : start o (pointer j / 2) + body_words o (pointer j / 2) ≤ start o (pointer k / 2) = moved (in_order l.ready.edition o (T→true _ l.ready.layout) j k h l' g) in
      omega arith
    where
      moved : body_end o j ≤ start o k → body_end o (pointer j / 2) ≤ start o (pointer k / 2)
      moved r = subst (λ (x : ℕ). body_end o x ≤ start o (pointer k / 2)) (sym (half j)) (subst (λ (x : ℕ). body_end o j ≤ start o x) (sym (half k)) r)

  module _ (edition : ℕ) (k : ℕ) (ns ns' : List ℕ) (r : Bool) (h : 1 ≤ k) (g : k ≤ n) (blank : BlankFrom (start o k) ns) (e : kind o k ≡ method_kind)
      (w : MethodWalked edition o (pointer k) ns ns' r) where
    walked_noted : NotedBefore edition o ns k → NotedBefore edition o ns' (suc k)
    walked_noted f = one_more edition o ns' k (λ j a b q p x. w.others (notes_from o (pointer j) + p) (inl (near j a b q p x)) ∙ f j a b q p x) (λ q. w.noted)
      where
        near : (j : ℕ) → 1 ≤ j → j < k → kind o j ≡ method_kind → (p : ℕ) → p < code_size o (pointer j) → notes_from o (pointer j) + p < notes_from o (pointer k)
        near j a b q p x = let z = apart j k a b g q in omega arith

    walked_blank : BlankFrom (body_end o k) ns'
    unfolding code_size
    walked_blank i x =
        let a = asked_at k h g e in
        let s = code_starts a in
        let z = body_size a in
        let y : 2 * body_end o (pointer k / 2) ≤ i = subst (λ (j : ℕ). 2 * body_end o j ≤ i) (sym (half k)) x in
        w.others i (inr (omega arith)) ∙ blank i (omega arith)

    pub object_sound : r ≡ true → ObjectNoted edition o k ns ns' true
    object_sound q = record { answer = sym (code_sound edition o k (sym w.answer ∙ q)); noted = walked_noted; blank = walked_blank }

    pub object_unsound : (x : Bool) → r ≡ false → x ≡ runs_code o (pointer k) → ObjectNoted edition o k ns ns' (not x)
    object_unsound x q c =
        record { answer = ap not c ∙ sym (code_unsound edition o k e (sym w.answer ∙ q)); noted = walked_noted; blank = walked_blank }

-- lent again, with notes and pending positions of the same lengths
pub lent_again : {table contents bodies counts : List ℕ} {n b s q s' q' : ℕ} → s' ≡ s → q' ≡ q → PassLent table n b contents bodies counts s q → PassLent table n b contents bodies counts s' q'
lent_again {table} {contents} {bodies} {counts} {n} {b} {s} {q} {s'} {q'} e f l =
    subst (λ (x : ℕ). PassLent table n b contents bodies counts x q') (sym e) (subst (λ (x : ℕ). PassLent table n b contents bodies counts s x) (sym f) l)

-- with more room for pending positions
pub lent_room : {table contents bodies counts : List ℕ} {n b s q q' : ℕ} → 2 * b ≤ q' → PassLent table n b contents bodies counts s q → PassLent table n b contents bodies counts s q'
lent_room h l = record { entries = l.entries; ready = l.ready; sends = l.sends; shaped = l.shaped; room = l.room; long = h }

-- no notes in an array as it is made
pub zeros_at : (n j : ℕ) → get_or (replicate {A = ℕ} n 0) j 0 ≡ 0
zeros_at zero j = refl
zeros_at (suc n) zero = refl
zeros_at (suc n) (suc j) = zeros_at n j
