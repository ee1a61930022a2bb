-- The walk of specs/Depth.antt finds a table exactly where there is one, and notes exactly the reached positions.
use Prim.Native.Nat.{ℕ, zero, suc, pred, ◌+◌, ◌*◌, ◌≤◌, ◌<◌}
use mathlib.Core.Path.{◌≡◌, refl, sym, ap, ◌∙◌, subst}
use mathlib.Core.Logic.{◌≢◌, ◌⊎◌, inl, inr, ◌↔◌}
use mathlib.Core.Bool.{Bool, true, false}
use mathlib.Core.List.{List, [], ◌∷◌, ◌++◌, Memᴰ}
use mathlib.Core.Option.{Option, none, some, some-injective, none-ne-some}
use native.Mathlib.Nat.{suc_inj}
use native.Mathlib.Omega.{arith}
use native.Mathlib.Decide.{ℕ_discrete}
use lib.Dec.{T, eqb, eqb→eq, eqb_refl}
use lib.ListN.{length, get_or, set, length-set, length-replicate, length-append, length-map}
use lib.Seq.{get_or-set_same, get_or-set_other}
use Rattle.bytecode.proofs.TestLaws.{true→T}
use Rattle.model.specs.Depth.{Reached, first, onward, DepthTable, HasTable, following, expanded, compared, visited, walk, walk_from, is_some}
use Rattle.model.proofs.Marks.{blanks, blank, zeros, zeros_set, zeros_blank}

-- Position p is reached along a path that leaves d operands.
pub data At (next : ℕ → List ℕ) (after : ℕ → ℕ → ℕ → ℕ) : ℕ → ℕ → Type 0 where
  origin : At next after 0 0
  further : {p q d : ℕ} → At next after p d → Memᴰ q (next p) → At next after q (after p q d)

pub at_reached : {next : ℕ → List ℕ} {after : ℕ → ℕ → ℕ → ℕ} {p d : ℕ} → At next after p d → Reached next p
at_reached origin = first
at_reached (further a m) = onward (at_reached a) m

-- a pair is in a list of pairs
abbrev mem : ℕ → ℕ → List (ℕ × ℕ) → Type 0
mem q k l = Memᴰ (q, k) l

left_part : {a b c d : ℕ} → ◌≡◌ {A = ℕ × ℕ} (a, b) (c, d) → a ≡ c
left_part e = ap {A = ℕ × ℕ} (λ x. x.0) e

right_part : {a b c d : ℕ} → ◌≡◌ {A = ℕ × ℕ} (a, b) (c, d) → b ≡ d
right_part e = ap {A = ℕ × ℕ} (λ x. x.1) e

-- a position with a note is not one without
apart : (t : List ℕ) (p q d : ℕ) → get_or t p 0 ≡ 0 → get_or t q 0 ≡ suc d → q ≢ p
apart t p q d z e same = let bad : ◌≡◌ {A = ℕ} 0 (suc d) = sym z ∙ ap (λ (k : ℕ). get_or t k 0) (sym same) ∙ e in omega arith

module _ (fine : ℕ → ℕ → Bool) (next : ℕ → List ℕ) (after : ℕ → ℕ → ℕ → ℕ) where
  abbrev Noted : List ℕ → ℕ → ℕ → Type 0
  Noted t p d = get_or t p 0 ≡ suc d

  -- two depth tables have the same depth where a path leads
  pub at_depth : (g : ℕ → ℕ) → DepthTable fine next after g → {p d : ℕ} → At next after p d → g p ≡ d
  at_depth g table origin = table.start
  at_depth g table (further {p = p} {q = q} a m) = table.along p q (at_reached a) m ∙ ap (after p q) (at_depth g table a)

  -- What the notes of a finished walk say
  pub record Notes (size : ℕ) (t : List ℕ) : Type 0 where
    pub long : length t ≡ size
    pub kept : (p d : ℕ) → Noted t p d → T (fine p d)
    pub path : (p d : ℕ) → Noted t p d → At next after p d
    pub reached : (p : ℕ) → Reached next p → Noted t p (pred (get_or t p 0))
    pub table : DepthTable fine next after (λ p. pred (get_or t p 0))

  module _ (size : ℕ) (inside : (p d : ℕ) → T (fine p d) → p < size) where
    record Inv (t : List ℕ) (pending : List (ℕ × ℕ)) : Type 0 where
      long : length t ≡ size
      kept : (p d : ℕ) → Noted t p d → T (fine p d)
      path : (p d : ℕ) → Noted t p d → At next after p d
      queued : (p d : ℕ) → mem p d pending → At next after p d
      follow : (p d q : ℕ) → Noted t p d → Memᴰ q (next p) → Noted t q (after p q d) ⊎ mem q (after p q d) pending

    -- what a walk from notes t and pending positions ends with
    record Result (t t' : List ℕ) (pending : List (ℕ × ℕ)) : Type 0 where
      keeps : (p d : ℕ) → Noted t p d → Noted t' p d
      covers : (p d : ℕ) → mem p d pending → Noted t' p d
      closed : Inv t' []

    abbrev Again : Type 0
    Again = List ℕ → List (ℕ × ℕ) → Option (List ℕ)

    abbrev Ih : Again → Type 0
    Ih again = (t : List ℕ) (pending : List (ℕ × ℕ)) → Inv t pending → (t' : List ℕ) → again t pending ≡ some t' → Result t t' pending

    module _ (t : List ℕ) (p d : ℕ) (pending : List (ℕ × ℕ)) (inv : Inv t ((p, d) ∷ pending)) where
      -- seen before with the same depth: the pair is settled
      settled : Noted t p d → Inv t pending
      settled e = record { long = inv.long; kept = inv.kept; path = inv.path; queued = λ q k m. inv.queued q k (mathlib.Core.List.Memᴰ.tail m); follow = λ q k r n m. choose q k r (inv.follow q k r n m) }
        where
          chosen : (q k r : ℕ) → (◌≡◌ {A = ℕ × ℕ} (r, after q r k) (p, d)) ⊎ mem r (after q r k) pending → Noted t r (after q r k) ⊎ mem r (after q r k) pending
          chosen q k r (inl x) = inl (ap (λ (i : ℕ). get_or t i 0) (left_part x) ∙ e ∙ ap suc (sym (right_part x)))
          chosen q k r (inr m) = inr m

          choose : (q k r : ℕ) → Noted t r (after q r k) ⊎ mem r (after q r k) ((p, d) ∷ pending) → Noted t r (after q r k) ⊎ mem r (after q r k) pending
          choose q k r (inl x) = inl x
          choose q k r (inr m) = chosen q k r (mathlib.Core.List.Memᴰ.cases_cons m)

      module _ (z : get_or t p 0 ≡ 0) (f : T (fine p d)) where
        abbrev t₁ : List ℕ
        t₁ = set t p (suc d)

        abbrev pending₁ : List (ℕ × ℕ)
        pending₁ = following fine next after p d ++ pending

        here : At next after p d
        here = inv.queued p d (mathlib.Core.List.Memᴰ.head refl)

        noted : Noted t₁ p d
        noted = get_or-set_same t p (suc d) 0 (subst (λ (k : ℕ). p < k) (sym inv.long) (inside p d f))

        other : (q : ℕ) → q ≢ p → get_or t₁ q 0 ≡ get_or t q 0
        other q h = get_or-set_other t p q (suc d) 0 h

        older : (q k : ℕ) → Noted t q k → Noted t₁ q k
        older q k e = other q (apart t p q k z e) ∙ e

        same_depth : (q k : ℕ) → q ≡ p → Noted t₁ q k → d ≡ k
        same_depth q k s e = suc_inj (sym noted ∙ ap (λ (i : ℕ). get_or t₁ i 0) (sym s) ∙ e)

        -- what holds at the new note and at the old ones
        at_notes : (P : ℕ → ℕ → Type 0) → P p d → ((q k : ℕ) → Noted t q k → P q k) → (q k : ℕ) → Dec (q ≡ p) → Noted t₁ q k → P q k
        at_notes P now then q k (yes s) e =
            subst (λ (i : ℕ). P i k) (sym s) (subst (P p) (same_depth q k s e) now)
        at_notes P now then q k (no h) e = then q k (sym (other q h) ∙ e)

        abbrev Settled : ℕ → ℕ → Type 0
        Settled r k = Noted t₁ r k ⊎ mem r k pending₁

        pair_settled : (r k : ℕ) → (◌≡◌ {A = ℕ × ℕ} (r, k) (p, d)) ⊎ mem r k pending → Settled r k
        pair_settled r k (inl x) = inl (ap (λ (i : ℕ). get_or t₁ i 0) (left_part x) ∙ noted ∙ ap suc (sym (right_part x)))
        pair_settled r k (inr m) = inr (mathlib.Core.List.Memᴰ.append_right (following fine next after p d) m)

        old_settled : (r k : ℕ) → Noted t r k ⊎ mem r k ((p, d) ∷ pending) → Settled r k
        old_settled r k (inl e) = inl (older r k e)
        old_settled r k (inr m) = pair_settled r k (mathlib.Core.List.Memᴰ.cases_cons m)

        follow₁ : (q k r : ℕ) → Dec (q ≡ p) → Noted t₁ q k → Memᴰ r (next q) → Settled r (after q r k)
        follow₁ q k r (yes s) e m =
            let m' : Memᴰ r (next p) = subst (λ (i : ℕ). Memᴰ r (next i)) s m in
            inr (mathlib.Core.List.Memᴰ.append_left pending (mathlib.Core.List.Memᴰ.cast (λ i. (r, after (s i) r (sym (same_depth q k s e) i))) (mathlib.Core.List.Memᴰ.map (λ (i : ℕ). (i, after p i d)) m')))
        follow₁ q k r (no h) e m = old_settled r (after q r k) (inv.follow q k r (sym (other q h) ∙ e) m)

        queued₁ : (q k : ℕ) → mem q k (following fine next after p d) ⊎ mem q k pending → At next after q k
        queued₁ q k (inl m) =
            let r = mathlib.Core.List.Memᴰ.of_map (λ (i : ℕ). (i, after p i d)) (next p) m in
            subst (λ (i : ℕ). At next after i k) (left_part r.2) (subst (At next after r.0) (right_part r.2) (further here r.1))
        queued₁ q k (inr m) = inv.queued q k (mathlib.Core.List.Memᴰ.tail m)

        grown : Inv t₁ pending₁
        grown =
            record {
              long = length-set t p (suc d) ∙ inv.long;
              kept = λ q k e. at_notes (λ i j. T (fine i j)) f inv.kept q k (ℕ_discrete q p) e;
              path = λ q
                  k e. at_notes (At next after) here inv.path q k (ℕ_discrete q p) e;
              queued = λ q k m. queued₁ q k
                  (mathlib.Core.List.Memᴰ.append_cases (following fine next after p d) m);
              follow = λ q k r e m. follow₁ q k r (ℕ_discrete q p) e m;
            }

        -- what the walk from there ends with, seen from here
        back : (t' : List ℕ) → Result t₁ t' pending₁ → Result t t' ((p, d) ∷ pending)
        back t' r = record { keeps = λ q k e. r.keeps q k (older q k e); covers = λ q k m. cover q k (mathlib.Core.List.Memᴰ.cases_cons m); closed = r.closed }
          where
            cover : (q k : ℕ) → (◌≡◌ {A = ℕ × ℕ} (q, k) (p, d)) ⊎ mem q k pending → Noted t' q k
            cover q k (inl x) = ap (λ (i : ℕ). get_or t' i 0) (left_part x) ∙ r.keeps p d noted ∙ ap suc (sym (right_part x))
            cover q k (inr m) = r.covers q k (mathlib.Core.List.Memᴰ.append_right (following fine next after p d) m)

      -- the same where the pair was settled
      passed : Noted t p d → (t' : List ℕ) → Result t t' pending → Result t t' ((p, d) ∷ pending)
      passed e t' r = record { keeps = r.keeps; covers = λ q k m. cover q k (mathlib.Core.List.Memᴰ.cases_cons m); closed = r.closed }
        where
          cover : (q k : ℕ) → (◌≡◌ {A = ℕ × ℕ} (q, k) (p, d)) ⊎ mem q k pending → Noted t' q k
          cover q k (inl x) = ap (λ (i : ℕ). get_or t' i 0) (left_part x) ∙ r.keeps p d e ∙ ap suc (sym (right_part x))
          cover q k (inr m) = r.covers q k m

      module _ (again : Again) (ih : Ih again) where
        expand : get_or t p 0 ≡ 0 → (b : Bool) → fine p d ≡ b → (t' : List ℕ)
            → expanded fine next after again t p d pending b ≡ some t' → Result t t' ((p, d) ∷ pending)
        expand z true f t' h = back z (true→T f) t' (ih (t₁ z (true→T f)) (pending₁ z (true→T f)) (grown z (true→T f)) t' h)
        expand z false f t' h = absurd (none-ne-some t' h)

        compare : (e : ℕ) → Noted t p e → (b : Bool) → eqb e d ≡ b → (t' : List ℕ)
            → compared fine next after again t pending b ≡ some t' → Result t t' ((p, d) ∷ pending)
        compare e n true s t' h =
            let n' : Noted t p d = n ∙ ap suc (eqb→eq e d (true→T s)) in
            passed n' t' (ih t pending (settled n') t' h)
        compare e n false s t' h = absurd (none-ne-some t' h)

        visit : (v : ℕ) → get_or t p 0 ≡ v → (t' : List ℕ)
            → visited fine next after again t p d pending v ≡ some t' → Result t t' ((p, d) ∷ pending)
        visit zero e t' h = expand e (fine p d) refl t' h
        visit (suc k) e t' h = compare k e (eqb k d) refl t' h

    walked : (fuel : ℕ) → Ih (walk fine next after fuel)
    unfolding walk
    walked zero t pending inv t' h = absurd (none-ne-some t' h)
    walked (suc fuel) t [] inv t' h =
        let e : t ≡ t' = some-injective t t' h in
        subst (λ (l : List ℕ). Result t l []) e (record { keeps = λ p d n. n; covers = λ p d m. absurd (mathlib.Core.List.Memᴰ.not-nil m); closed = inv })
    walked (suc fuel) t (x ∷ pending) inv t' h =
        visit t x.0 x.1 pending inv (walk fine next after fuel) (walked fuel) (get_or t x.0 0) refl t' h

    none_noted : (p d : ℕ) → Noted (blanks size) p d → ⊥
    none_noted p d e = let z : get_or (blanks size) p 0 ≡ 0 = blank size p in omega arith

    -- only position 0 is pending at the start
    start_path : (p d : ℕ) → mem p d ((0, 0) ∷ []) → At next after p d
    start_path p d m =
        let e = mathlib.Core.List.Memᴰ.eq_of_singleton m in
        subst (λ (i : ℕ). At next after i d) (sym (left_part e)) (subst (At next after 0) (sym (right_part e)) origin)

    start : Inv (blanks size) ((0, 0) ∷ [])
    start =
        record {
          long = length-replicate size 0;
          kept = λ p d e. absurd (none_noted p d e);
          path = λ p d e. absurd (none_noted p d e);
          queued = start_path;
          follow = λ p d q e m. absurd (none_noted p d e);
        }

    -- notes that are closed are a depth table of the reached positions
    module _ (t : List ℕ) (closed : Inv t []) (zeroth : Noted t 0 0) where
      abbrev depth : ℕ → ℕ
      depth p = pred (get_or t p 0)

      own : (p d : ℕ) → Noted t p d → Noted t p (depth p)
      own p d e = e ∙ ap suc (sym (ap pred e))

      noted_next : (p q d : ℕ) → Noted t p d → Memᴰ q (next p) → Noted t q (after p q d)
      noted_next p q d e m = last (closed.follow p d q e m)
        where
          last : Noted t q (after p q d) ⊎ mem q (after p q d) [] → Noted t q (after p q d)
          last (inl x) = x
          last (inr x) = absurd (mathlib.Core.List.Memᴰ.not-nil x)

      all_noted : (p : ℕ) → Reached next p → Noted t p (depth p)
      all_noted p first = own 0 0 zeroth
      all_noted q (onward {p = p} r m) = own q (after p q (depth p)) (noted_next p q (depth p) (all_noted p r) m)

      notes : Notes size t
      notes =
          record {
            long = closed.long;
            kept = closed.kept;
            path = closed.path;
            reached = all_noted;
            table = record
                { start = ap pred zeroth; kept = λ p r. closed.kept p (depth p) (all_noted p r); along = λ p q r m. ap pred (noted_next p q (depth p) (all_noted p r) m) };
          }

    pub found : (t : List ℕ) → walk_from fine next after size ≡ some t → Notes size t
    unfolding walk_from
    found t h =
        let r : Result (blanks size) t ((0, 0) ∷ []) = walked (2 * size + 2) (blanks size) ((0, 0) ∷ []) start t h in
        notes t r.closed (r.covers 0 0 (mathlib.Core.List.Memᴰ.head refl))

    -- and where there is a depth table, the walk ends
    module _ (two : (p : ℕ) → length (next p) ≤ 2) (g : ℕ → ℕ) (table : DepthTable fine next after g) where
      record Along (fuel : ℕ) (t : List ℕ) (pending : List (ℕ × ℕ)) : Type 0 where
        long : length t ≡ size
        path : (p d : ℕ) → Noted t p d → At next after p d
        queued : (p d : ℕ) → mem p d pending → At next after p d
        enough : 2 * zeros t + length pending < fuel

      abbrev Gives : Option (List ℕ) → Type 0
      Gives o = (t : List ℕ) × (o ≡ some t)

      fine_at : (p d : ℕ) → At next after p d → T (fine p d)
      fine_at p d a = subst (λ (k : ℕ). T (fine p k)) (at_depth g table a) (table.kept p (at_reached a))

      module _ (fuel : ℕ) (again : Again) (ih : (t : List ℕ) (pending : List (ℕ × ℕ)) → Along fuel t pending → Gives (again t pending))
          (t : List ℕ) (p d : ℕ) (pending : List (ℕ × ℕ)) (along : Along (suc fuel) t ((p, d) ∷ pending)) where
        this : At next after p d
        this = along.queued p d (mathlib.Core.List.Memᴰ.head refl)

        within : p < length t
        within = subst (λ (k : ℕ). p < k) (sym along.long) (inside p d (fine_at p d this))

        more : get_or t p 0 ≡ 0 → Along fuel (set t p (suc d)) (following fine next after p d ++ pending)
        more z =
            record {
              long = length-set t p (suc d) ∙ along.long;
              path = λ q k e. path₂ q k (ℕ_discrete q p) e;
              queued = λ q k m. queued₂ q k
                  (mathlib.Core.List.Memᴰ.append_cases (following fine next after p d) m);
              enough = enough₂;
            }
          where
            path₂ : (q k : ℕ) → Dec (q ≡ p) → Noted (set t p (suc d)) q k → At next after q k
            path₂ q k (yes s) e =
                let same : d ≡ k = suc_inj (sym (get_or-set_same t p (suc d) 0 within) ∙ ap (λ (i : ℕ). get_or (set t p (suc d)) i 0) (sym s) ∙ e) in
                subst (λ (i : ℕ). At next after i k) (sym s) (subst (At next after p) same this)
            path₂ q k (no h) e = along.path q k (sym (get_or-set_other t p q (suc d) 0 h) ∙ e)

            queued₂ : (q k : ℕ) → mem q k (following fine next after p d) ⊎ mem q k pending → At next after q k
            queued₂ q k (inl m) =
                let r = mathlib.Core.List.Memᴰ.of_map (λ (i : ℕ). (i, after p i d)) (next p) m in
                subst (λ (i : ℕ). At next after i k) (left_part r.2) (subst (At next after r.0) (right_part r.2) (further this r.1))
            queued₂ q k (inr m) = along.queued q k (mathlib.Core.List.Memᴰ.tail m)

            enough₂ : 2 * zeros (set t p (suc d)) + length (following fine next after p d ++ pending) < fuel
            enough₂ = simp (length-append, length-map) (omega (arith, zeros_set t p d within z, along.enough, two p))

        visit_gives : (v : ℕ) → get_or t p 0 ≡ v → Gives (visited fine next after again t p d pending v)
        visit_gives zero e = expand_gives (fine p d) (fine_at p d this)
          where
            expand_gives : (b : Bool) → T b → Gives (expanded fine next after again t p d pending b)
            expand_gives true f = ih (set t p (suc d)) (following fine next after p d ++ pending) (more e)
            expand_gives false f = absurd f
        visit_gives (suc k) e = compare_gives (eqb k d) (subst (λ (i : ℕ). T (eqb k i)) same (eqb_refl k))
          where
            same : k ≡ d
            same = sym (at_depth g table (along.path p k e)) ∙ at_depth g table this

            compare_gives : (b : Bool) → T b → Gives (compared fine next after again t pending b)
            compare_gives true s = ih t pending (record {
              long = along.long;
              path = along.path;
              queued = λ q i m. along.queued q i (mathlib.Core.List.Memᴰ.tail m);
              enough = let x = along.enough in omega arith;
            })
            compare_gives false s = absurd s

      walk_gives : (fuel : ℕ) (t : List ℕ) (pending : List (ℕ × ℕ)) → Along fuel t pending → Gives (walk fine next after fuel t pending)
      unfolding walk
      walk_gives zero t pending along = absurd (let x = along.enough in omega arith)
      walk_gives (suc fuel) t [] along = (t, refl)
      walk_gives (suc fuel) t (x ∷ pending) along =
          visit_gives fuel (walk fine next after fuel) (walk_gives fuel) t x.0 x.1 pending along (get_or t x.0 0) refl

      pub gives : Gives (walk_from fine next after size)
      unfolding walk_from
      gives =
          walk_gives (2 * size + 2) (blanks size) ((0, 0) ∷ [])
          (record { long = length-replicate size 0; path = λ p d e. absurd (none_noted p d e); queued = start_path; enough = rw zeros_blank (omega arith) })

    -- so the computation decides the statement
    pub decides_walk : ((p : ℕ) → length (next p) ≤ 2) → HasTable fine next after ↔ T (is_some (walk_from fine next after size))
    decides_walk two = (λ s. some_is (gives two s.0 s.1), λ t. from (walk_from fine next after size) refl t)
      where
        some_is : ((t : List ℕ) × (walk_from fine next after size ≡ some t)) → T (is_some (walk_from fine next after size))
        some_is r = subst (λ (o : Option (List ℕ)). T (is_some o)) (sym r.1) tt

        from : (o : Option (List ℕ)) → walk_from fine next after size ≡ o → T (is_some o) → HasTable fine next after
        from none e t = absurd t
        from (some x) e t = ((λ p. pred (get_or x p 0)), (found x e).table)
