-- How the walk's invariant begins, what a turn makes of it, and what it says when nothing is pending.
use Prim.Native.Nat.{ℕ, suc, pred, ◌+◌, ◌<◌, ◌≤◌}
use mathlib.Core.Path.{◌≡◌, refl, sym, ap, ◌∙◌, subst}
use mathlib.Core.Logic.{◌⊎◌, inl, inr, ⊎_elim}
use mathlib.Core.Bool.{Bool, true, false}
use mathlib.Core.List.Memᴰ
use mathlib.Core.List.{List, [], ◌∷◌, Memᴰ}
use native.Mathlib.Nat.{suc_inj}
use native.Mathlib.Omega.{arith}
use native.Mathlib.Decide.{ℕ_discrete, dec_lt}
use lib.Dec.{T}
use lib.ListN.{length, get_or, set, length-replicate}
use Rattle.bytecode.proofs.TestLaws.{true→T}
use Rattle.model.specs.Depth.{Reached, first, onward, HasTable}
use Rattle.model.proofs.Marks.{blanks, blank, zeros, zeros_blank}
use Rattle.model.proofs.WalkLaws.{At, origin, further, at_reached, at_depth, Notes}
use Rattle.flow.specs.Walk.{Noted, Goes, Latest, Visited, Refused, Visits, Step, Nobody, Pending, Done, Walk, Turn, most_code, most_depth}
use Rattle.flow.specs.declared.Went.{Went}
use Rattle.flow.specs.declared.Went.TheVariants.{Stuck}
use Rattle.flow.proofs.StepLaws.{same_count, not_both, step_latest}
use Rattle.flow.proofs.VisitLaws.{visited_new}

module _ (fine : ℕ → ℕ → Bool) (next : ℕ → List ℕ) (after : ℕ → ℕ → ℕ → ℕ) (room : ℕ) where
  abbrev None : Type 0
  None = HasTable fine next after → ⊥

  abbrev Inv : List ℕ → List ℕ → ℕ → (ℕ → Type 0) → Type 0
  Inv t s waiting Busy = Walk fine next after room t s waiting Busy

  -- a table has no choice where a path leads
  not_fine : (p d : ℕ) → At next after p d → (T (fine p d) → ⊥) → None
  not_fine p d a breaks s =
      breaks (subst (λ (k : ℕ). T (fine p k)) (at_depth fine next after s.0 s.1 a) (s.1.kept p (at_reached a)))

  two_depths : (p d e : ℕ) → At next after p d → At next after p e → (d ≡ e → ⊥) → None
  two_depths p d e a b differ s = differ (sym (at_depth fine next after s.0 s.1 a) ∙ at_depth fine next after s.0 s.1 b)

  -- the last pending position becomes busy
  popped : (t s : List ℕ) (waiting m : ℕ) → waiting ≡ m + 1 → Inv t s waiting Nobody → Inv t s m (λ q. q ≡ get_or s m 0)
  popped t s waiting m e w =
      record {
        count = let h = w.count in omega arith;
        first = w.first;
        path = w.path;
        within = w.within;
        queued = λ k h. w.queued k (omega arith);
        done = λ p d h. ⊎_elim (λ z. absurd z) (⊎_elim (λ z. split p d z (ℕ_discrete z.0 m)) (λ z. inr (inr z))) (w.done p d h);
      }
    where
      split : (p d : ℕ) → (z : Pending s waiting p) → Dec (z.0 ≡ m) → (p ≡ get_or s m 0) ⊎ (Pending s m p ⊎ Done fine next after room t p d)
      split p d z (yes u) = inl (sym (subst (λ (k : ℕ). get_or s k 0 ≡ p) u z.2))
      split p d z (no u) = inr (inl (z.0, let h : z.0 < waiting = z.1 in omega arith, z.2))

  -- a visit keeps the invariant, whoever is busy
  module _ (Busy : ℕ → Type 0) (t s : List ℕ) (waiting q e : ℕ) (t' s' : List ℕ) (waiting' : ℕ) (v : Visited room t s waiting q e t' s' waiting')
      (here : At next after q e) (w : Inv t s waiting Busy) where
    path_at : (p d : ℕ) → Noted t p d ⊎ ((p ≡ q) × (d ≡ e) × (waiting < waiting')) → At next after p d
    path_at p d (inl h) = w.path p d h
    path_at p d (inr z) = subst (λ (i : ℕ). At next after i d) (sym z.0) (subst (At next after q) (sym z.1) here)

    within_at : (p d : ℕ) → Noted t p d ⊎ ((p ≡ q) × (d ≡ e) × (waiting < waiting')) → d ≤ room
    within_at p d (inl h) = w.within p d h
    within_at p d (inr z) = let x = z.1 in let y = v.within in omega arith

    queued_at : (k : ℕ) → k < waiting' → Dec (k < waiting) → (d : ℕ) × Noted t' (get_or s' k 0) d
    queued_at k h (yes l) =
        let x = w.queued k l in
        (x.0, ap (λ (i : ℕ). get_or t' i 0) (v.stack k l) ∙ v.kept (get_or s k 0) x.0 x.1)
    queued_at k h (no l) = (e, ap (λ (i : ℕ). get_or t' i 0) (v.pushed k (omega arith) h) ∙ v.here)

    abbrev Fate : ℕ → ℕ → Type 0
    Fate p d = Busy p ⊎ (Pending s' waiting' p ⊎ Done fine next after room t' p d)

    old_fate : (p d : ℕ) → Busy p ⊎ (Pending s waiting p ⊎ Done fine next after room t p d) → Fate p d
    old_fate p d (inl z) = inl z
    old_fate p d (inr (inl z)) =
        inr (inl (z.0, let h : z.0 < waiting = z.1 in let g = v.more in omega arith, v.stack z.0 z.1 ∙ z.2))
    old_fate p d (inr (inr z)) =
        inr (inr (record { holds = z.holds; along = λ r m. v.kept r (after p r d) (z.along r m) }))

    done_at : (p d : ℕ) → Noted t p d ⊎ ((p ≡ q) × (d ≡ e) × (waiting < waiting')) → Fate p d
    done_at p d (inl h) = old_fate p d (w.done p d h)
    done_at p d (inr z) = inr (inl (waiting, z.2, v.pushed waiting (omega arith) z.2 ∙ sym z.0))

    visit_keeps : Inv t' s' waiting' Busy
    visit_keeps =
        record {
          count = let a = w.count in let b = v.count in let c = v.lengths.0 in omega arith;
          first = v.kept 0 0 w.first;
          path = λ p d h. path_at p d (v.grown p d h);
          within = λ p d h. within_at p d (v.grown p d h);
          queued = λ k h. queued_at k h (dec_lt k waiting);
          done = λ p d h. done_at p d (v.grown p d h);
        }

  -- the busy position is dealt with
  closed : (t s : List ℕ) (waiting p d : ℕ) → Noted t p d → Done fine next after room t p d → Inv t s waiting (λ q. q ≡ p) → Inv t s waiting Nobody
  closed t s waiting p d h x w =
      record {
        count = w.count;
        first = w.first;
        path = w.path;
        within = w.within;
        queued = w.queued;
        done = λ q k g. ⊎_elim (λ z. inr (inr (same q k z g))) (λ z. inr z) (w.done q k g);
      }
    where
      same : (q k : ℕ) → q ≡ p → Noted t q k → Done fine next after room t q k
      same q k z g =
          let e : d ≡ k = suc_inj (sym h ∙ ap (λ (i : ℕ). get_or t i 0) (sym z) ∙ g) in
          subst (λ (i : ℕ). Done fine next after room t i k) (sym z) (subst (Done fine next after room t p) e x)

  module _ (size : ℕ) (inside : (p d : ℕ) → T (fine p d) → p < size) (deep : (p d : ℕ) → T (fine p d) → d ≤ room) where
    refused : (t s : List ℕ) (waiting : ℕ) (Busy : ℕ → Type 0) → Inv t s waiting Busy → length t ≡ size
        → (q e : ℕ) → At next after q e → Refused room t q e → None
    refused t s waiting Busy w l q e a (inl h) = not_fine q e a (λ x. let y = deep q e x in omega arith)
    refused t s waiting Busy w l q e a (inr (inl h)) = not_fine q e a (λ x. let y = inside q e x in omega arith)
    refused t s waiting Busy w l q e a (inr (inr h)) = two_depths q h.0 e (w.path q h.0 h.1) a h.2

    -- what visits of a list come to
    record Passed (t : List ℕ) (waiting : ℕ) (qs : List ℕ) (e : ℕ → ℕ) (t' s' : List ℕ) (waiting' : ℕ) (Busy : ℕ → Type 0) : Type 0 where
      walk : Inv t' s' waiting' Busy
      count : waiting' + zeros t' ≡ waiting + zeros t
      kept : (q k : ℕ) → Noted t q k → Noted t' q k
      all : (q : ℕ) → Memᴰ q qs → Noted t' q (e q)

    abbrev Outcome : List ℕ → ℕ → List ℕ → (ℕ → ℕ) → List ℕ → List ℕ → (ℕ → Type 0) → Went → Type 0
    Outcome t waiting qs e t' s' Busy r = ((r ≡ Stuck) × None) ⊎ ((waiting' : ℕ) × (Goes r waiting') × Passed t waiting qs e t' s' waiting' Busy)

    visits_come : (Busy : ℕ → Type 0) (qs : List ℕ) (e : ℕ → ℕ) (t s : List ℕ) (waiting : ℕ) (t' s' : List ℕ) (r : Went)
        → length t ≡ size → ((q : ℕ) → Memᴰ q qs → At next after q (e q)) → Inv t s waiting Busy
        → Visits room qs e t s waiting t' s' r → Outcome t waiting qs e t' s' Busy r
    unfolding Visits
    visits_come Busy [] e t s waiting t' s' r l a w v =
        inr (
          waiting,
          v.2,
          record {
            walk = rw (v.0, v.1) w;
            count = rw v.0 refl;
            kept = λ q k h. rw v.0 h;
            all = λ q m. absurd (Memᴰ.not-nil m);
          },
        )
    visits_come Busy (q ∷ qs) e t s waiting t' s' r l a w (inl x) =
        inl (x.1, refused t s waiting Busy w l q (e q) (a q (Memᴰ.head refl)) x.0)
    visits_come Busy (q ∷ qs) e t s waiting t' s' r l a w (inr x) =
        let t₁ = x.0 in
        let s₁ = x.1 in
        let waiting₁ = x.2 in
        let v : Visited room t s waiting q (e q) t₁ s₁ waiting₁ = x.3 in
        let w₁ = visit_keeps Busy t s waiting q (e q) t₁ s₁ waiting₁ v (a q (Memᴰ.head refl)) w in
        ⊎_elim (λ z. inl z) (λ z. inr (z.0, z.1, further_on q qs e t waiting t₁ waiting₁ s₁ s v z.0 z.2))
        (visits_come Busy qs e t₁ s₁ waiting₁ t' s' r (v.lengths.0 ∙ l) (λ p m. a p (Memᴰ.tail m)) w₁ x.4)
      where
        further_on : (q : ℕ) (qs : List ℕ) (e : ℕ → ℕ) (t : List ℕ) (waiting : ℕ) (t₁ : List ℕ) (waiting₁ : ℕ) (s₁ s : List ℕ) → Visited room t s waiting q (e q) t₁ s₁ waiting₁
            → (waiting' : ℕ) → Passed t₁ waiting₁ qs e t' s' waiting' Busy → Passed t waiting (q ∷ qs) e t' s' waiting' Busy
        further_on q qs e t waiting t₁ waiting₁ s₁ s v waiting' y =
            record {
              walk = y.walk;
              count = y.count ∙ v.count;
              kept = λ p k h. y.kept p k (v.kept p k h);
              all = λ p m. ⊎_elim (λ z. subst (λ (i : ℕ). Noted t' i (e i)) (sym z) (y.kept q (e q) v.here)) (λ z. y.all p z) (Memᴰ.cases_cons m);
            }

    module _ (t s : List ℕ) (waiting m p d : ℕ) (long : length t ≡ size) (one_less : waiting ≡ m + 1) (place : p ≡ get_or s m 0) (noted : Noted t p d)
        (w : Inv t s waiting Nobody) where
      path_here : At next after p d
      path_here = w.path p d noted

      turned : (t' s' : List ℕ) (r : Went) → T (fine p d) → Latest t' s' r → Outcome t m (next p) (λ q. after p q d) t' s' (λ q. q ≡ p) r → Turn fine next after room t s waiting t' s' r
      turned t' s' r f l (inl x) = record { goes = λ k e. not_both e x.0; ends = λ _. x.1; latest = l }
      turned t' s' r f l (inr x) =
          let y = x.2 in
          let c : x.0 + zeros t' ≡ m + zeros t = y.count in
          let ended_here : Inv t' s' x.0 Nobody = closed t' s' x.0 p d (y.kept p d noted) (record { holds = f; along = λ q h. y.all q h }) y.walk in
          record {
            goes = λ k e. let same : x.0 ≡ k = same_count x.1 e in (subst (λ (i : ℕ). Inv t' s' i Nobody) same ended_here, omega arith);
            ends = λ e. not_both x.1 e;
            latest = l;
          }

      turn_at : (t' s' : List ℕ) (r : Went) (b : Bool) → fine p d ≡ b → Step room b (next p) (λ q. after p q d) t s m t' s' r → Turn fine next after room t s waiting t' s' r
      turn_at t' s' r false e x =
          record {
            goes = λ k z. not_both z (x.fails refl);
            ends = λ _. not_fine p d path_here (λ y. subst T e y);
            latest = step_latest room (λ q. after p q d) t' s' r false (next p) t s m x;
          }
      turn_at t' s' r true e x =
          turned t' s' r (true→T e) (step_latest room (λ q. after p q d) t' s' r true (next p) t s m x)
          (visits_come (λ q. q ≡ p) (next p) (λ q. after p q d) t s m t' s' r long (λ q h. further path_here h)
          (subst (λ (i : ℕ). Inv t s m (λ q. q ≡ i)) (sym place) (popped t s waiting m one_less w)) (x.holds refl))

      pub turn_law : (t' s' : List ℕ) (r : Went) → Step room (fine p d) (next p) (λ q. after p q d) t s m t' s' r → Turn fine next after room t s waiting t' s' r
      turn_law t' s' r x = turn_at t' s' r (fine p d) refl x

    -- when nothing is pending
    module _ (t s : List ℕ) (long : length t ≡ size) (w : Inv t s 0 Nobody) where
      settled : (p d : ℕ) → Noted t p d → Done fine next after room t p d
      settled p d h = ⊎_elim (λ z. absurd z) (⊎_elim (λ z. absurd (let k : z.0 < 0 = z.1 in omega arith)) (λ z. z)) (w.done p d h)

      abbrev depth : ℕ → ℕ
      depth p = pred (get_or t p 0)

      own : (p d : ℕ) → Noted t p d → Noted t p (depth p)
      own p d e = e ∙ ap suc (sym (ap pred e))

      all_noted : (p : ℕ) → Reached next p → Noted t p (depth p)
      all_noted p first = own 0 0 w.first
      all_noted q (onward {p = p} r m) = own q (after p q (depth p)) ((settled p (depth p) (all_noted p r)).along q m)

      pub ended : Notes fine next after size t
      ended =
          record {
            long = long;
            kept = λ p d h. (settled p d h).holds;
            path = w.path;
            reached = all_noted;
            table = record { start = ap pred w.first; kept = λ p r. (settled p (depth p) (all_noted p r)).holds; along = λ p q r m. ap pred ((settled p (depth p) (all_noted p r)).along q m) };
          }

  -- the start: only position 0 is noted and pending
  pub begun : (size : ℕ) (t s : List ℕ) → t ≡ blanks size → 0 < size → size ≤ length s → size ≤ most_code → room ≤ most_depth → Inv (set t 0 1) (set s 0 0) 1 Nobody
  begun size t s e some-code long small shallow =
      let full : zeros t ≡ size = ap zeros e ∙ zeros_blank size in
      let all : length t ≡ size = ap length e ∙ length-replicate size 0 in
      let v : Visited room t s 0 0 0 (set t 0 1) (set s 0 0) 1 =
      visited_new 0 0 (record { count = omega arith; long = omega arith; small = omega arith; shallow = shallow }) (omega arith) (omega arith)
      (ap (λ (l : List ℕ). get_or l 0 0) e ∙ blank size 0) in
      let only : (p d : ℕ) → Noted (set t 0 1) p d → (p ≡ 0) × (d ≡ 0) =
      λ p d h. ⊎_elim (λ z. absurd (never p d (sym (ap (λ (l : List ℕ). get_or l p 0) e ∙ blank size p) ∙ z))) (λ z. (z.0, z.1)) (v.grown p d h) in
      record {
        count = let a = v.count in let b = v.lengths.0 in omega arith;
        first = v.here;
        path = λ p d h. subst (λ (i : ℕ). At next after i d) (sym (only p d h).0) (subst (At next after 0) (sym (only p d h).1) origin);
        within = λ p d h. let z = (only p d h).1 in omega arith;
        queued = λ k h. (0, ap (λ (i : ℕ). get_or (set t 0 1) i 0) (v.pushed k (omega arith) h) ∙ v.here);
        done = λ p d h. inr (inl (0, omega arith, v.pushed 0 (omega arith) (omega arith) ∙ sym (only p d h).0));
      }
    where
      never : (p d : ℕ) → ◌≡◌ {A = ℕ} 0 (suc d) → ⊥
      never p d z = omega arith
