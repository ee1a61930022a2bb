-- What a visit does to notes, pending positions and their count.
use Prim.Native.Nat.{ℕ, zero, suc, ◌+◌, ◌<◌, ◌≤◌}
use mathlib.Core.Path.{◌≡◌, refl, sym, ap, ◌∙◌, subst}
use mathlib.Core.Logic.{◌≢◌, ◌⊎◌, inl, inr}
use mathlib.Core.List.{List, [], ◌∷◌}
use native.Mathlib.Nat.{suc_inj}
use native.Mathlib.Numerals.{add-one}
use native.Mathlib.Omega.{arith}
use native.Mathlib.Decide.{ℕ_discrete}
use lib.ListN.{length, get_or, set, length-set}
use lib.Seq.{get_or-set_same, get_or-set_other}
use Rattle.model.proofs.Marks.{zeros_set}
use Rattle.flow.specs.Walk.{Noted, Goes, Asks, Visited, Refused, Visit, Visits}
use Rattle.flow.specs.declared.Went.{Went}
use Rattle.flow.specs.declared.Went.TheVariants.{Fresh, Known, Stuck}
use Rattle.flow.proofs.StepLaws.{same_count, not_both, goes_fresh, goes_known, latest_fresh, latest_known, latest_stuck}

module _ {room : ℕ} {t s : List ℕ} {waiting : ℕ} (p d : ℕ) (asks : Asks t s waiting room) (deep : d ≤ room) (in-t : p < length t) where
  -- a position without a note is left, so that there is room to push it
  pub has_room : get_or t p 0 ≡ 0 → waiting < length s
  has_room e = omega (arith, zeros_set t p d in-t e)

  module _ (e : get_or t p 0 ≡ 0) where
    other : (q k : ℕ) → Noted t q k → q ≢ p
    other q k h z = let x : ◌≡◌ {A = ℕ} 0 (suc k) = sym e ∙ ap (λ (i : ℕ). get_or t i 0) (sym z) ∙ h in omega arith

    new_here : Noted (set t p (suc d)) p d
    new_here = get_or-set_same t p (suc d) 0 in-t

    grown_at : (q k : ℕ) → Dec (q ≡ p) → Noted (set t p (suc d)) q k → Noted t q k ⊎ ((q ≡ p) × (k ≡ d) × (waiting < waiting + 1))
    grown_at q k (yes z) h =
        inr (z, suc_inj (sym h ∙ ap (λ (i : ℕ). get_or (set t p (suc d)) i 0) z ∙ new_here), omega arith)
    grown_at q k (no z) h = inl (sym (get_or-set_other t p q (suc d) 0 z) ∙ h)

    new_visit : Visited room t s waiting p d (set t p (suc d)) (set s waiting p) (waiting + 1)
    new_visit =
        record {
          within = deep;
          lengths = (length-set t p (suc d), length-set s waiting p);
          count = omega (arith, zeros_set t p d in-t e);
          more = omega arith;
          here = new_here;
          kept = λ q k h. get_or-set_other t p q (suc d) 0 (other q k h) ∙ h;
          grown = λ q k h. grown_at q k (ℕ_discrete q p) h;
          stack = λ k h. get_or-set_other s waiting k p 0 (λ z. omega arith);
          pushed = λ k h l. subst (λ (j : ℕ). get_or (set s waiting p) j 0 ≡ p) (omega arith) (get_or-set_same s waiting p 0 (has_room e));
        }

  pub visited_new : get_or t p 0 ≡ 0 → Visited room t s waiting p d (set t p (d + 1)) (set s waiting p) (waiting + 1)
  visited_new e = rw (add-one d) (new_visit e)

  pub visited_same : get_or t p 0 ≡ d + 1 → Visited room t s waiting p d t s waiting
  visited_same e =
      record {
        within = deep;
        lengths = (refl, refl);
        count = refl;
        more = omega arith;
        here = e ∙ add-one d;
        kept = λ q k h. h;
        grown = λ q k h. inl h;
        stack = λ k h. refl;
        pushed = λ k h l. absurd (omega arith);
      }

-- another depth is noted
clash_at : (room : ℕ) (t : List ℕ) (p d v : ℕ) → get_or t p 0 ≡ v → (v ≡ 0 → ⊥) → (v ≡ d + 1 → ⊥) → Refused room t p d
clash_at room t p d zero e z h = absurd (z refl)
clash_at room t p d (suc k) e z h = inr (inr (k, e, λ x. h (ap suc x ∙ sym (add-one d))))

pub clash : (room : ℕ) (t : List ℕ) (p d : ℕ) → (get_or t p 0 ≡ 0 → ⊥) → (get_or t p 0 ≡ d + 1 → ⊥) → Refused room t p d
clash room t p d z h = clash_at room t p d (get_or t p 0) refl z h

-- what a visit answers
module _ {room : ℕ} {t s : List ℕ} {waiting p d : ℕ} {t' s' : List ℕ} where
  pub visit_fresh : Visited room t s waiting p d t' s' (waiting + 1) → Visit room t s waiting p d t' s' (Fresh (waiting + 1) p d)
  visit_fresh v =
      record {
        goes = λ j e. subst (λ (i : ℕ). Visited room t s waiting p d t' s' i) (same_count (goes_fresh refl) e) v;
        ends = λ e. not_both (goes_fresh refl) e;
        latest = latest_fresh waiting p d (v.pushed waiting (omega arith) (omega arith)) v.here;
      }

  pub visit_known : {q e : ℕ} → Visited room t s waiting p d t' s' waiting → Visit room t s waiting p d t' s' (Known waiting q e)
  visit_known v =
      record {
        goes = λ j e. subst (λ (i : ℕ). Visited room t s waiting p d t' s' i) (same_count (goes_known refl) e) v;
        ends = λ e. not_both (goes_known refl) e;
        latest = latest_known;
      }

  pub visit_stuck : Refused room t p d → Visit room t s waiting p d t' s' Stuck
  visit_stuck v = record { goes = λ j e. not_both e refl; ends = λ _. v; latest = latest_stuck }

  -- what a visit needs for the next one
  pub asks_again : {k : ℕ} → Asks t s waiting room → Visited room t s waiting p d t' s' k → Asks t' s' k room
  asks_again a v = record { count = omega arith; long = omega arith; small = omega arith; shallow = a.shallow }

-- one visit, and one before others
module _ {room : ℕ} {t s : List ℕ} {waiting p : ℕ} (d : ℕ → ℕ) {t₁ s₁ : List ℕ} {r₁ : Went} (v : Visit room t s waiting p (d p) t₁ s₁ r₁) where
  pub visits_one : Visits room (p ∷ []) d t s waiting t₁ s₁ r₁
  unfolding Visits
  visits_one = by r₁ refl
    where
      by : (r : Went) → r₁ ≡ r → Visits room (p ∷ []) d t s waiting t₁ s₁ r₁
      by (Fresh k q e) h = inr (t₁, s₁, k, v.goes k (goes_fresh h), (refl, refl, goes_fresh h, v.latest))
      by (Known k q e) h = inr (t₁, s₁, k, v.goes k (goes_known h), (refl, refl, goes_known h, v.latest))
      by Stuck e = inl (v.ends e, e)

  module _ (qs t' s' : List ℕ) where
    pub visits_more : {k : ℕ} (r : Went) → Goes r₁ k → Visits room qs d t₁ s₁ k t' s' r → Visits room (p ∷ qs) d t s waiting t' s' r
    unfolding Visits
    visits_more {k} r e rest = inr (t₁, s₁, k, v.goes k e, rest)

    pub visits_stuck : r₁ ≡ Stuck → Visits room (p ∷ qs) d t s waiting t' s' Stuck
    unfolding Visits
    visits_stuck e = inl (v.ends e, refl)
