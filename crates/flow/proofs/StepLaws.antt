-- What a step answers. A step: visits where the instruction keeps its rules, stuck where not.
use Prim.Native.Nat.{ℕ, suc, ◌+◌, ◌-◌}
use mathlib.Core.Path.{◌≡◌, refl, sym, ap, ◌∙◌, subst}
use mathlib.Core.Bool.{Bool, true, false, ◌&&◌}
use mathlib.Core.List.{List, [], ◌∷◌}
use mathlib.Core.Logic.{inl, inr}
use native.Mathlib.Nat.{suc_inj}
use native.Mathlib.Omega.{arith}
use lib.Dec.{T}
use lib.ListN.{get_or}
use Rattle.flow.specs.Walk.{Noted, Goes, pending_after, Latest, Visits, Step}
use Rattle.flow.specs.declared.Went.{Went}
use Rattle.flow.specs.declared.Went.TheVariants.{Fresh, Known, Stuck}

pub goes_fresh : {r : Went} {k p d : ℕ} → r ≡ Fresh k p d → Goes r k
unfolding pending_after
goes_fresh e = record { count = ap pending_after e }

pub goes_known : {r : Went} {k p d : ℕ} → r ≡ Known k p d → Goes r k
unfolding pending_after
goes_known e = record { count = ap pending_after e }

pub same_count : {r : Went} {j k : ℕ} → Goes r j → Goes r k → j ≡ k
same_count e f = suc_inj (sym e.count ∙ f.count)

pub not_both : {A : Type 0} {r : Went} {k : ℕ} → Goes r k → r ≡ Stuck → A
unfolding pending_after
not_both {k = k} e f = let z : ◌≡◌ {A = ℕ} (suc k) 0 = sym e.count ∙ ap pending_after f in absurd (omega arith)

-- the numbers of a fresh one, 0 for any other
abbrev fresh_place : Went → ℕ
fresh_place (Fresh k p d) = p
fresh_place (Known k p d) = 0
fresh_place Stuck = 0

abbrev fresh_depth : Went → ℕ
fresh_depth (Fresh k p d) = d
fresh_depth (Known k p d) = 0
fresh_depth Stuck = 0

abbrev is_fresh : Went → ℕ
is_fresh (Fresh k p d) = 1
is_fresh (Known k p d) = 0
is_fresh Stuck = 0

-- only a fresh one says something
not_fresh : {A : Type 0} {r : Went} {k p d : ℕ} → is_fresh r ≡ 0 → r ≡ Fresh k p d → A
not_fresh e f = let z : ◌≡◌ {A = ℕ} 0 1 = sym e ∙ ap is_fresh f in absurd (omega arith)

module _ {t s : List ℕ} where
  pub latest_known : {k p d : ℕ} → Latest t s (Known k p d)
  latest_known = record { last = λ j q e f. not_fresh refl f }

  pub latest_stuck : Latest t s Stuck
  latest_stuck = record { last = λ j q e f. not_fresh refl f }

  pub latest_fresh : (waiting p d : ℕ) → get_or s waiting 0 ≡ p → Noted t p d → Latest t s (Fresh (waiting + 1) p d)
  latest_fresh waiting p d h g =
      record {
        last = λ k q e f.
            let x : waiting + 1 ≡ k = same_count (goes_fresh refl) (goes_fresh f) in
            let y : p ≡ q = ap fresh_place f in (
              omega arith,
              subst (λ (i : ℕ). get_or s (k - 1) 0 ≡ i) y (subst (λ (i : ℕ). get_or s i 0 ≡ p) (omega arith) h),
              subst (λ (i : ℕ). Noted t i e) y (subst (λ (i : ℕ). Noted t p i) (ap fresh_depth f) g),
            );
      }

pub and_no : {a : Bool} (b : Bool) → a ≡ false → a && b ≡ false
and_no b e = rw e

not_two : {A : Type 0} {ok : Bool} → ok ≡ true → ok ≡ false → A
not_two e f = absurd (subst T (sym e ∙ f) tt)

module _ {room : ℕ} {ok : Bool} {qs : List ℕ} {d : ℕ → ℕ} {t s : List ℕ} {waiting : ℕ} {t' s' : List ℕ} where
  pub step_yes : {r : Went} → ok ≡ true → Visits room qs d t s waiting t' s' r → Step room ok qs d t s waiting t' s' r
  step_yes e v = record { holds = λ _. v; fails = λ f. not_two e f }

  pub step_no : ok ≡ false → Step room ok qs d t s waiting t' s' Stuck
  step_no e = record { holds = λ f. not_two f e; fails = λ _. refl }

  -- with one rule more
  pub step_and : {r : Went} {more : Bool} → more ≡ true → Step room ok qs d t s waiting t' s' r → Step room (more && ok) qs d t s waiting t' s' r
  step_and e v = rw e v

  -- the same step said otherwise
  pub step_as : {r : Went} {ok₁ : Bool} {qs₁ : List ℕ} {d₁ : ℕ → ℕ} → ok ≡ ok₁ → qs ≡ qs₁ → d ≡ d₁
      → Step room ok₁ qs₁ d₁ t s waiting t' s' r → Step room ok qs d t s waiting t' s' r
  step_as e f g v = rw (e, f, g) v

pub step_none : {room : ℕ} {ok : Bool} {d : ℕ → ℕ} {t s : List ℕ} {waiting p e : ℕ} → ok ≡ true → Step room ok [] d t s waiting t s (Known waiting p e)
unfolding Visits
step_none h = step_yes h (refl, refl, goes_known refl, latest_known)

-- what visits leave last
module _ (room : ℕ) (d : ℕ → ℕ) (t' s' : List ℕ) (r : Went) where
  visits_latest : (qs t s : List ℕ) (waiting : ℕ) → Visits room qs d t s waiting t' s' r → Latest t' s' r
  unfolding Visits
  visits_latest [] t s waiting v = rw (v.0, v.1) v.3
  visits_latest (q ∷ qs) t s waiting (inl x) = rw x.1 latest_stuck
  visits_latest (q ∷ qs) t s waiting (inr x) = visits_latest qs x.0 x.1 x.2 x.4

  pub step_latest : (ok : Bool) (qs t s : List ℕ) (waiting : ℕ) → Step room ok qs d t s waiting t' s' r → Latest t' s' r
  step_latest true qs t s waiting x = visits_latest qs t s waiting (x.holds refl)
  step_latest false qs t s waiting x = rw (x.fails refl) latest_stuck
