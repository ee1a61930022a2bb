-- Where the walk goes on after a turn.
use Prim.Native.Nat.{ℕ, suc, ◌+◌, ◌-◌, ◌<◌, ◌≤◌}
use mathlib.Core.Path.{◌≡◌, refl, sym, subst}
use mathlib.Core.Bool.{Bool}
use mathlib.Core.List.{List}
use native.Mathlib.Omega.{arith}
use lib.ListN.{length, get_or}
use Rattle.bytecode.specs.declared.Instruction.{Instruction}
use Rattle.flow.specs.Walk.{Noted, Walking, WalkingAt, TurnAt}
use Rattle.flow.specs.declared.Went.{Went}
use Rattle.flow.specs.declared.Went.TheVariants.{Fresh, Known, Stuck}
use Rattle.flow.proofs.StepLaws.{goes_fresh, goes_known}
use Rattle.flow.proofs.CodeWalk.{noted_inside, finishes}
use Rattle.code.specs.Turn.{Queued, Last, NextAt}
use Rattle.code.specs.declared.Spot.{Spot}
use Rattle.code.specs.declared.NoTable.{NoTable}
use Rattle.model.proofs.Marks.{zeros}
use Rattle.std.specs.Prelude.{Option, None, Some, Ok, Err}

module _ {t s : List ℕ} {waiting : ℕ} where
  pub last_over : waiting ≡ 0 → Last t s waiting None
  last_over h = record { goes = λ x e. absurd cc; over = λ _. h }

  pub last_at : 0 < waiting → 0 < get_or t (get_or s (waiting - 1) 0) 0
      → Last t s waiting (Some (record { waiting = waiting; at = get_or s (waiting - 1) 0; depth = get_or t (get_or s (waiting - 1) 0) 0 - 1 }))
  last_at h g =
      let here : Spot = record { waiting = waiting; at = get_or s (waiting - 1) 0; depth = get_or t (get_or s (waiting - 1) 0) 0 - 1 } in
      record {
        goes = λ x e.
            let q : here ≡ x = cc in
            subst (λ (y : Spot). (y.waiting ≡ waiting) × (0 < waiting) × (get_or s (waiting - 1) 0 ≡ y.at) × Noted t y.at y.depth) q (refl, h, refl, omega arith);
        over = λ e. absurd cc;
      }

module _ {counts words : List ℕ} {size room : ℕ} {more : Instruction → Bool} where
  pub queued : {t s : List ℕ} {k : ℕ} → length t ≤ length s → Walking counts words size room more t s k → Queued t s k
  queued {t} {s} {k} l w =
      let c = w.walk.count in
      let top : 0 < k → (d : ℕ) × Noted t (get_or s (k - 1) 0) d = λ h. w.walk.queued (k - 1) (omega arith) in
      record {
        long = omega arith;
        inside = λ h. noted_inside t (get_or s (k - 1) 0) (top h).0 (top h).1;
        noted = λ h. let e : get_or t (get_or s (k - 1) 0) 0 ≡ suc (top h).0 = (top h).1 in omega arith;
      }

  module _ {t s : List ℕ} {waiting : ℕ} {t' s' : List ℕ} {r : Went} (turn : TurnAt counts words size room more t s waiting t' s' r) where
    pub next_refused : {n : NoTable} → r ≡ Stuck → NextAt counts words size room more t waiting t' s' (Err n)
    next_refused e = record { goes = λ x f. absurd cc; over = λ f. absurd cc; never = λ n f. turn.ends e }

    pub next_fresh : {k p d : ℕ} → r ≡ Fresh k p d → NextAt counts words size room more t waiting t' s' (Ok (Some (record { waiting = k; at = p; depth = d })))
    next_fresh {k} {p} {d} e =
        let w = turn.goes k (goes_fresh e) in
        let l = turn.latest.last k p d e in
        let here : WalkingAt counts words size room more t' s' k p d = record { walking = w.0; left = l.0; last = l.1; noted = l.2 } in
        let spot : Spot = record { waiting = k; at = p; depth = d } in
        record {
          goes = λ x f.
              let q : spot ≡ x = cc in
              subst (λ (y : Spot). WalkingAt counts words size room more t' s' y.waiting y.at y.depth × (y.waiting + zeros t' < waiting + zeros t)) q (here, w.1);
          over = λ f. absurd cc;
          never = λ n f. absurd cc;
        }

    pub next_known : {k p d : ℕ} {x : Option Spot} → length t' ≡ size → r ≡ Known k p d → Last t' s' k x → NextAt counts words size room more t waiting t' s' (Ok x)
    next_known {k} {p} {d} {x} long e l =
        let w = turn.goes k (goes_known e) in
        record {
          goes = λ y f.
              let q : x ≡ Some y = cc in
              let g = l.goes y q in
              let z : y.waiting ≡ k = g.0 in (
                subst (λ (i : ℕ). WalkingAt counts words size room more t' s' i y.at y.depth) (sym z) (record { walking = w.0; left = g.1; last = g.2; noted = g.3 }),
                (let v = w.1 in omega arith),
              );
          over = λ f. let q : x ≡ None = cc in finishes long (l.over q) w.0;
          never = λ n f. absurd cc;
        }
