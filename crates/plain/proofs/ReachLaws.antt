-- Runs that continue each other are one run, and its reach is the largest of theirs.
use Prim.Native.Nat.{ℕ, zero, suc, ◌+◌, ◌≤◌, max}
use mathlib.Core.Path.{◌≡◌, refl, sym, ap, ◌∙◌, subst}
use mathlib.Core.Bool.{Bool, true, false}
use mathlib.Core.List.{List, [], ◌∷◌}
use native.Mathlib.Omega.{arith}
use borrow.Author.Tests.{eqb-true, eq-eqb}
use lib.Dec.{eqb}
use Rattle.bytecode.specs.Test.{when◌then◌else◌}
use Rattle.bytecode.proofs.Choice.{if_yes, if_no}
use Rattle.model.specs.Image.{accepted}
use Rattle.plain.specs.Registers.{running, Cause, not_understood, no_boolean, no_stack_room, phase_of}
use Rattle.plain.specs.Step.{read_in, Stepped, leads_to, halts, missing, step}
use Rattle.plain.specs.Calls.{Ran, ran, stuck, steps, Answer, done, refused_by, result, wrote, run_call}
use Rattle.plain.specs.Flat.{Flat, room_of, plain_of}
use Rattle.plain.specs.Check.{check}
use Rattle.plain.specs.FlatCalls.{Given, gives, no_answer, flat_after_run, flat_run, flat_call}
use Rattle.plain.specs.RunLoop.{top_end, runs_from}
use Rattle.plain.specs.CallLists.{next_state, IsRefused}
use Rattle.plain.specs.Reach.{added, Continues, reach_in, reach_of_runs, granted, LargestReach}
use Rattle.plain.proofs.Preserve.{Goes}
use Rattle.plain.proofs.After.{After}
use Rattle.plain.proofs.RunLaws.{RunGoes, step_goes}
use Rattle.plain.proofs.FlatLaws.{FlatRight, check_right}
use Rattle.plain.proofs.Worlds.{worlds}
use Rattle.plain.proofs.Consequences.{call_checks}
use Rattle.plain.proofs.TurnLaws.{flat_runs, run_passes, runs_start, runs_out, runs_over, turn_plain, turn_right, turn_runs, halt_runs, whole_run}
use Rattle.plain.proofs.LoopLaws.{runs_behind}

-- A run of n behind what a run gave: where the handler is still running
onwards : ℕ → Given → Given
onwards n (gives done s) = gives done s
onwards n (gives (refused_by i) s) = gives (refused_by i) s
onwards n (gives (result phase k v h d) s) = when eqb phase running then runs_from n k h d s else gives (result phase k v h d) s
onwards n (gives (wrote i) s) = gives (wrote i) s
onwards n no_answer = no_answer

on_more : (n phase k v h d : ℕ) (s : Flat) → eqb phase running ≡ true → onwards n (gives (result phase k v h d) s) ≡ runs_from n k h d s
unfolding onwards
on_more n phase k v h d s e = if_yes _ _ e

on_over : (n phase k v h d : ℕ) (s : Flat) → eqb phase running ≡ false → onwards n (gives (result phase k v h d) s) ≡ gives (result phase k v h d) s
unfolding onwards
on_over n phase k v h d s e = if_no _ _ e

not_running : (c : Cause) → eqb (phase_of c) running ≡ false
not_running not_understood = refl
not_running no_boolean = refl
not_running no_stack_room = refl

-- What is left of a run, in two
joined : (m n k h d : ℕ) (s : Flat) → FlatRight s → top_end (plain_of s) ≤ h → runs_from (m + n) k h d s ≡ onwards n (runs_from m k h d s)
joined zero n k h d s r t = go (eqb s.registers.phase running) refl
  where
    none : (j : ℕ) → 0 + j ≡ j
    none j = omega arith

    go : (b : Bool) → eqb s.registers.phase running ≡ b → runs_from (0 + n) k h d s ≡ onwards n (runs_from 0 k h d s)
    go true e = ap (λ (j : ℕ). runs_from j k h d s) (none n) ∙ sym (ap (onwards n) (runs_out k h d s r t) ∙ on_more n s.registers.phase k s.registers.value h d s e)
    go false e = runs_over (0 + n) k h d s r t e ∙ sym (ap (onwards n) (runs_out k h d s r t) ∙ on_over n s.registers.phase k s.registers.value h d s e)
joined (suc m) n k h d s r t = by_phase (eqb s.registers.phase running) refl (λ k' h' d' s' r' t'. joined m n k' h' d' s' r' t')
  where
    Again : Type 0
    Again = (k' h' d' : ℕ) (s' : Flat) → FlatRight s' → top_end (plain_of s') ≤ h' → runs_from (m + n) k' h' d' s' ≡ onwards n (runs_from m k' h' d' s')

    one_more : (i j : ℕ) → suc i + j ≡ suc (i + j)
    one_more i j = omega arith

    by_step : s.registers.phase ≡ running → Again → (x : Stepped) → step (room_of s) (plain_of s) ≡ x
        → Goes (After (plain_of s).registers.edition (room_of s)) (room_of s) (plain_of s) x → runs_from (suc m + n) k h d s ≡ onwards n (runs_from (suc m) k h d s)
    by_step phase again (leads_to p' l) e g =
        ap (λ (j : ℕ). runs_from j k h d s) (one_more m n) ∙ turn_runs s r phase p' l e (m + n) k h d t
        ∙ again (k + 1) (max h (top_end p')) (d + read_in l) _ (turn_right s r phase p' l e) (let z = ap top_end (turn_plain s r phase p' l e) in omega arith)
        ∙ sym (ap (onwards n) (turn_runs s r phase p' l e m k h d t))
    by_step phase again (halts c) e g =
        ap (λ (j : ℕ). runs_from j k h d s) (one_more m n) ∙ halt_runs s r phase c e (m + n) k h d t ∙ sym (ap (onwards n) (halt_runs s r phase c e m k h d t) ∙ on_over n (phase_of c) k 0 h d _ (not_running c))
    by_step phase again missing e g = absurd g

    by_phase : (b : Bool) → eqb s.registers.phase running ≡ b → Again → runs_from (suc m + n) k h d s ≡ onwards n (runs_from (suc m) k h d s)
    by_phase true e again =
        let phase = eqb-true s.registers.phase running e in
        by_step phase again (step (room_of s) (plain_of s)) refl (step_goes (room_of s) (worlds (room_of s)) (plain_of s) r.plain (unfold plain_of in phase))
    by_phase false e again = runs_over (suc m + n) k h d s r t e ∙ sym (ap (onwards n) (runs_over (suc m) k h d s r t e) ∙ on_over n s.registers.phase k s.registers.value h d s e)

-- ---- whole runs, from a state that check accepts
module _ (s : Flat) (accepts : check s ≡ accepted) where
  right : FlatRight s
  right = check_right s accepts

  -- in phase 1
  module _ (e : eqb s.registers.phase running ≡ true) where
    run_is : (n : ℕ) → flat_run s n ≡ runs_from n 0 (top_end (plain_of s)) 0 s
    run_is n = run_passes s accepts n true e ∙ sym (whole_run n s) ∙ runs_start n s right

    runs_on : (m n : ℕ) → flat_run s (m + n) ≡ onwards n (flat_run s m)
    runs_on m n = run_is (m + n) ∙ joined m n 0 (top_end (plain_of s)) 0 s right (omega arith) ∙ ap (onwards n) (sym (run_is m))

  -- in another phase
  run_refused : eqb s.registers.phase running ≡ false → (n : ℕ) → flat_run s n ≡ gives (refused_by 12) s
  run_refused e n = run_passes s accepts n false e

  none_reach : eqb s.registers.phase running ≡ false → (ns : List ℕ) → reach_of_runs s ns ≡ 0
  unfolding reach_of_runs
  none_reach e [] = refl
  none_reach e (n ∷ ns) =
      ap (λ (g : Given). max (reach_in g) (reach_of_runs (next_state s g) ns)) (run_refused e n) ∙ ap (max 0) (none_reach e ns) ∙ omega arith

  -- what a run leaves is checked
  run_checks : (n : ℕ) (a : Answer) (s₁ : Flat) → flat_run s n ≡ gives a s₁ → check s₁ ≡ accepted
  unfolding flat_call
  run_checks n a s₁ e = call_checks s s₁ a (run_call n) accepts (sym e)

-- The phase of an answer is that of the state that it comes with.
abbrev Phased : Given → Type 0
Phased (gives done s) = Unit {0}
Phased (gives (refused_by i) s) = Unit {0}
Phased (gives (result phase k v h d) s) = s.registers.phase ≡ phase
Phased (gives (wrote i) s) = Unit {0}
Phased no_answer = Unit {0}

run_phased : (s : Flat) (x : Ran) → Phased (flat_after_run s x)
run_phased s (ran k p ts) = refl
run_phased s stuck = tt

-- behind another run
behind : (n k h d : ℕ) (s : Flat) → check s ≡ accepted → eqb s.registers.phase running ≡ true → runs_from n k h d s ≡ added k h d (flat_run s n)
behind n k h d s c e = runs_behind n k h d s ∙ ap (added k h d) (whole_run n s ∙ sym (run_passes s c n true e))

pub continues : Continues
continues s s₁ m n k v h d c e = go (eqb s.registers.phase running) refl
  where
    go : (b : Bool) → eqb s.registers.phase running ≡ b → flat_run s (m + n) ≡ added k h d (flat_run s₁ n)
    go true q =
        let phased : Phased (gives (result running k v h d) s₁) = subst Phased (sym (run_passes s c m true q) ∙ e) (run_phased s (steps (room_of s) m (plain_of s))) in
        runs_on s c q m n ∙ ap (onwards n) e ∙ on_more n running k v h d s₁ refl ∙ behind n k h d s₁ (run_checks s c m (result running k v h d) s₁ e) (eq-eqb s₁.registers.phase running phased)
    go false q = absurd (subst IsRefused (sym (run_refused s c q m) ∙ e) tt)

-- ---- lists of runs

-- A run in phase 1 has a result.
abbrev HasResult : Given → Type 0
HasResult (gives done s) = ⊥
HasResult (gives (refused_by i) s) = ⊥
HasResult (gives (result phase k v h d) s) = Unit {0}
HasResult (gives (wrote i) s) = ⊥
HasResult no_answer = ⊥

added_reach : (k h d : ℕ) (g : Given) → HasResult g → reach_in (added k h d g) ≡ max h (reach_in g)
added_reach k h d (gives done s) r = absurd r
added_reach k h d (gives (refused_by i) s) r = absurd r
added_reach k h d (gives (result phase j v h' d') s) r = refl
added_reach k h d (gives (wrote i) s) r = absurd r
added_reach k h d no_answer r = absurd r

has_result : (s : Flat) → check s ≡ accepted → (n : ℕ) → eqb s.registers.phase running ≡ true → HasResult (flat_run s n)
has_result s c n e = subst HasResult (sym (run_passes s c n true e)) (go (steps (room_of s) n (plain_of s)) (flat_runs s (check_right s c) n))
  where
    go : (x : Ran) → RunGoes (room_of s) (worlds (room_of s)) n (plain_of s) s.stack s.cache x → HasResult (flat_after_run s x)
    go (ran k p ts) g = tt
    go stuck g = absurd g

no_other : (x : ℕ) → max x 0 ≡ x
no_other x = omega arith

pub largest_reach : LargestReach
unfolding reach_of_runs granted
largest_reach s c n [] = ap (λ (x : ℕ). max x 0) (ap (λ (j : ℕ). reach_in (flat_run s j)) (none n)) ∙ no_other (reach_in (flat_run s (n + 0)))
  where
    none : (j : ℕ) → j ≡ j + 0
    none j = omega arith
largest_reach s c n (m ∷ ns) = by_phase (eqb s.registers.phase running) refl (λ s₁ c₁. largest_reach s₁ c₁ m ns)
  where
    Again : Type 0
    Again = (s₁ : Flat) → check s₁ ≡ accepted → reach_of_runs s₁ (m ∷ ns) ≡ reach_in (flat_run s₁ (granted (m ∷ ns)))

    -- behind the first run
    after : eqb s.registers.phase running ≡ true → Again → (phase k v h d : ℕ) (s₁ : Flat) → flat_run s n ≡ gives (result phase k v h d) s₁ → s₁.registers.phase ≡ phase
        → (b : Bool) → eqb phase running ≡ b → max h (reach_of_runs s₁ (m ∷ ns)) ≡ reach_in (flat_run s (n + granted (m ∷ ns)))
    after e again phase k v h d s₁ g q true b =
        let c₁ = run_checks s c n (result phase k v h d) s₁ g in
        let e₁ : eqb s₁.registers.phase running ≡ true = ap (λ (x : ℕ). eqb x running) q ∙ b in
        ap (max h) (again s₁ c₁)
        ∙ sym (ap reach_in (runs_on s c e n (granted (m ∷ ns)) ∙ ap (onwards (granted (m ∷ ns))) g ∙ on_more (granted (m ∷ ns)) phase k v h d s₁ b ∙ behind (granted (m ∷ ns)) k h d s₁ c₁ e₁)
        ∙ added_reach k h d (flat_run s₁ (granted (m ∷ ns))) (has_result s₁ c₁ (granted (m ∷ ns)) e₁))
    after e again phase k v h d s₁ g q false b =
        let c₁ = run_checks s c n (result phase k v h d) s₁ g in
        let e₁ : eqb s₁.registers.phase running ≡ false = ap (λ (x : ℕ). eqb x running) q ∙ b in
        ap (max h) (none_reach s₁ c₁ e₁ (m ∷ ns)) ∙ no_other h
        ∙ sym (ap reach_in (runs_on s c e n (granted (m ∷ ns)) ∙ ap (onwards (granted (m ∷ ns))) g ∙ on_over (granted (m ∷ ns)) phase k v h d s₁ b))

    by_run : eqb s.registers.phase running ≡ true → Again → (x : Ran) → RunGoes (room_of s) (worlds (room_of s)) n (plain_of s) s.stack s.cache x
        → flat_run s n ≡ flat_after_run s x → max (reach_in (flat_run s n)) (reach_of_runs (next_state s (flat_run s n)) (m ∷ ns)) ≡ reach_in (flat_run s (n + granted (m ∷ ns)))
    by_run e again (ran k p ts) r g =
        ap (λ (y : Given). max (reach_in y) (reach_of_runs (next_state s y) (m ∷ ns))) g ∙ after e again p.registers.phase k p.registers.value _ _ _ g refl (eqb p.registers.phase running) refl
    by_run e again stuck r g = absurd r

    by_phase : (b : Bool) → eqb s.registers.phase running ≡ b → Again
        → max (reach_in (flat_run s n)) (reach_of_runs (next_state s (flat_run s n)) (m ∷ ns)) ≡ reach_in (flat_run s (n + granted (m ∷ ns)))
    by_phase true e again = by_run e again (steps (room_of s) n (plain_of s)) (flat_runs s (check_right s c) n) (run_passes s c n true e)
    by_phase false e again = none_reach s c e (n ∷ m ∷ ns) ∙ sym (ap reach_in (run_refused s c e (n + granted (m ∷ ns))))
