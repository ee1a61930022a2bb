-- The turns of the run loop, and its ways out.
use Prim.Native.Nat.{ℕ, suc, ◌+◌, ◌-◌, ◌≤◌, ◌<◌, max}
use mathlib.Core.Path.{◌≡◌, refl, sym, ap, ◌∙◌, subst}
use mathlib.Core.Bool.{false}
use mathlib.Core.List.{List}
use native.Mathlib.Omega.{arith}
use lib.Dec.{eqb}
use Rattle.model.proofs.Extends.{Extends}
use Rattle.model.specs.Image.{accepted}
use Rattle.model.specs.Limits.{longest_chain}
use Rattle.model.specs.Method.{frame_size}
use Rattle.model.specs.Objects.{objects_at}
use Rattle.plain.specs.Registers.{Registers, running, Cause, phase_of, with_phase}
use Rattle.plain.specs.Step.{halts, step}
use Rattle.plain.specs.Cache.{filled}
use Rattle.plain.specs.Calls.{Ran, ran, stuck, steps, result, reach_of, dictionaries_of}
use Rattle.plain.specs.State.{Plain, objects}
use Rattle.plain.specs.Flat.{Flat, flat, room_of, plain_of, frame_method, frame_at, frames_from}
use Rattle.plain.specs.Check.{check}
use Rattle.plain.specs.FlatCalls.{gives, laid, with_plain, stack_after, cache_after}
use Rattle.plain.specs.Running.{running_with, Made}
use Rattle.plain.specs.RunLoop.{top_end, flat_after_run_from, runs_from, Turn}
use Rattle.plain.specs.Reach.{added}
use Rattle.plain.proofs.FlatLaws.{FlatRight, check_right, right_check}
use Rattle.plain.proofs.TurnLaws.{runs_start, runs_out, runs_over, turn_plain, turn_room, turn_level, turn_right, turn_runs, turn_reads, halt_runs, extends_p}
use Rattle.plain.proofs.MadeLaws.{made_flat}

-- the end of the top frame is a number of the buffers
pub top_end_is : (e receiver selector n b top : ℕ) (contents bodies stack cache : List ℕ)
    → top_end (plain_of (flat (running_with e receiver selector n b top) contents bodies stack cache)) ≡ top + frame_size (objects_at n b contents bodies) (frame_method stack top)
unfolding plain_of top_end frames_from frame_at
top_end_is e receiver selector n b top contents bodies stack cache = refl

left_one : (grant count : ℕ) → count < grant → grant - count ≡ suc (grant - (count + 1))
left_one grant count h = omega arith

-- The start
pub turn_start : (s : Flat) (grant reach : ℕ) → check s ≡ accepted → s.registers.phase ≡ running → reach ≡ top_end (plain_of s) → Turn s grant s 0 reach 0
turn_start s grant reach c e h =
    record {
      made = omega arith;
      checked = c;
      phase = e;
      lengths = refl;
      high = omega arith;
      few = omega arith;
      rest = runs_start grant s (check_right s c) ∙ (λ i. runs_from (all grant i) 0 (sym h i) 0 s);
    }
  where
    all : (k : ℕ) → k ≡ k - 0
    all k = omega arith

-- A bytecode that is made reads no more dictionaries than a chain has.
pub made_few : (s : Flat) → check s ≡ accepted → s.registers.phase ≡ running → {d : ℕ} {r : Registers} {contents' bodies' stack' cache' : List ℕ}
    → Made (step (room_of s) (plain_of s)) d r s.contents s.bodies s.stack s.cache contents' bodies' stack' cache' → d ≤ longest_chain
made_few s c e m = let g = turn_reads s (check_right s c) e m.state m.lookup m.steps in let k = m.reads in omega arith

module _ (s₀ : Flat) (grant : ℕ) (s : Flat) (count reach read : ℕ) (t : Turn s₀ grant s count reach read) where
  right_s : FlatRight s
  right_s = check_right s t.checked

  -- The grant is used up.
  pub loop_out : grant ≤ count → gives (result s.registers.phase count s.registers.value reach read) s ≡ runs_from grant 0 0 0 s₀
  loop_out h = sym (t.rest ∙ ap (λ (k : ℕ). runs_from k count reach read s) none ∙ runs_out count reach read s right_s t.high)
    where
      none : grant - count ≡ 0
      none = let m = t.made in omega arith

  module _ (more : count < grant) where
    rest_more : runs_from grant 0 0 0 s₀ ≡ runs_from (suc (grant - (count + 1))) count reach read s
    rest_more = t.rest ∙ ap (λ (k : ℕ). runs_from k count reach read s) (left_one grant count more)

    -- A bytecode halts.
    pub loop_halts : (c : Cause) → step (room_of s) (plain_of s) ≡ halts c → gives (result (phase_of c) count 0 reach read)
        (flat (with_phase s.registers (phase_of c) s.registers.top 0) s.contents s.bodies s.stack s.cache) ≡ runs_from grant 0 0 0 s₀
    loop_halts c e = sym (rest_more ∙ halt_runs s right_s t.phase c e (grant - (count + 1)) count reach read t.high)

    -- A bytecode is made.
    module _ (r : Registers) (contents' bodies' stack' cache' : List ℕ) {more-read : ℕ} (m : Made (step (room_of s) (plain_of s)) more-read r s.contents s.bodies s.stack s.cache contents' bodies' stack' cache') where
      abbrev s' : Flat
      s' = flat r contents' bodies' stack' cache'

      abbrev w : Flat
      w = with_plain s m.state (laid s.stack m.state.registers.top m.state.frames) (filled s.cache m.lookup)

      s'_is : s' ≡ w
      s'_is = made_flat s.registers m

      right_w : FlatRight w
      right_w = turn_right s right_s t.phase m.state m.lookup m.steps

      right_s' : FlatRight s'
      right_s' = subst FlatRight (sym s'_is) right_w

      plain_s' : plain_of s' ≡ m.state
      plain_s' = ap plain_of s'_is ∙ turn_plain s right_s t.phase m.state m.lookup m.steps

      runs_s' : runs_from grant 0 0 0 s₀ ≡ runs_from (grant - (count + 1)) (count + 1) (max reach (top_end (plain_of s'))) (read + more-read) s'
      runs_s' =
          rest_more ∙ turn_runs s right_s t.phase m.state m.lookup m.steps (grant - (count + 1)) count reach read t.high
          ∙ (λ i. runs_from (grant - (count + 1)) (count + 1) (max reach (top_end (sym plain_s' i))) (read + m.reads i) (sym s'_is i))

      -- the objects hold those before
      pub loop_extends : Extends (objects (plain_of s)) (objects (plain_of s'))
      loop_extends = subst (λ (q : Plain). Extends (objects (plain_of s)) (objects q)) (sym plain_s') (extends_p s right_s t.phase m.state m.lookup m.steps)

      -- on the same level no frame ends higher
      pub loop_level : r.phase ≡ running → r.top ≡ s.registers.top → top_end (plain_of s') ≤ reach
      loop_level a b =
          let e = ap top_end plain_s' ∙ turn_level s right_s t.phase m.state m.lookup m.steps (ap (λ (x : Registers). x.phase) m.registers ∙ a)
          (ap (λ (x : Registers). x.top) m.registers ∙ b) in
          let h = t.high in
          omega arith

      -- and the run goes on,
      pub loop_next : r.phase ≡ running → (reach' read' : ℕ) → reach' ≡ max reach (top_end (plain_of s')) → read' ≡ read + more-read → Turn s₀ grant s' (count + 1) reach' read'
      loop_next a reach' read' h q =
          record {
            made = omega arith;
            checked = right_check s' right_s';
            phase = a;
            lengths = ap room_of s'_is ∙ turn_room s right_s t.phase m.state
                m.lookup m.steps ∙ t.lengths;
            high = omega arith;
            few = let f = t.few in let g = made_few s t.checked t.phase m in omega arith;
            rest = runs_s' ∙ (λ i. runs_from (grant - (count + 1)) (count + 1) (sym h i) (sym q i) s');
          }

      -- or is over, no frame standing.
      pub loop_over : eqb r.phase running ≡ false → top_end (plain_of s') ≡ 0 → more-read ≡ 0
          → gives (result r.phase (count + 1) r.value reach read) s' ≡ runs_from grant 0 0 0 s₀
      loop_over e z none =
          sym (runs_s' ∙ (λ i. runs_from (grant - (count + 1)) (count + 1) (highest z i) (same none i) s')
          ∙ runs_over (grant - (count + 1)) (count + 1) reach read s' right_s' (omega arith) e)
        where
          highest : top_end (plain_of s') ≡ 0 → max reach (top_end (plain_of s')) ≡ reach
          highest z = omega arith

          same : more-read ≡ 0 → read + more-read ≡ read
          same n = omega arith

-- ---- a run in two parts

added_runs : (k h d left k' h' d' : ℕ) (s : Flat) → added k h d (runs_from left k' h' d' s) ≡ runs_from left (k + k') (max h h') (d + d') s
unfolding runs_from
added_runs k h d left k' h' d' s = go (steps (room_of s) left (plain_of s))
  where
    counts : (a b c : ℕ) → a + (b + c) ≡ a + b + c
    counts a b c = omega arith

    ends : (r : ℕ) → max h (max h' r) ≡ max (max h h') r
    ends r = omega arith

    go : (x : Ran) → added k h d (flat_after_run_from k' h' d' s x) ≡ flat_after_run_from (k + k') (max h h') (d + d') s x
    go (ran j p ts) =
        λ i. gives (result p.registers.phase (counts k k' j i) p.registers.value (ends (reach_of (plain_of s) ts) i) (counts d d' (dictionaries_of ts) i))
        (with_plain s p (stack_after s.stack ts) (cache_after s.cache ts))
    go stuck = refl

-- behind k bytecodes with reach h and d dictionaries
pub runs_behind : (left k h d : ℕ) (s : Flat) → runs_from left k h d s ≡ added k h d (runs_from left 0 0 0 s)
runs_behind left k h d s = (λ i. runs_from left (none k i) (lowest i) (none d i) s) ∙ sym (added_runs k h d left 0 0 0 s)
  where
    none : (j : ℕ) → j ≡ j + 0
    none j = omega arith

    lowest : h ≡ max h 0
    lowest = omega arith

module _ {s₀ : Flat} {grant : ℕ} {s : Flat} {k h d : ℕ} (t : Turn s₀ grant s k h d) where
  rest_is : runs_from grant 0 0 0 s₀ ≡ added k h d (runs_from (grant - k) 0 0 0 s)
  rest_is = t.rest ∙ runs_behind (grant - k) k h d s

  -- What is left of the run goes on,
  pub turn_then : {s' : Flat} {k' h' d' : ℕ} → Turn s (grant - k) s' k' h' d' → Turn s₀ grant s' (k + k') (max h h') (d + d')
  turn_then {s'} {k'} {h'} {d'} u =
      record {
        made = let m = t.made in let m' = u.made in omega arith;
        checked = u.checked;
        phase = u.phase;
        lengths = u.lengths ∙ t.lengths;
        high = let e = u.high in omega arith;
        few = let f = t.few in let g = u.few in omega arith;
        rest = rest_is ∙ ap (added k h d) u.rest ∙ added_runs k h d (grant - k - k') k' h' d' s' ∙ ap (λ (left : ℕ). runs_from left (k + k') (max h h') (d + d') s') less;
      }
    where
      less : grant - k - k' ≡ grant - (k + k')
      less = omega arith

  -- or is over.
  pub over_then : {phase count value reach read : ℕ} {s' : Flat} → gives (result phase count value reach read) s' ≡ runs_from (grant - k) 0 0 0 s
      → gives (result phase (k + count) value (max h reach) (d + read)) s' ≡ runs_from grant 0 0 0 s₀
  over_then e = ap (added k h d) e ∙ sym rest_is
