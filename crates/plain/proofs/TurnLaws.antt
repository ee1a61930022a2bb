-- One turn of a run, on the flat state: what is left of the run before a bytecode is what is left of it after the bytecode.
use Prim.Native.Nat.{ℕ, zero, suc, ◌+◌, ◌*◌, ◌≤◌, max}
use mathlib.Core.Path.{◌≡◌, refl, sym, ap, ◌∙◌, subst}
use mathlib.Core.Bool.{Bool, false}
use mathlib.Core.List.{List, [], ◌∷◌}
use native.Mathlib.Omega.{arith}
use borrow.Author.Tests.{eq-eqb}
use lib.Dec.{T, eqb}
use lib.ListN.{length}
use Rattle.model.specs.Limits.{entry_words, longest_chain}
use Rattle.model.specs.Image.{Room, accepted}
use Rattle.model.proofs.Extends.{Extends}
use Rattle.model.proofs.Unchanged.{walk_same}
use Rattle.plain.specs.Registers.{running, Cause, phase_of, with_phase}
use Rattle.plain.specs.State.{Plain, objects}
use Rattle.plain.specs.Step.{read_in, Looked, leads_to, halts, step}
use Rattle.plain.specs.Calls.{Taken, taken, Ran, ran, stuck, counted, halted, onward, if_running, steps, standing_end, reach_of, dictionaries_of, result}
use Rattle.plain.specs.Cache.{filled, cache_fine}
use Rattle.plain.specs.Flat.{Flat, room_of, flat_objects, plain_of, frames_from, if_frames}
use Rattle.plain.specs.Check.{check}
use Rattle.plain.specs.FlatCalls.{gives, checked, at_front, with_plain, laid, stack_after, cache_after, flat_run_if, flat_run}
use Rattle.plain.specs.RunLoop.{top_end, flat_after_run_from, runs_from}
use Rattle.plain.proofs.LaidLaws.{length_laid}
use Rattle.plain.proofs.Preserve.{Goes}
use Rattle.plain.proofs.StateLaws.{PlainRight}
use Rattle.plain.proofs.CacheLaws.{cache_filled, cache_kept, length_filled}
use Rattle.plain.proofs.After.{kept_right}
use Rattle.plain.proofs.RunLaws.{Stood, end_is_top, reads_within, RanRight, RunGoes, step_goes, shape_stood, runs_right}
use Rattle.plain.proofs.FlatLaws.{FlatRight, plain_back, room_back, flat_back}
use Rattle.plain.proofs.Worlds.{worlds}
use Rattle.model.proofs.Lent.{front_same, front_over}

-- The frames of a flat state stand in its own stack.
pub own_stood : (s : Flat) → Stood (plain_of s) s.stack
unfolding plain_of
own_stood s e = sym (ap (λ (b : Bool). if_frames b (frames_from (suc s.registers.top) (flat_objects s) s.stack s.registers.top)) e)

-- Every step of a run from a flat state that is right exists, and what it leaves is right.
pub flat_runs : (s : Flat) → FlatRight s → (n : ℕ) → RunGoes (room_of s) (worlds (room_of s)) n (plain_of s) s.stack s.cache (steps (room_of s) n (plain_of s))
flat_runs s r n =
    runs_right (room_of s) (worlds (room_of s)) n (plain_of s) s.stack s.cache r.plain refl r.cache_length (own_stood s) (unfold plain_of in r.cached)

-- Where check accepts the state, run is what follows its check.
pub run_passes : (s : Flat) → check s ≡ accepted → (n : ℕ) (b : Bool) → eqb s.registers.phase running ≡ b → flat_run s n ≡ flat_run_if s n b
unfolding flat_run
run_passes s a n b e = λ i. checked s (a i) (flat_run_if s n (e i))

-- A flat state with its own plain state laid back is itself.
pub plain_same : (s : Flat) → FlatRight s → with_plain s (plain_of s) s.stack s.cache ≡ s
unfolding plain_of
plain_same s r =
    λ i. record {
      registers = s.registers;
      contents = front_same (entry_words * s.registers.n) s.contents r.contents i;
      bodies = front_same
          s.registers.b s.bodies r.bodies i;
      stack = s.stack;
      cache = s.cache;
    }

-- No frame ends above the top frame.
pub plain_end : (s : Flat) → FlatRight s → standing_end (plain_of s) ≡ top_end (plain_of s)
plain_end s r = end_is_top (room_of s) (plain_of s) r.plain.stands

-- A run that makes no bytecode: none is granted, or the phase is not 1.
no_more : (left k h d : ℕ) (s : Flat) → FlatRight s → top_end (plain_of s) ≤ h → steps (room_of s) left (plain_of s) ≡ ran 0 (plain_of s) []
    → runs_from left k h d s ≡ gives (result s.registers.phase k s.registers.value h d) s
unfolding runs_from plain_of dictionaries_of
no_more left k h d s r t e =
    ap (flat_after_run_from k h d s) e
    ∙ (λ i. gives (result s.registers.phase (none k i) s.registers.value (same (unfold reach_of in refl) (plain_end s r) i) (none d i)) (back i))
  where
    none : (k : ℕ) → k + 0 ≡ k
    none k = omega arith

    same : reach_of (plain_of s) [] ≡ standing_end (plain_of s) → standing_end (plain_of s) ≡ top_end (plain_of s) → max h (reach_of (plain_of s) []) ≡ h
    same a b = omega arith

    back : with_plain s (plain_of s) (stack_after s.stack []) (cache_after s.cache []) ≡ s
    back = unfold stack_after cache_after in plain_same s r

pub runs_out : (k h d : ℕ) (s : Flat) → FlatRight s → top_end (plain_of s) ≤ h → runs_from 0 k h d s ≡ gives (result s.registers.phase k s.registers.value h d) s
runs_out k h d s r t = no_more 0 k h d s r t (unfold steps in refl)

stops : (room : Room) (left : ℕ) (p : Plain) → eqb p.registers.phase running ≡ false → steps room left p ≡ ran 0 p []
unfolding steps
stops room zero p e = refl
stops room (suc n) p e = ap (if_running (λ p'. steps room n p') room p) e

pub runs_over : (left k h d : ℕ) (s : Flat) → FlatRight s → top_end (plain_of s) ≤ h → eqb s.registers.phase running ≡ false
    → runs_from left k h d s ≡ gives (result s.registers.phase k s.registers.value h d) s
unfolding plain_of
runs_over left k h d s r t e = no_more left k h d s r t (stops (room_of s) left (plain_of s) e)

-- Reach is at least the end at the start.
pub reach_least : (q : Plain) (ts : List Taken) → standing_end q ≤ reach_of q ts
unfolding reach_of
reach_least q [] = omega arith
reach_least q (taken l q' ∷ ts) = omega arith

-- A run starts with the end of its top frame.
pub runs_start : (left : ℕ) (s : Flat) → FlatRight s → runs_from left 0 0 0 s ≡ runs_from left 0 (top_end (plain_of s)) 0 s
unfolding runs_from
runs_start left s r = go (steps (room_of s) left (plain_of s))
  where
    go : (x : Ran) → flat_after_run_from 0 0 0 s x ≡ flat_after_run_from 0 (top_end (plain_of s)) 0 s x
    go (ran k p ts) =
        ap (λ (z : ℕ). gives (result p.registers.phase (0 + k) p.registers.value z (0 + dictionaries_of ts)) (with_plain s p (stack_after s.stack ts) (cache_after s.cache ts)))
        (let a = reach_least (plain_of s) ts in let b = plain_end s r in omega arith)
    go stuck = refl

-- One bytecode that was made
module _ (s : Flat) (right : FlatRight s) (phase : s.registers.phase ≡ running) (p' : Plain) (l : Looked) (made : step (room_of s) (plain_of s) ≡ leads_to p' l) where
  abbrev room : Room
  room = room_of s

  abbrev p : Plain
  p = plain_of s

  goes_on : Goes (Rattle.plain.proofs.After.After p.registers.edition room) room p (leads_to p' l)
  unfolding plain_of
  goes_on = subst (Goes (Rattle.plain.proofs.After.After p.registers.edition room) room p) made (step_goes room (worlds room) p right.plain phase)

  abbrev stack' : List ℕ
  stack' = laid s.stack p'.registers.top p'.frames

  abbrev cache' : List ℕ
  cache' = filled s.cache l

  -- the state after it
  abbrev s' : Flat
  s' = with_plain s p' stack' cache'

  right_p : PlainRight room p'
  right_p = kept_right room p p' right.plain goes_on.0

  stood_p : Stood p' stack'
  stood_p = shape_stood room (worlds room) p' s.stack refl goes_on.0.shape

  pub extends_p : Extends (objects p) (objects p')
  extends_p = goes_on.0.after.extends

  cached_p : T (cache_fine (objects p') cache')
  unfolding plain_of
  cached_p = cache_kept (objects p) (objects p') (walk_same extends_p right.plain.image) cache' (cache_filled (objects p) s.cache l right.cache_length goes_on.1 right.cached)

  pub turn_plain : plain_of s' ≡ p'
  turn_plain = plain_back s p' stack' cache' right_p stood_p

  pub turn_room : room_of s' ≡ room
  turn_room = room_back s p' stack' cache' right_p stood_p (length_laid s.stack p'.registers.top p'.frames) (length_filled s.cache l)

  pub turn_level : p'.registers.phase ≡ running → p'.registers.top ≡ s.registers.top → top_end p' ≡ top_end p
  unfolding plain_of
  turn_level a b = goes_on.0.level a b

  -- Check is kept.
  pub turn_right : FlatRight s'
  turn_right = flat_back s p' stack' cache' right_p stood_p (length_laid s.stack p'.registers.top p'.frames) (length_filled s.cache l) right.cache_length cached_p

  -- the rest of the run, from either state
  counted_from : (k h d : ℕ) → top_end p ≤ h → (x : Ran)
      → ((j : ℕ) (q : Plain) (ts : List Taken) → x ≡ ran j q ts → (length p'.contents ≤ length q.contents) × (length p'.bodies ≤ length q.bodies))
      → flat_after_run_from k h d s (counted (taken l p') x) ≡ flat_after_run_from (k + 1) (max h (top_end p')) (d + read_in l) s' x
  unfolding stack_after cache_after dictionaries_of
  counted_from k h d t (ran j q ts) y =
      let g = y j q ts refl in
      λ i. gives (result q.registers.phase (sums k j i) q.registers.value (highest i) (more d (read_in l) (dictionaries_of ts) i))
      (record {
        registers = q.registers;
        contents = sym (front_over q.contents p'.contents s.contents g.0
            (let a = right_p.image.contents in let b = right_p.contents in omega arith)) i;
        bodies = sym (front_over q.bodies p'.bodies s.bodies g.1
            (let a = right_p.image.bodies in let b = right_p.bodies in omega arith)) i;
        stack = stack_after stack' ts;
        cache = cache_after cache' ts;
      })
    where
      sums : (a b : ℕ) → a + suc b ≡ a + 1 + b
      sums a b = omega arith

      more : (a b c : ℕ) → a + (b + c) ≡ a + b + c
      more a b c = omega arith

      highest : max h (reach_of p (taken l p' ∷ ts)) ≡ max (max h (top_end p')) (reach_of (plain_of s') ts)
      highest =
          go (plain_end s right) (end_is_top room p' right_p.stands) (reach_least p' ts) (unfold reach_of in refl)
          ∙ ap (λ (x : Plain). max (max h (top_end p')) (reach_of x ts)) (sym turn_plain)
        where
          go : standing_end p ≡ top_end p → standing_end p' ≡ top_end p' → standing_end p' ≤ reach_of p' ts → reach_of p (taken l p' ∷ ts) ≡ max (standing_end p) (reach_of p' ts)
              → max h (reach_of p (taken l p' ∷ ts)) ≡ max (max h (top_end p')) (reach_of p' ts)
          go a b c d = omega arith
  counted_from k h d t stuck y = refl

  grown : (left : ℕ) (x : Ran) → RunGoes room (worlds room) left p' stack' cache' x → (j : ℕ) (q : Plain) (ts : List Taken) → x ≡ ran j q ts
      → (length p'.contents ≤ length q.contents) × (length p'.bodies ≤ length q.bodies)
  grown left x g j q ts e = go (subst (RunGoes room (worlds room) left p' stack' cache') e g)
    where
      go : RanRight room (worlds room) left p' stack' cache' j q ts → (length p'.contents ≤ length q.contents) × (length p'.bodies ≤ length q.bodies)
      go y =
          let a = right_p.image.contents in
          let b = y.right.image.contents in
          let c = y.extends.grows in
          (omega arith, y.extends.longer)

  -- the steps of the run
  steps_more : (left : ℕ) → steps room (suc left) p ≡ counted (taken l p') (steps room left p')
  unfolding steps plain_of
  steps_more left =
      ap (if_running (λ q. steps room left q) room p) (eq-eqb s.registers.phase running phase) ∙ ap (onward (λ q. steps room left q) p) made

  same_steps : (left : ℕ) → steps room left p' ≡ steps (room_of s') left (plain_of s')
  same_steps left = λ i. steps (sym turn_room i) left (sym turn_plain i)

  pub turn_runs : (left k h d : ℕ) → top_end p ≤ h → runs_from (suc left) k h d s ≡ runs_from left (k + 1) (max h (top_end p')) (d + read_in l) s'
  unfolding runs_from
  turn_runs left k h d t =
      ap (flat_after_run_from k h d s) (steps_more left)
      ∙ counted_from k h d t (steps room left p') (grown left (steps room left p') (runs_right room (worlds room) left p' stack' cache' right_p
      (length_laid s.stack p'.registers.top p'.frames) (length_filled s.cache l ∙ right.cache_length) stood_p cached_p))
      ∙ ap (flat_after_run_from (k + 1) (max h (top_end p')) (d + read_in l) s') (same_steps left)

  -- It read no more dictionaries than a chain has.
  pub turn_reads : read_in l ≤ longest_chain
  turn_reads = reads_within (objects p) l goes_on.1

-- A bytecode that halts
module _ (s : Flat) (right : FlatRight s) (phase : s.registers.phase ≡ running) (c : Cause) (made : step (room_of s) (plain_of s) ≡ halts c) where
  halt_steps : (left : ℕ) → steps (room_of s) (suc left) (plain_of s) ≡ ran 0 (halted (plain_of s) c) []
  unfolding steps plain_of
  halt_steps left =
      ap (if_running (λ q. steps (room_of s) left q) (room_of s) (plain_of s)) (eq-eqb s.registers.phase running phase) ∙ ap (onward (λ q. steps (room_of s) left q) (plain_of s)) made

  pub halt_runs : (left k h d : ℕ) → top_end (plain_of s) ≤ h
      → runs_from (suc left) k h d s ≡ gives (result (phase_of c) k 0 h d) (record {
        registers = with_phase s.registers (phase_of c) s.registers.top 0;
        contents =
            s.contents;
        bodies = s.bodies;
        stack = s.stack;
        cache = s.cache;
      })
  unfolding runs_from stack_after cache_after plain_of dictionaries_of
  halt_runs left k h d t =
      ap (flat_after_run_from k h d s) (halt_steps left)
      ∙ (λ i. gives (result (phase_of c) (none k i) 0 (same (unfold reach_of in refl) (plain_end s right) i) (none d i)) (record {
        registers = with_phase s.registers (phase_of c) s.registers.top 0;
        contents = (plain_same s
            right i).contents;
        bodies = (plain_same s right i).bodies;
        stack = s.stack;
        cache = s.cache;
      }))
    where
      none : (k : ℕ) → k + 0 ≡ k
      none k = omega arith

      same : reach_of (plain_of s) [] ≡ standing_end (plain_of s) → standing_end (plain_of s) ≡ top_end (plain_of s) → max h (reach_of (plain_of s) []) ≡ h
      same a b = omega arith

-- A whole run is what is left of it at its start.
pub whole_run : (n : ℕ) (s : Flat) → runs_from n 0 0 0 s ≡ Rattle.plain.specs.FlatCalls.flat_after_run s (steps (room_of s) n (plain_of s))
unfolding runs_from
whole_run n s = go (steps (room_of s) n (plain_of s))
  where
    go : (x : Ran) → flat_after_run_from 0 0 0 s x ≡ Rattle.plain.specs.FlatCalls.flat_after_run s x
    go (ran k p ts) =
        λ i. gives (result p.registers.phase (zero_plus k i) p.registers.value (zero_max (reach_of (plain_of s) ts) i) (zero_plus (dictionaries_of ts) i))
        (with_plain s p (stack_after s.stack ts) (cache_after s.cache ts))
      where
        zero_plus : (k : ℕ) → 0 + k ≡ k
        zero_plus k = omega arith

        zero_max : (k : ℕ) → max 0 k ≡ k
        zero_max k = omega arith
    go stuck = refl
