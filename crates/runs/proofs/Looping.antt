-- The run loop: its invariant, its turns and its ways out.
use Prim.Native.Nat.{ℕ, ◌+◌, ◌*◌, ◌-◌, ◌≤◌, ◌<◌, max}
use mathlib.Core.Path.{◌≡◌, refl, sym, ap, ◌∙◌, subst}
use mathlib.Core.List.{List}
use native.Mathlib.Omega.{arith}
use lib.ListN.{length}
use Rattle.model.specs.Numbers.{phase_of as halt_phase}
use Rattle.model.specs.declared.numbers.Halt.{Halt}
use Rattle.model.specs.Limits.{longest_chain}
use Rattle.model.specs.Image.{Room, accepted}
use Rattle.model.specs.Objects.{objects_at}
use Rattle.model.specs.Rules.{Right}
use Rattle.model.proofs.Facts.{most, most_words}
use Rattle.model.proofs.Extends.{Extends}
use Rattle.plain.specs.Step.{Stepped, step}
use Rattle.plain.specs.Registers.{Registers}
use Rattle.plain.specs.Flat.{Flat, flat, room_of, plain_of}
use Rattle.plain.specs.Check.{check}
use Rattle.plain.specs.Running.{Runs, running_with, finished_with, running_at, room_at, Made}
use Rattle.plain.specs.RunLoop.{top_end, Turn}
use Rattle.plain.proofs.FlatLaws.{FlatRight, check_right}
use Rattle.plain.proofs.RunningLaws.{top_bounds}
use Rattle.plain.proofs.MadeLaws.{made_as, running_is, running_runs}
use Rattle.plain.proofs.LoopLaws.{top_end_is, turn_start, loop_out, loop_halts, loop_extends, loop_level, loop_next, loop_over, made_few}
use Rattle.cache.specs.Caches.{Caches}
use Rattle.model.specs.declared.CodePosition.{CodePosition}
use Rattle.model.specs.declared.StackPosition.{StackPosition}
use Rattle.frames.specs.declared.Active.{Active}
use Rattle.frames.specs.declared.Message.{Message}
use Rattle.frames.specs.Active.{written, moved_on, Stands, IsActive, Held, Onward, Leaving, frame_end}
use Rattle.frames.proofs.ActiveLaws.{length_written, leaving, stands_onward}
use Rattle.interpreter.specs.declared.Advanced.{Advanced}
use Rattle.sends.specs.Sends.{Halts}
use Rattle.interpreter.specs.Advances.{AdvancedIs, step_of}
use Rattle.runs.specs.Ends.{reach_in, dictionaries_in, start_of, RunsTo, RunsFail}
use Rattle.interpreter.specs.declared.Advanced.TheVariants as A

-- The state of the loop: from s₀ the run came to a running state, and the highest end fits a word and one.
pub record LoopAt (s₀ : Flat) (grant edition receiver selector n b top : ℕ) (contents bodies stack cache : List ℕ) (count reach read : ℕ) : Type 0 where
  pub turn : Turn s₀ grant (flat (running_with edition receiver selector n b top) contents bodies stack cache) count reach read
  pub low : reach ≤ 65536

-- ---- the start
module _ (edition receiver selector n b top : ℕ) (contents bodies stack cache : List ℕ) (c : check (start_of edition receiver selector n b top contents bodies stack cache) ≡ accepted) where
  abbrev s : Flat
  s = start_of edition receiver selector n b top contents bodies stack cache

  pub start_runs : Runs n b top contents bodies stack
  start_runs = running_runs edition receiver selector n b top contents bodies stack cache (check_right s c)

  pub loop_start : (grant end : ℕ) → end ≡ frame_end n b top contents bodies stack → end ≤ 65536
      → LoopAt s grant edition receiver selector n b top contents bodies stack cache 0 (reach_in end) (dictionaries_in end)
  loop_start grant end h l =
      let low : reach_in end ≡ end = omega arith in
      let none : 0 ≡ dictionaries_in end = omega arith in
      record {
        turn = subst (Turn s grant s 0 (reach_in end)) none
            (turn_start s grant (reach_in end) c refl (low ∙ h ∙ sym (top_end_is edition receiver selector n b top contents bodies stack cache)));
        low = omega arith;
      }

module _ (s₀ : Flat) (grant edition receiver selector n b top : ℕ) (contents bodies stack cache : List ℕ) (count reach read : ℕ) (l : LoopAt s₀ grant edition receiver selector n b top contents bodies stack cache count reach read) where
  abbrev sₗ : Flat
  sₗ = flat (running_with edition receiver selector n b top) contents bodies stack cache

  rightₗ : FlatRight sₗ
  rightₗ = check_right sₗ l.turn.checked

  -- what a bytecode asks for
  loop_runs : Runs n b top contents bodies stack
  loop_runs = running_runs edition receiver selector n b top contents bodies stack cache rightₗ

  pub loop_right : Right edition (objects_at n b contents bodies)
  unfolding plain_of
  loop_right = rightₗ.plain.image

  pub loop_caches : Caches n b contents bodies cache
  loop_caches = record { long = rightₗ.cache_length; fine = rightₗ.cached }

  pub loop_small : (n ≤ 2047) × (b ≤ 24000) × (top < 65536)
  loop_small =
      let r = loop_runs in
      let t = top_bounds r in
      (most r.right, most_words r.right, omega arith)

  pub loop_lengths : (length contents ≡ length s₀.contents) × (length bodies ≡ length s₀.bodies) × (length stack ≡ length s₀.stack) × (length cache ≡ length s₀.cache)
  loop_lengths =
      let e = l.turn.lengths in
      (ap (λ (x : Room). x.contents) e, ap (λ (x : Room). x.bodies) e, ap (λ (x : Room). x.stack) e, ap (λ (x : Room). x.cache) e)

  -- the grant is used up
  ends_at : grant ≤ count → RunsTo s₀ grant edition receiver selector contents bodies stack cache (record { n = n; b = b; phase = 1; top = top; value = 0; count = count; reach = reach; dictionaries = read })
  ends_at h = record { gave = loop_out s₀ grant sₗ count reach read l.turn h; within = l.turn.made; small = l.low; few = l.turn.few }

  module _ (more : count < grant) (contents' bodies' stack' cache' : List ℕ) where
    -- the step is that of the flat state
    abbrev x : Stepped
    x = step (room_at contents bodies stack cache) (running_at edition receiver selector n b top contents bodies stack)

    same_step : step (room_of sₗ) (plain_of sₗ) ≡ x
    same_step = ap (step (room_of sₗ)) (running_is edition receiver selector n b top contents bodies stack cache)

    finished_at : (w : ℕ) → Made x 0 (finished_with edition receiver selector n b w) contents bodies stack cache contents' bodies' stack' cache'
        → RunsTo s₀ grant edition receiver selector contents' bodies' stack' cache' (record { n = n; b = b; phase = 2; top = 0; value = w; count = count + 1; reach = reach; dictionaries = read })
    finished_at w e =
        let m = made_as same_step e in
        let z : top_end (plain_of (flat (finished_with edition receiver selector n b w) contents' bodies' stack' cache')) ≡ 0 = unfold plain_of top_end in refl in
        record {
          gave = loop_over s₀ grant sₗ count reach read l.turn more (finished_with edition receiver selector n b w) contents' bodies' stack' cache' m refl z refl;
          within = omega arith;
          small = l.low;
          few = let f = l.turn.few in omega arith;
        }

    pub halted_at : (k : ℕ) → Halts x k contents bodies stack cache contents' bodies' stack' cache'
        → RunsTo s₀ grant edition receiver selector contents' bodies' stack' cache' (record { n = n; b = b; phase = k; top = top; value = 0; count = count; reach = reach; dictionaries = read })
    halted_at k h =
        let u = h.stays in
        record {
          gave = (λ i. Rattle.plain.specs.FlatCalls.gives (Rattle.plain.specs.Calls.result (h.phase i) count 0 reach read)
              (flat (record { n = n; b = b; start_receiver = receiver; start_selector = selector; phase = h.phase i; top = top; value = 0; edition = edition }) (u.entries i)
              (u.words i) (u.frames i) (u.cached i)))
              ∙ loop_halts s₀ grant sₗ count reach read l.turn more h.cause (same_step ∙ h.steps);
          within = omega arith;
          small = l.low;
          few = l.turn.few;
        }

    module _ (n' b' t : ℕ) {d : ℕ} (e : Made x d (running_with edition receiver selector n' b' t) contents bodies stack cache contents' bodies' stack' cache') where
      made : Made (step (room_of sₗ) (plain_of sₗ)) d (running_with edition receiver selector n' b' t) contents bodies stack cache contents' bodies' stack' cache'
      made = made_as same_step e

      abbrev s' : Flat
      s' = flat (running_with edition receiver selector n' b' t) contents' bodies' stack' cache'

      -- the state after it, whatever the highest end
      next : (reach' read' : ℕ) → reach' ≡ max reach (top_end (plain_of s')) → read' ≡ read + d → Turn s₀ grant s' (count + 1) reach' read'
      next reach' read' h q = loop_next s₀ grant sₗ count reach read l.turn more (running_with edition receiver selector n' b' t) contents' bodies' stack' cache' made refl reach' read' h q

      runs_at : Runs n' b' t contents' bodies' stack'
      runs_at = running_runs edition receiver selector n' b' t contents' bodies' stack' cache' (check_right s' (next (max reach (top_end (plain_of s'))) (read + d) refl refl).checked)

      abbrev end' : ℕ
      end' = frame_end n' b' t contents' bodies' stack'

      -- the objects hold those before
      extends_at : Extends (objects_at n b contents bodies) (objects_at n' b' contents' bodies')
      unfolding plain_of
      extends_at = loop_extends s₀ grant sₗ count reach read l.turn more (running_with edition receiver selector n' b' t) contents' bodies' stack' cache' made

      -- the same frame on top
      level_at : t ≡ top → (reach' read' : ℕ) → reach' ≡ reach → read' ≡ read + d → LoopAt s₀ grant edition receiver selector n' b' t contents' bodies' stack' cache' (count + 1) reach' read'
      level_at q reach' read' g k =
          let h = loop_level s₀ grant sₗ count reach read l.turn more (running_with edition receiver selector n' b' t) contents' bodies' stack' cache' made refl q in
          record { turn = next reach' read' (omega arith) k; low = let w = l.low in omega arith }

      -- another one
      pub other_at : (reach' read' : ℕ) → reach' ≡ max reach end' → read' ≡ read + d → LoopAt s₀ grant edition receiver selector n' b' t contents' bodies' stack' cache' (count + 1) reach' read'
      other_at reach' read' h q =
          let e = top_end_is edition receiver selector n' b' t contents' bodies' stack' cache' in
          record { turn = next reach' read' (h ∙ ap (max reach) (sym e)) q; low = let k = top_bounds runs_at in let g = l.low in omega arith }

      -- what the tally takes in
      end_low : end' ≤ 65536
      end_low = let k = top_bounds runs_at in omega arith

-- ---- the frame that the loop holds

pub record Loop (s₀ : Flat) (grant edition receiver selector n b : ℕ) (a : Active) (contents bodies stack cache : List ℕ) (left reach read : ℕ) : Type 0 where
  pub at : LoopAt s₀ grant edition receiver selector n b a.base.0 contents bodies (written a stack) cache (grant - left) reach read
  pub stands : Stands n b contents bodies stack a
  pub within : left ≤ grant

pub loop_holds_it : {s₀ : Flat} {grant edition receiver selector n b top : ℕ} {contents bodies stack cache : List ℕ} {reach read : ℕ}
    → LoopAt s₀ grant edition receiver selector n b top contents bodies stack cache 0 reach read
    → (a : Active) → Held n b top contents bodies stack a → Loop s₀ grant edition receiver selector n b a contents bodies stack cache grant reach read
loop_holds_it {s₀} {grant} {edition} {receiver} {selector} {n} {b} {top} {contents} {bodies} {stack} {cache} {reach} {read} l a h =
    record {
      at = subst (λ (c : ℕ). LoopAt s₀ grant edition receiver selector n b a.base.0 contents bodies (written a stack) cache c reach read) (none grant)
          (subst (λ (t : ℕ). LoopAt s₀ grant edition receiver selector n b t contents bodies (written a stack) cache 0 reach read) (sym h.base)
          (subst (λ (s : List ℕ). LoopAt s₀ grant edition receiver selector n b top contents bodies s cache 0 reach read) (sym h.same) l));
      stands = h.stands;
      within = omega arith;
    }
  where
    none : (k : ℕ) → 0 ≡ k - k
    none k = omega arith

module _ {s₀ : Flat} {grant edition receiver selector n b : ℕ} {a : Active} {contents bodies stack cache : List ℕ} {left reach read : ℕ} (l : Loop s₀ grant edition receiver selector n b a contents bodies stack cache left reach read) where
  -- what the stack stands for
  abbrev v : List ℕ
  v = written a stack

  -- what a bytecode asks for
  pub loop_active : IsActive n b contents bodies stack a
  loop_active =
      record { runs = loop_runs s₀ grant edition receiver selector n b a.base.0 contents bodies v cache (grant - left) reach read l.at; stands = l.stands }

  pub loop_cached : Caches n b contents bodies cache
  loop_cached = loop_caches s₀ grant edition receiver selector n b a.base.0 contents bodies v cache (grant - left) reach read l.at

  pub held_small : (n ≤ 2047) × (b ≤ 24000) × (a.base.0 < 65536)
  held_small = loop_small s₀ grant edition receiver selector n b a.base.0 contents bodies v cache (grant - left) reach read l.at

  pub held_lengths : (length contents ≡ length s₀.contents) × (length bodies ≡ length s₀.bodies) × (length stack ≡ length s₀.stack) × (length cache ≡ length s₀.cache)
  held_lengths =
      let e = loop_lengths s₀ grant edition receiver selector n b a.base.0 contents bodies v cache (grant - left) reach read l.at in
      (e.0, e.1, sym (length_written a stack) ∙ e.2, e.3)

  pub held_leaves : Leaving stack a
  held_leaves = leaving loop_active

  -- the grant is used up, and the frame's words are written
  pub loop_ends : (stack' : List ℕ) → stack' ≡ written a stack → left ≤ 0
      → RunsTo s₀ grant edition receiver selector contents bodies stack' cache (record { n = n; b = b; phase = 1; top = a.base.0; value = 0; count = grant; reach = reach; dictionaries = read })
  loop_ends stack' e h =
      subst (λ (s : List ℕ). RunsTo s₀ grant edition receiver selector contents bodies s cache (record { n = n; b = b; phase = 1; top = a.base.0; value = 0; count = grant; reach = reach; dictionaries = read })) (sym e)
      (subst (λ (c : ℕ). RunsTo s₀ grant edition receiver selector contents bodies v cache (record { n = n; b = b; phase = 1; top = a.base.0; value = 0; count = c; reach = reach; dictionaries = read })) all
      (ends_at s₀ grant edition receiver selector n b a.base.0 contents bodies v cache (grant - left) reach read l.at (omega arith)))
    where
      all : grant - left ≡ grant
      all = omega arith

  module _ (more : 0 < left) (contents' bodies' stack' cache' : List ℕ) (y : Advanced) (z : AdvancedIs edition receiver selector n b a contents bodies stack cache contents' bodies' stack' cache' y) where
    told : (y' : Advanced) → y ≡ y' → AdvancedIs edition receiver selector n b a contents bodies stack cache contents' bodies' stack' cache' y'
    told y' e = subst (AdvancedIs edition receiver selector n b a contents bodies stack cache contents' bodies' stack' cache') e z

    -- a bytecode reads no more dictionaries than a chain has
    reads_few : {d : ℕ} {r : Registers} {s k : List ℕ} → Made (step_of edition receiver selector n b a contents bodies stack cache) d r contents bodies v cache contents' bodies' s k → d ≤ longest_chain
    reads_few m =
        made_few (flat (running_with edition receiver selector n b a.base.0) contents bodies v cache) l.at.turn.checked refl
        (made_as (ap (step (room_at contents bodies v cache)) (running_is edition receiver selector n b a.base.0 contents bodies v cache)) m)

    fewer : grant - left < grant
    fewer = let w = l.within in omega arith

    -- one more is made
    one_less : grant - left + 1 ≡ grant - (left - 1)
    one_less = let w = l.within in omega arith

    pub loop_finished : (w : ℕ) → y ≡ A.Finished w
        → RunsTo s₀ grant edition receiver selector contents' bodies' stack' cache' (record { n = n; b = b; phase = 2; top = 0; value = w; count = grant - left + 1; reach = reach; dictionaries = read })
    loop_finished w e =
        finished_at s₀ grant edition receiver selector n b a.base.0 contents bodies v cache (grant - left) reach read l.at fewer contents' bodies' stack' cache' w (told (A.Finished w) e)

    pub loop_halted : (h : Halt) → y ≡ A.Halted h
        → RunsTo s₀ grant edition receiver selector contents' bodies' stack' cache' (record { n = n; b = b; phase = halt_phase h; top = a.base.0; value = 0; count = grant - left; reach = reach; dictionaries = read })
    loop_halted h e =
        halted_at s₀ grant edition receiver selector n b a.base.0 contents bodies v cache (grant - left) reach read l.at fewer contents' bodies' stack' cache' (halt_phase h) (told (A.Halted h) e)

    -- a send that failed, and the frame's words are written
    pub loop_failed : (m : Message) → y ≡ A.Failed m → RunsFail s₀ grant edition receiver selector contents' bodies' stack' cache' m n b a.base.0 left reach read
    loop_failed m e =
        let f : AdvancedIs edition receiver selector n b a contents bodies stack cache contents' bodies' stack' cache' (A.Failed m) = told (A.Failed m) e in
        let u = f.0.stays in
        let same : start_of edition receiver selector n b a.base.0 contents bodies v cache ≡ start_of edition receiver selector n b a.base.0 contents' bodies' stack' cache' =
        λ i. start_of edition receiver selector n b a.base.0 (sym u.entries i) (sym u.words i) (sym u.frames i) (sym u.cached i) in
        subst (λ (s : Flat). RunsFail s₀ grant edition receiver selector s.contents s.bodies s.stack s.cache m n b a.base.0 left reach read) same
        (record { turn = l.at.turn; sending = f.1; steps = f.0.steps; more = more; within = l.within; small = l.at.low })

    -- a frame is held, with one bytecode less to make
    holds : (n' b' : ℕ) (f : Active) (reach' read' : ℕ)
        → LoopAt s₀ grant edition receiver selector n' b' f.base.0 contents' bodies' (written f stack') cache' (grant - left + 1) reach' read' → Stands n' b' contents' bodies' stack' f
        → Loop s₀ grant edition receiver selector n' b' f contents' bodies' stack' cache' (left - 1) reach' read'
    holds n' b' f reach' read' h s =
        record {
          at = subst (λ (c : ℕ). LoopAt s₀ grant edition receiver selector n' b' f.base.0 contents' bodies' (written f stack') cache' c reach' read') one_less h;
          stands = s;
          within = let w = l.within in omega arith;
        }

    -- the frame goes on
    goes_on : (n' b' : ℕ) {d : ℕ} (q : CodePosition) (e : StackPosition)
        → Made (step_of edition receiver selector n b a contents bodies stack cache) d (running_with edition receiver selector n' b' a.base.0) contents bodies v cache contents' bodies'
        (written (moved_on a q e) stack') cache' → Onward a stack stack' e.0 → (reach' read' : ℕ) → reach' ≡ reach → read' ≡ read + d
        → Loop s₀ grant edition receiver selector n' b' (moved_on a q e) contents' bodies' stack' cache' (left - 1) reach' read'
    goes_on n' b' q e m w reach' read' g k =
        holds n' b' (moved_on a q e) reach' read'
        (level_at s₀ grant edition receiver selector n b a.base.0 contents bodies v cache (grant - left) reach read l.at fewer contents' bodies' (written (moved_on a q e) stack') cache' n' b'
        a.base.0 m refl reach' read' g k)
        (stands_onward n' b' contents' bodies' loop_active
        (extends_at s₀ grant edition receiver selector n b a.base.0 contents bodies v cache (grant - left) reach read l.at fewer contents' bodies' (written (moved_on a q e) stack') cache' n' b'
        a.base.0 m) q e w)

    pub loop_next_one : (q : CodePosition) (e : StackPosition) → y ≡ A.Next q e → Loop s₀ grant edition receiver selector n b (moved_on a q e) contents' bodies' stack' cache' (left - 1) reach read
    loop_next_one q e d =
        let m : AdvancedIs edition receiver selector n b a contents bodies stack cache contents' bodies' stack' cache' (A.Next q e) = told (A.Next q e) d in
        goes_on n b q e m.0 m.1 reach read refl (omega arith)

    module _ (n' b' : ℕ) (q : CodePosition) (e : StackPosition) (d : ℕ) (w : y ≡ A.Answered n' b' q e d) where
      was_answered : AdvancedIs edition receiver selector n b a contents bodies stack cache contents' bodies' stack' cache' (A.Answered n' b' q e d)
      was_answered = told (A.Answered n' b' q e d) w

      pub loop_answered : (reach' read' : ℕ) → reach' ≡ reach → read' ≡ read + d
          → Loop s₀ grant edition receiver selector n' b' (moved_on a q e) contents' bodies' stack' cache' (left - 1) reach' read'
      loop_answered = goes_on n' b' q e was_answered.0 was_answered.1

      pub answered_few : d ≤ longest_chain
      answered_few = reads_few was_answered.0

    -- a new frame is on top
    module _ (f : Active) (end d : ℕ) (w : y ≡ A.Top f end d) where
      was_entered : AdvancedIs edition receiver selector n b a contents bodies stack cache contents' bodies' stack' cache' (A.Top f end d)
      was_entered = told (A.Top f end d) w

      pub loop_entered : (reach' read' : ℕ) → reach' ≡ max reach end → read' ≡ read + d → Loop s₀ grant edition receiver selector n b f contents' bodies' stack' cache' (left - 1) reach' read'
      loop_entered reach' read' h k =
          let m = was_entered in
          holds n b f reach' read'
          (subst (λ (s : List ℕ). LoopAt s₀ grant edition receiver selector n b f.base.0 contents' bodies' s cache' (grant - left + 1) reach' read') (sym m.1.same)
          (other_at s₀ grant edition receiver selector n b a.base.0 contents bodies v cache (grant - left) reach read l.at fewer contents' bodies' stack' cache' n b f.base.0 m.0 reach' read'
          (h ∙ ap (max reach) m.2) k)) m.1.stands

      pub entered_few : d ≤ longest_chain
      entered_few = reads_few was_entered.0

      pub entered_low : end ≤ 65536
      entered_low =
          let m = was_entered in
          let e = end_low s₀ grant edition receiver selector n b a.base.0 contents bodies v cache (grant - left) reach read l.at fewer contents' bodies' stack' cache' n b f.base.0 m.0 in
          let g = m.2 in omega arith

    -- a return: the frame below ends where the top one began
    pub loop_back : (f : Active) → y ≡ A.Below f → Loop s₀ grant edition receiver selector n b f contents' bodies' stack' cache' (left - 1) reach read
    loop_back f d =
        let m : AdvancedIs edition receiver selector n b a contents bodies stack cache contents' bodies' stack' cache' (A.Below f) = told (A.Below f) d in
        let h = l.at.turn.high in
        let e = top_end_is edition receiver selector n b a.base.0 contents bodies v cache in
        let k = m.2 in
        holds n b f reach read
        (other_at s₀ grant edition receiver selector n b a.base.0 contents bodies v cache (grant - left) reach read l.at fewer contents' bodies' (written f stack') cache' n b f.base.0 m.0
        reach read (omega arith) (omega arith)) m.1
