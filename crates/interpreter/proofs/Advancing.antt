-- The events of a bytecode, with the send or the return that is made of them: the step, or the halt.
use Prim.Native.Nat.{ℕ, suc, ◌+◌, ◌-◌, ◌≤◌, ◌<◌}
use mathlib.Core.Path.{◌≡◌, refl, sym, ap, ◌∙◌, subst}
use mathlib.Core.List.{List}
use native.Mathlib.Omega.{arith}
use lib.ListN.{set}
use lib.Seq.{get_or-set_other}
use Rattle.model.specs.Objects.{objects_at}
use Rattle.model.specs.Method.{temporary_count, frame_size}
use Rattle.model.specs.Numbers.{phase_of as halt_phase}
use Rattle.model.specs.declared.numbers.Halt.{Halt}
use Rattle.model.specs.declared.numbers.Halt.TheVariants.{NoStackRoom}
use Rattle.model.specs.declared.CodePosition.{CodePosition}
use Rattle.model.specs.declared.StackPosition.{StackPosition}
use Rattle.plain.specs.Registers.{no_stack_room, phase_of}
use Rattle.plain.specs.Step.{Stepped, returned}
use Rattle.plain.specs.Flat.{frame_sender, frame_depth, frame_method}
use Rattle.plain.specs.Running.{Runs, Sending, Made, running_with, finished_with, running_at, room_at, top_frame, rest_frames, send_step, failed_step}
use Rattle.plain.proofs.MadeLaws.{moved_made, made_as}
use Rattle.plain.proofs.ReturnLaws.{sender_bounds, bottom_returns, sender_returns}
use Rattle.frames.specs.declared.Active.{Active}
use Rattle.frames.specs.declared.Message.{Message}
use Rattle.frames.specs.Active.{IsActive, Leaving, frame_end, written, moved_on}
use Rattle.frames.proofs.Standing.{noted_small}
use Rattle.frames.proofs.ActiveLaws.{depth_read, leaving}
use Rattle.cache.specs.Caches.{Caches}
use Rattle.steps.specs.declared.Event.{Event}
use Rattle.steps.specs.declared.Event.TheVariants.{Next, Send, Return}
use Rattle.steps.specs.declared.Event.TheVariants as E
use Rattle.steps.specs.Events.{Says, Becomes, Halting}
use Rattle.sends.specs.declared.Sent.{Sent}
use Rattle.sends.specs.declared.Sent.TheVariants.{Answered, Entered, Full, Failed}
use Rattle.sends.specs.Sends.{Halts, Fails, Sends, SentIs}
use Rattle.interpreter.specs.Advances.{Returned, pushed_on, AdvancedIs, step_of}
use Rattle.interpreter.specs.declared.Advanced.TheVariants as A

-- Buffers that are left as they were
module _ {bodies stack bodies₁ stack₁ : List ℕ} (ew : bodies₁ ≡ bodies) (ef : stack₁ ≡ stack) (P : List ℕ → List ℕ → Type 0) where
  onto : P bodies stack → P bodies₁ stack₁
  onto x = subst (λ (l : List ℕ). P l stack₁) (sym ew) (subst (P bodies) (sym ef) x)

  back : P bodies₁ stack₁ → P bodies stack
  back x = subst (P bodies) ef (subst (λ (l : List ℕ). P l stack₁) ew x)

module _ {n b : ℕ} {contents bodies stack : List ℕ} {a : Active} (r : IsActive n b contents bodies stack a) (bodies₁ stack₁ : List ℕ) (event : Event)
    (says : Says n b contents a bodies stack bodies₁ stack₁ event) where
  abbrev top : ℕ
  top = a.base.0

  -- what the stack stands for
  abbrev v : List ℕ
  v = written a stack

  abbrev stepFrom : List ℕ → ℕ → ℕ → ℕ → Stepped
  stepFrom cache edition receiver selector = step_of edition receiver selector n b a contents bodies stack cache

  by_event : (y : Event) → event ≡ y → Says n b contents a bodies stack bodies₁ stack₁ y
  by_event y e = subst (Says n b contents a bodies stack bodies₁ stack₁) e says

  -- A bytecode that is done
  pub went_on : (cache : List ℕ) (q : CodePosition) (z : StackPosition) → event ≡ Next q z → (edition receiver selector : ℕ)
      → AdvancedIs edition receiver selector n b a contents bodies stack cache contents bodies₁ stack₁ cache (A.Next q z)
  went_on cache q z e edition receiver selector =
      let x : Says n b contents a bodies stack bodies₁ stack₁ (Next q z) = by_event (Next q z) e in
      (moved_made n b top contents bodies v cache bodies₁ (written (moved_on a q z) stack₁) r.runs x.0 edition receiver selector (room_at contents bodies v cache), x.1)

  -- A halt
  module _ (h : Halt) (e : event ≡ E.Halt h) where
    halting : Halting n b contents a bodies stack bodies₁ stack₁ (halt_phase h)
    halting = by_event (E.Halt h) e

    pub leaves_halt : Leaving stack₁ a
    leaves_halt = subst (λ (s : List ℕ). Leaving s a) (sym halting.becomes.frames) (leaving r)

    pub halted : (cache stack' : List ℕ) → stack' ≡ written a stack₁ → (edition receiver selector : ℕ)
        → AdvancedIs edition receiver selector n b a contents bodies stack cache contents bodies₁ stack' cache (A.Halted h)
    halted cache stack' l edition receiver selector =
        let x = halting in
        record {
          cause = x.cause;
          steps = x.becomes.steps edition receiver selector (room_at contents bodies v cache);
          phase = x.phase;
          stays = record { entries = refl; words = x.becomes.words; frames = l ∙ ap (written a) x.becomes.frames; cached = refl };
        }

  -- A return
  module _ (w : ℕ) (e : event ≡ Return w) where
    abbrev return-step : ℕ → ℕ → ℕ → Stepped
    return-step edition receiver selector =
        returned (running_at edition receiver selector n b top contents bodies v) (top_frame n b top contents bodies v) (rest_frames n b top contents bodies v) w

    returns_word : Becomes n b contents a bodies stack bodies₁ stack₁ (λ room edition receiver selector. return-step edition receiver selector)
    returns_word = by_event (Return w) e

    pub leaves_return : Leaving stack₁ a
    leaves_return = subst (λ (s : List ℕ). Leaving s a) (sym returns_word.frames) (leaving r)

    -- the frame's words are written
    module _ (stack₂ : List ℕ) (left : stack₂ ≡ written a stack₁) where
      same : stack₂ ≡ v
      same = left ∙ ap (written a) returns_word.frames

      pub finishes : (cache : List ℕ) → top ≡ 0 → (edition receiver selector : ℕ)
          → Made (stepFrom cache edition receiver selector) 0 (finished_with edition receiver selector n b w) contents bodies v cache contents bodies₁ stack₂ cache
      finishes cache z edition receiver selector =
          let x = returns_word in
          made_as (x.steps edition receiver selector (room_at contents bodies v cache))
          (onto x.words same (λ (l s : List ℕ). Made (return-step edition receiver selector) 0 (finished_with edition receiver selector n b w) contents bodies v cache contents l s cache)
          (bottom_returns r.runs edition receiver selector w cache z))

      pub return_runs : Runs n b top contents bodies₁ stack₂
      return_runs = onto returns_word.words same (λ (l s : List ℕ). Runs n b top contents l s) r.runs

      module _ (above : 0 < top) (stack' : List ℕ) (f : Active) (h : Returned n b top contents bodies₁ stack₂ stack' w f) where
        returns_below : (cache : List ℕ) (edition receiver selector : ℕ)
            → Made (stepFrom cache edition receiver selector) 0 (running_with edition receiver selector n b f.base.0) contents bodies v cache contents bodies₁ (written f stack') cache
        returns_below cache edition receiver selector =
            let x = returns_word in
            made_as (x.steps edition receiver selector (room_at contents bodies v cache))
            (subst (λ (s : List ℕ). Made (return-step edition receiver selector) 0 (running_with edition receiver selector n b f.base.0) contents bodies v cache contents bodies₁ s cache)
            (sym h.words)
            (subst (λ (t : ℕ). Made (return-step edition receiver selector) 0 (running_with edition receiver selector n b t) contents bodies v cache contents bodies₁
            (pushed_on n b t contents bodies₁ stack₂ w) cache) (sym h.base)
            (onto x.words same (λ (l s : List ℕ). Made (return-step edition receiver selector) 0 (running_with edition receiver selector n b (frame_sender s top)) contents bodies v cache
            contents l (pushed_on n b (frame_sender s top) contents l s w) cache) (sender_returns r.runs above edition receiver selector w cache))))

        -- the frame below ends where the top one began
        ends_below : frame_end n b f.base.0 contents bodies₁ (written f stack') ≤ top
        ends_below =
            let t = f.base.0 in
            let o = objects_at n b contents bodies₁ in
            let k = subst (λ (x : ℕ). x + frame_size o (frame_method stack₂ x) ≡ top) (sym h.base) (sender_bounds return_runs above).below in
            let at = t + (6 + (temporary_count o (frame_method stack₂ t) + frame_depth stack₂ t)) in
            let m : frame_method (written f stack') t ≡ frame_method stack₂ t = ap (λ (l : List ℕ). frame_method l t) h.words
            ∙ get_or-set_other (set stack₂ at w) (t + 2) (t + 3) (suc (frame_depth stack₂ t)) 0 (omega arith) ∙ get_or-set_other stack₂ at (t + 3) w 0 (omega arith) in
            subst (λ (x : ℕ). t + frame_size o x ≤ top) (sym m) (omega arith)

        pub returned_below : (cache : List ℕ) (edition receiver selector : ℕ)
            → AdvancedIs edition receiver selector n b a contents bodies stack cache contents bodies₁ stack' cache (A.Below f)
        returned_below cache edition receiver selector = (returns_below cache edition receiver selector, h.stands, ends_below)

  -- A send
  module _ (m : Message) (e : event ≡ Send m) where
    abbrev send-step : List ℕ → List ℕ → List ℕ → ℕ → ℕ → ℕ → Stepped
    send-step cache l s edition receiver selector =
        send_step (room_at contents l (written a s) cache) edition receiver selector n b top contents l (written a s) m.selector m.count m.class.0 m.next.0

    abbrev failed-step : List ℕ → List ℕ → List ℕ → ℕ → ℕ → ℕ → Stepped
    failed-step cache l s edition receiver selector =
        failed_step (room_at contents l (written a s) cache) edition receiver selector n b top contents l (written a s) m.selector m.count m.class.0 m.next.0

    abbrev Sent-by : Type 0
    Sent-by = Sending n b top contents bodies v m.selector m.count m.class.0 m.next.0 m.sure
        × Becomes n b contents a bodies stack bodies₁ stack₁
        (λ room edition receiver selector. send_step room edition receiver selector n b top contents bodies v m.selector m.count m.class.0 m.next.0)

    sends_it : Sent-by
    sends_it = by_event (Send m) e

    pub sent_low : m.count ≤ a.end.0
    sent_low = let h = sends_it.0.needs in let d = depth_read r in omega arith

    pub can_send : (cache : List ℕ) → Caches n b contents bodies cache
        → IsActive n b contents bodies₁ stack₁ a
        × Sending n b top contents bodies₁ (written a stack₁) m.selector m.count m.class.0 m.next.0 m.sure
        × Caches n b contents bodies₁ cache × (m.next.0 < 65536)
    can_send cache g =
        let x = sends_it in (
          onto x.1.words x.1.frames (λ (l s : List ℕ). IsActive n b contents l s a) r,
          onto x.1.words x.1.frames (λ (l s : List ℕ). Sending n b top contents l (written a s) m.selector m.count m.class.0 m.next.0 m.sure) x.0,
          onto x.1.words x.1.frames (λ (l s : List ℕ). Caches n b contents l cache) g,
          noted_small x.0.runs m.next.0 _ x.0.noted,
        )

    module _ (edition : ℕ) (cache contents' bodies' stack' cache' : List ℕ) (answer : Sent)
        (h : Sends edition n b a m contents bodies₁ stack₁ cache contents' bodies' stack' cache' answer)
      where
        -- what the send says, of the buffers before the step
        said : (y : Sent) → answer ≡ y → (receiver selector : ℕ)
            → SentIs (send-step cache bodies stack edition receiver selector) (failed-step cache bodies stack edition receiver selector) edition receiver selector n b a m contents bodies stack cache contents' bodies' stack' cache' y
        said y d receiver selector =
            let x = sends_it.1 in
            subst (SentIs (send-step cache bodies stack edition receiver selector) (failed-step cache bodies stack edition receiver selector) edition receiver selector n b a m contents bodies stack cache contents' bodies' stack' cache') d
            (back x.words x.frames (λ (l s : List ℕ). SentIs (send-step cache l s edition receiver selector) (failed-step cache l s edition receiver selector) edition receiver selector n b a m contents l s cache
            contents' bodies' stack' cache' answer) (h receiver selector))

        as_sent : (receiver selector : ℕ) → stepFrom cache edition receiver selector ≡ send-step cache bodies stack edition receiver selector
        as_sent receiver selector = sends_it.1.steps edition receiver selector (room_at contents bodies v cache)

        pub answers : (n' b' read : ℕ) → answer ≡ Answered n' b' read → (receiver selector : ℕ)
            → AdvancedIs edition receiver selector n b a contents bodies stack cache contents' bodies' stack' cache' (A.Answered n' b' m.next (record { 0 = a.end.0 - m.count }) read)
        answers n' b' read d receiver selector =
            let x : SentIs (send-step cache bodies stack edition receiver selector) (failed-step cache bodies stack edition receiver selector) edition receiver selector n b a m contents bodies stack cache contents' bodies' stack' cache'
            (Answered n' b' read) = said (Answered n' b' read) d receiver selector in
            (made_as (as_sent receiver selector) x.0, x.1)

        pub enters : (f : Active) (end read : ℕ) → answer ≡ Entered f end read → (receiver selector : ℕ)
            → AdvancedIs edition receiver selector n b a contents bodies stack cache contents' bodies' stack' cache' (A.Top f end read)
        enters f end read d receiver selector =
            let x : SentIs (send-step cache bodies stack edition receiver selector) (failed-step cache bodies stack edition receiver selector) edition receiver selector n b a m contents bodies stack cache contents' bodies' stack' cache'
            (Entered f end read) = said (Entered f end read) d receiver selector in
            (made_as (as_sent receiver selector) x.0, x.1, x.2)

        -- a stack that is full
        module _ (d : answer ≡ Full) where
          stopped : (receiver selector : ℕ) → Halts (send-step cache bodies stack edition receiver selector) (phase_of no_stack_room) contents bodies stack cache contents' bodies' stack' cache'
          stopped receiver selector = said Full d receiver selector

          pub leaves_stopped : Leaving stack' a
          leaves_stopped = subst (λ (s : List ℕ). Leaving s a) (sym (stopped 0 0).stays.frames) (leaving r)

          pub stops : (stack'' : List ℕ) → stack'' ≡ written a stack' → (receiver selector : ℕ)
              → AdvancedIs edition receiver selector n b a contents bodies stack cache contents' bodies' stack'' cache' (A.Halted NoStackRoom)
          stops stack'' l receiver selector =
              let x = stopped receiver selector in
              record {
                cause = x.cause;
                steps = as_sent receiver selector ∙ x.steps;
                phase = x.phase;
                stays = record { entries = x.stays.entries; words = x.stays.words; frames = l ∙ ap (written a) x.stays.frames; cached = x.stays.cached };
              }

        -- a send that fails
        module _ (d : answer ≡ Failed) where
          missed : (receiver selector : ℕ)
              → Fails (send-step cache bodies stack edition receiver selector) (failed-step cache bodies stack edition receiver selector) contents bodies stack cache contents' bodies' stack' cache'
          missed receiver selector = said Failed d receiver selector

          pub leaves_missed : Leaving stack' a
          leaves_missed = subst (λ (s : List ℕ). Leaving s a) (sym (missed 0 0).stays.frames) (leaving r)

          pub misses : (stack'' : List ℕ) → stack'' ≡ written a stack' → (receiver selector : ℕ)
              → AdvancedIs edition receiver selector n b a contents bodies stack cache contents' bodies' stack'' cache' (A.Failed m)
          misses stack'' l receiver selector =
              let x = missed receiver selector in (
                record {
                  steps = as_sent receiver selector ∙ x.steps;
                  stays = record { entries = x.stays.entries; words = x.stays.words; frames = l ∙ ap (written a) x.stays.frames; cached = x.stays.cached };
                },
                sends_it.0,
              )
