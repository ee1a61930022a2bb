-- The answers of the functions that a send calls, put together: the step that is made, or the halt.
use Prim.Native.Nat.{ℕ, suc, ◌+◌, ◌-◌, ◌≤◌, ◌<◌}
use mathlib.Core.Path.{◌≡◌, refl, sym, ap, ap₂, ◌∙◌, subst}
use mathlib.Core.Bool.{true, false}
use mathlib.Core.List.{List}
use native.Mathlib.Omega.{arith}
use lib.Dec.{T}
use lib.ListN.{length, get_or, set, length-set}
use lib.Seq.{sets}
use Rattle.bytecode.proofs.Choice.{if_yes, if_no}
use Rattle.bytecode.proofs.TestLaws.{true→T}
use Rattle.model.specs.Word.{is_valid}
use Rattle.model.specs.Objects.{Objects, objects_at, class_of, part}
use Rattle.model.specs.Method.{home, frame_size}
use Rattle.model.specs.Lookup.{found, lookup, dictionaries_read, in_chain}
use Rattle.std.specs.Prelude.{None}
use Rattle.model.specs.Image.{Room}
use Rattle.model.proofs.LookupLaws.{read_few}
use Rattle.plain.specs.Registers.{no_stack_room}
use Rattle.plain.specs.Step.{looked, Stepped, Activation, entered, unfit, entering, activate}
use Rattle.plain.specs.Flat.{frame_depth, frame_method, operands_start}
use Rattle.plain.specs.Cache.{filled}
use Rattle.plain.specs.Running.{running_with, room_at, Made, Sending, sent_receiver, sent_arguments, send_step, failed_step}
use Rattle.plain.proofs.FrameLaws.{fits}
use Rattle.plain.proofs.RunningLaws.{top_bounds, is_method}
use Rattle.plain.proofs.FramedLaws.{receiver_valid, arguments_here, found_method, found_arguments, found_fits, send_none, send_unfit, send_full, answered_made, entered_made}
use Rattle.frames.specs.Words.{new_words}
use Rattle.frames.specs.declared.Active.{Active}
use Rattle.frames.specs.declared.Message.{Message}
use Rattle.frames.specs.Active.{written, IsActive, Onward, Held, frame_end}
use Rattle.frames.proofs.ActiveLaws.{Ends, ends, length_written, word_written, part_written, method_read, depth_read, operands_read, moves_on, puts, put_method}
use Rattle.frames.proofs.FreshLaws.{new_method, new_held}
use Rattle.activation.specs.declared.Activated.{Activated}
use Rattle.activation.specs.declared.Activated.TheVariants.{Answer, Frame, Unfit}
use Rattle.activation.specs.Activating.{Activable, Answers, Leaves, ActivatedIs, Activates}
use Rattle.sends.specs.declared.Base.{Base}
use Rattle.sends.specs.declared.Base.TheVariants as base
use Rattle.sends.specs.Sends.{Framing, FrameAt, NoFrame, BaseIs, Enters, Halts, Fails, behind_send}

one_more : (end count operands : ℕ) → suc count ≤ end - operands → end - count - operands ≡ end - 1 - count - operands + 1
one_more end count operands h = omega arith

module _ {n b : ℕ} {contents bodies stack : List ℕ} {a : Active} {q : Message} (r : IsActive n b contents bodies stack a)
    (s : Sending n b a.base.0 contents bodies (written a stack) q.selector q.count q.class.0 q.next.0 q.sure) where
  abbrev o : Objects
  o = objects_at n b contents bodies

  -- what the stack stands for
  abbrev v : List ℕ
  v = written a stack

  abbrev top : ℕ
  top = a.base.0

  abbrev count : ℕ
  count = q.count

  -- the receiver's place among the frame's operands
  abbrev place : ℕ
  place = a.end.0 - 1 - count

  abbrev receiver : ℕ
  receiver = sent_receiver n b top contents bodies v count

  abbrev step : List ℕ → ℕ → ℕ → ℕ → Stepped
  step cache edition receiver₀ selector₀ =
      send_step (room_at contents bodies v cache) edition receiver₀ selector₀ n b top contents bodies v q.selector count q.class.0 q.next.0

  -- that of its message
  abbrev otherwise : List ℕ → ℕ → ℕ → ℕ → Stepped
  otherwise cache edition receiver₀ selector₀ =
      failed_step (room_at contents bodies v cache) edition receiver₀ selector₀ n b top contents bodies v q.selector count q.class.0 q.next.0

  pub sent_needs : suc count ≤ a.end.0 - a.operands.0
  sent_needs = let d = depth_read r in let h = s.needs in omega arith

  pub sent_ends : Ends a stack
  sent_ends = ends r

  place_is : place ≡ operands_start o (frame_method v top) top + (frame_depth v top - suc count)
  place_is = let k = sent_needs in let e = ends r in let d = depth_read r in let f = operands_read r in omega arith

  receiver_read : get_or stack place 0 ≡ receiver
  receiver_read =
      let k = sent_needs in
      let e = ends r in
      sym (word_written a stack place (omega arith)) ∙ ap (λ (i : ℕ). get_or v i 0) place_is

  arguments_read : part stack (place + 1) count ≡ sent_arguments n b top contents bodies v count
  arguments_read =
      let k = sent_needs in
      let e = ends r in
      sym (part_written a stack (place + 1) count (omega arith)) ∙ ap (λ (i : ℕ). part v (i + 1) count) place_is ∙ arguments_here s

  left_is : place - a.operands.0 ≡ frame_depth v top - suc count
  left_is = let k = sent_needs in let e = ends r in let d = depth_read r in omega arith

  -- no method
  pub made_nothing : (cache : List ℕ) (edition receiver₀ selector₀ : ℕ) → lookup o q.selector q.class.0 ≡ None
      → Fails (step cache edition receiver₀ selector₀) (otherwise cache edition receiver₀ selector₀) contents bodies stack cache contents bodies stack cache
  made_nothing cache edition receiver₀ selector₀ e =
      record {
        steps = send_none s (room_at contents bodies v cache) edition receiver₀ selector₀ e;
        stays = record { entries = refl; words = refl; frames = refl; cached = refl };
      }

  -- how many dictionaries the lookup read, for the cache
  pub read_fits : {d : ℕ} → d ≡ dictionaries_read o q.selector q.class.0 → d < 65536
  read_fits e = let l = read_few o q.selector q.class.0 in omega arith

  module _ (m : ℕ) (e : lookup o q.selector q.class.0 ≡ found m) where
    pub activable : Activable n b contents bodies m (get_or stack place 0)
    activable =
        record { right = (s.runs.edition, s.runs.right); method = found_method s m e; valid = subst (λ (w : ℕ). T (is_valid n w)) (sym receiver_read) (receiver_valid s) }

    module _ (edition : ℕ) (cache contents' bodies' : List ℕ) (x : Activated)
        (h : Activates edition n b contents bodies m (get_or stack place 0) (get_or (part stack (place + 1) count) 0 0) (get_or (part stack (place + 1) count) 1 0) contents' bodies' x) where
      abbrev room : Room
      room = room_at contents bodies v cache

      abbrev activation : Activation
      activation = activate edition room o m receiver (sent_arguments n b top contents bodies v count)

      is_activated : ActivatedIs activation (entering o m receiver) contents bodies contents' bodies' x
      is_activated =
          subst (λ (w : ℕ). ActivatedIs (activate edition room o m w (sent_arguments n b top contents bodies v count)) (entering o m w) contents bodies contents' bodies' x) receiver_read
          (h (sent_arguments n b top contents bodies v count) (ap (λ (l : List ℕ). get_or l 0 0) arguments_read) (ap (λ (l : List ℕ). get_or l 1 0) arguments_read) room refl refl)

      by_case : (y : Activated) → x ≡ y → ActivatedIs activation (entering o m receiver) contents bodies contents' bodies' y
      by_case y p = subst (ActivatedIs activation (entering o m receiver) contents bodies contents' bodies') p is_activated

      -- an answer
      pub made_answer : (w n' b' : ℕ) {d : ℕ} (stack' cache' : List ℕ) → d ≡ dictionaries_read o q.selector q.class.0 → x ≡ Answer w n' b' → stack' ≡ set stack place w
          → cache' ≡ filled cache (looked q.selector q.class.0 m d) → (receiver₀ selector₀ : ℕ)
          → Made (step cache edition receiver₀ selector₀) d (running_with edition receiver₀ selector₀ n' b' top) contents bodies v cache contents' bodies' (written (behind_send a q) stack') cache'
          × Onward a stack stack' (a.end.0 - count)
      made_answer w n' b' stack' cache' read p es ek receiver₀ selector₀ =
          let y : Answers activation w n' b' contents bodies contents' bodies' = by_case (Answer w n' b') p in
          let k = sent_needs in
          let z = ends r in
          let i : a.end.0 - count - a.operands.0 ≡ frame_depth v top - suc count + 1 = one_more a.end.0 count a.operands.0 k ∙ ap (λ (t : ℕ). t + 1) left_is in (
            answered_made s room edition receiver₀ selector₀ m e read cache w n' b' y.after contents' bodies' (written (behind_send a q) stack') cache' y.answer y.count y.size
                y.entries y.words
                (ap (written (behind_send a q)) es ∙ puts a stack place w (omega arith) q.next (record { 0 = a.end.0 - count })
                ∙ ap₂ (λ (u t : ℕ). set (set (set v u w) (top + 1) q.next.0) (top + 2) t) place_is i) ek,
            record { method = ap (λ (l : List ℕ). frame_method l top) es ∙ put_method a stack place w (omega arith) (omega arith); above = omega arith },
          )

      -- no field to answer
      pub made_none : x ≡ Unfit → (receiver₀ selector₀ : ℕ) → Fails (step cache edition receiver₀ selector₀) (otherwise cache edition receiver₀ selector₀) contents bodies stack cache contents' bodies' stack cache
      made_none p receiver₀ selector₀ =
          let y : Leaves activation unfit contents bodies contents' bodies' = by_case Unfit p in
          record {
            steps = send_unfit s room edition receiver₀ selector₀ m e y.leads;
            stays = record { entries = y.entries; words = y.words; frames = refl; cached = refl };
          }

      -- a frame
      module _ (p : x ≡ Frame) where
        leaves : Leaves activation (entering o m receiver) contents bodies contents' bodies'
        leaves = by_case Frame p

        pub framing : Framing n b top contents' bodies' (frame_method stack top) m (get_or stack place 0) q.sure
        framing =
            subst (λ (c : List ℕ). Framing n b top c bodies' (frame_method stack top) m (get_or stack place 0) q.sure) (sym leaves.entries)
            (subst (λ (d : List ℕ). Framing n b top contents d (frame_method stack top) m (get_or stack place 0) q.sure) (sym leaves.words)
            (subst (λ (k : ℕ). Framing n b top contents bodies k m (get_or stack place 0) q.sure) (method_read r)
            (subst (λ (w : ℕ). Framing n b top contents bodies (frame_method v top) m w q.sure) (sym receiver_read)
            (record {
              guarded = record { right = (s.runs.edition, s.runs.right); method = found_method s m e; valid = receiver_valid s; homes = λ t. s.homes t q.selector m e };
              below = is_method s.runs;
              low = let t = (top_bounds s.runs).most in omega arith;
            }))))

        module _ (y : Base) (k : BaseIs (objects_at n b contents' bodies') (length stack) top (frame_method stack top) m (get_or stack place 0) y) where
          -- what was placed, of the buffers before the send
          base_is : BaseIs o (length v) top (frame_method v top) m receiver y
          base_is =
              subst (λ (w : ℕ). BaseIs o (length v) top (frame_method v top) m w y) receiver_read
              (subst (λ (j : ℕ). BaseIs o (length v) top j m (get_or stack place 0) y) (sym (method_read r))
              (subst (λ (l : ℕ). BaseIs o l top (frame_method stack top) m (get_or stack place 0) y) (sym (length_written a stack))
              (subst (λ (d : List ℕ). BaseIs (objects_at n b contents d) (length stack) top (frame_method stack top) m (get_or stack place 0) y) leaves.words
              (subst (λ (c : List ℕ). BaseIs (objects_at n b c bodies') (length stack) top (frame_method stack top) m (get_or stack place 0) y) leaves.entries k))))

          enters : in_chain o (home o m) (class_of o receiver) ≡ true → activation ≡ entered
          unfolding entering
          enters t = leaves.leads ∙ if_yes _ _ t

          pub made_unfit : y ≡ base.Unfit → (receiver₀ selector₀ : ℕ) → Fails (step cache edition receiver₀ selector₀) (otherwise cache edition receiver₀ selector₀) contents bodies stack cache contents' bodies' stack cache
          unfolding entering
          made_unfit z receiver₀ selector₀ =
              let u : in_chain o (home o m) (class_of o receiver) ≡ false = subst (BaseIs o (length v) top (frame_method v top) m receiver) z base_is in
              record {
                steps = send_unfit s room edition receiver₀ selector₀ m e (leaves.leads ∙ if_no _ _ u);
                stays = record { entries = leaves.entries; words = leaves.words; frames = refl; cached = refl };
              }

          pub made_full : y ≡ base.Full → (receiver₀ selector₀ : ℕ) → Halts (step cache edition receiver₀ selector₀) 5 contents bodies stack cache contents' bodies' stack cache
          made_full z receiver₀ selector₀ =
              let u : NoFrame o (length v) top (frame_method v top) m receiver = subst (BaseIs o (length v) top (frame_method v top) m receiver) z base_is in
              record {
                cause = no_stack_room;
                steps = send_full s room edition receiver₀ selector₀ m e (enters u.chain) u.fits;
                phase = refl;
                stays = record { entries = leaves.entries; words = leaves.words; frames = refl; cached = refl };
              }

          -- one that fits
          module _ (f : Active) (temporaries end : ℕ) (z : y ≡ base.At f temporaries end) where
            frame_at : FrameAt o (length v) top (frame_method v top) m receiver f temporaries end
            frame_at = subst (BaseIs o (length v) top (frame_method v top) m receiver) z base_is

            pub enters_there : q.next.0 < 65536 → Enters stack top q.next.0 (place - a.operands.0) f.base.0 temporaries (place + 1) count
            enters_there l =
                let t = top_bounds s.runs in
                let g = ends r in
                let k = sent_needs in
                let w = length_written a stack in
                let ft = fits (length v) (top + frame_size o (frame_method v top)) (frame_size o m) (true→T frame_at.fits) in
                let fi = ft.inside in
                let ab = frame_at.above in
                let ho = frame_at.holds in
                let tf = found_fits s m e edition room (enters frame_at.chain) in
                let fa = found_arguments s m e in
                record { below = omega arith; least = omega arith; position = l; depth = omega arith; arguments = omega arith; fits = omega arith; few = omega arith; most = omega arith }

            -- the stack before the frame is written, with the top frame's words
            abbrev moved : List ℕ
            moved = set (set stack (top + 1) q.next.0) (top + 2) (place - a.operands.0)

            moved_is : moved ≡ set (set v (top + 1) q.next.0) (top + 2) (frame_depth v top - suc count)
            moved_is = moves_on a stack q.next (record { 0 = place }) ∙ ap (λ (t : ℕ). set (set v (top + 1) q.next.0) (top + 2) t) left_is

            room_there : f.base.0 + 6 ≤ length moved
            room_there =
                let w = length_written a stack in
                let ft = (fits (length v) (top + frame_size o (frame_method v top)) (frame_size o m) (true→T frame_at.fits)).inside in
                let ab = frame_at.above in
                let i = length-set stack (top + 1) q.next.0 in
                let j = length-set (set stack (top + 1) q.next.0) (top + 2) (place - a.operands.0) in
                omega arith

            module _ (stack' cache' : List ℕ) (es : stack' ≡ sets moved f.base.0 (new_words top m (get_or stack place 0) temporaries (part stack (place + 1) count))) where
              held : Held n b f.base.0 contents' bodies' stack' f
              held =
                  subst (λ (c : List ℕ). Held n b f.base.0 c bodies' stack' f) (sym leaves.entries)
                  (subst (λ (d : List ℕ). Held n b f.base.0 contents d stack' f) (sym leaves.words)
                  (new_held n b contents bodies frame_at.fresh moved stack' top (get_or stack place 0) temporaries (part stack (place + 1) count) es room_there))

              ended : end ≡ frame_end n b f.base.0 contents' bodies' stack'
              ended =
                  frame_at.ends ∙ ap (λ (j : ℕ). f.base.0 + frame_size o j) (sym method)
                  ∙ ap₂ (λ (c d : List ℕ). f.base.0 + frame_size (objects_at n b c d) (frame_method stack' f.base.0)) (sym leaves.entries) (sym leaves.words)
                where
                  method : frame_method stack' f.base.0 ≡ m
                  method = new_method n b contents bodies frame_at.fresh moved stack' top (get_or stack place 0) temporaries (part stack (place + 1) count) es room_there

              pub made_frame : {d : ℕ} → d ≡ dictionaries_read o q.selector q.class.0 → cache' ≡ filled cache (looked q.selector q.class.0 m d) → (receiver₀ selector₀ : ℕ)
                  → Made (step cache edition receiver₀ selector₀) d (running_with edition receiver₀ selector₀ n b f.base.0) contents bodies v cache contents' bodies' stack' cache'
                  × Held n b f.base.0 contents' bodies' stack' f × (end ≡ frame_end n b f.base.0 contents' bodies' stack')
              made_frame read ek receiver₀ selector₀ = (
                entered_made s room edition receiver₀ selector₀ m e read cache f.base.0 contents' bodies' stack' cache' frame_at.above (enters frame_at.chain) frame_at.fits
                    leaves.entries leaves.words
                    (es ∙ (λ i. sets (moved_is i) f.base.0 (new_words top m (receiver_read i) (frame_at.holds i) (arguments_read i)))) ek,
                held,
                ended,
              )
