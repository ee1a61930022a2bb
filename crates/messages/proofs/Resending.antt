-- The answers of the functions that a message calls, put together: the step that is made, or the halt.
use Prim.Native.Nat.{ℕ, suc, ◌+◌, ◌-◌, ◌*◌, ◌/◌, ◌%◌, ◌≤◌, ◌<◌}
use mathlib.Core.Path.{◌≡◌, refl, sym, ap, ap₂, ◌∙◌, subst}
use mathlib.Core.Logic.{◌≢◌, ◌⊎◌, inl, inr}
use mathlib.Core.Bool.{Bool, true, false, ◌&&◌}
use mathlib.Core.List.{List, [], ◌∷◌}
use native.Mathlib.Omega.{arith}
use borrow.Author.Tests.{eq-eqb, eqb-true}
use lib.Dec.{T, ltb, eqb}
use lib.ListN.{length, get_or, set, take, length-set}
use lib.Seq.{sets, get_or-set_other}
use Rattle.bytecode.specs.Constant.{false_word}
use Rattle.bytecode.proofs.Choice.{if_yes, if_no}
use Rattle.bytecode.proofs.TestLaws.{true→T, T→true, and_left, and_right}
use Rattle.model.specs.declared.Pointer.{Pointer}
use Rattle.std.specs.Prelude.{Option, Some, None, Ok}
use Rattle.model.specs.Limits.{has_messages, entry_words, method_kind, primitive_flag}
use Rattle.model.specs.Word.{object_number, failure_selector}
use Rattle.model.specs.Objects.{Objects, objects_at, start, body_words, is_kind, class_of, part}
use Rattle.model.specs.Method.{home, flag, temporary_count, frame_words, literal_count, frame_size, argument_count, primitive_number}
use Rattle.model.specs.Lookup.{found, lookup, dictionaries_read, in_chain}
use Rattle.model.specs.Rules.{Right}
use Rattle.model.specs.Image.{Room}
use Rattle.model.specs.Primitive.{appended, array_made, message_made, message_word, has_message_room}
use Rattle.model.proofs.Facts.{Valid, odd, names, valid_cases, failure_count_lem, method_facts}
use Rattle.model.proofs.Lent.{objects_eq, front_take}
use Rattle.model.proofs.Extends.{Extends, kind_kept, class_same, home_same, flag_same, temporaries_same, frame_same, primitive_same, arguments_same}
use Rattle.model.proofs.Unchanged.{chain_same}
use Rattle.model.proofs.SendFacts.{FoundFacts, lookup_facts}
use Rattle.model.proofs.PrimitiveLaws.{Performed}
use Rattle.model.proofs.MessageLaws.{HasMessageRoom, message_room, message_law}
use Rattle.plain.specs.Registers.{not_understood, no_stack_room}
use Rattle.plain.specs.State.{fits_stack}
use Rattle.plain.specs.Step.{Stepped, Activation, halts, answered, entered, unfit, entering, activate, has_word_of, popped, without}
use Rattle.plain.specs.Flat.{frame_depth, frame_method, operands_start, frame_at}
use Rattle.plain.specs.Cache.{filled}
use Rattle.plain.specs.Step as S
use Rattle.plain.specs.Running.{running_with, top_frame, room_at, Made, sent_receiver, sent_arguments, failed_step}
use Rattle.plain.proofs.FrameLaws.{fits}
use Rattle.plain.proofs.RunningLaws.{top_bounds, is_method}
use Rattle.plain.proofs.Preserve.{entered_runs}
use Rattle.plain.proofs.FramedLaws.{receiver_valid, arguments_here, word_left, temporaries_fit}
use Rattle.plain.proofs.MessageSteps.{message_enters, message_answers, given_length, given_valid, no_messages, message_none, message_roomless, message_unfit, message_full, message_answer_made, message_frame_made}
use Rattle.model.proofs.DepthLaws.{spot_start}
use Rattle.objects.specs.Lent.{Holds}
use Rattle.frames.specs.declared.Active.{Active}
use Rattle.frames.specs.declared.Message.{Message}
use Rattle.frames.specs.Words.{new_words}
use Rattle.frames.specs.Active.{frame_end}
use Rattle.frames.proofs.FreshLaws.{new_method}
use Rattle.frames.proofs.Standing.{noted_small}
use Rattle.primitives.specs.Outcomes.{room_for, Stand, MessageRoom}
use Rattle.sends.specs.Sends.{Guarded, Halts}
use Rattle.messages.specs.declared.Receiver.{Receiver}
use Rattle.model.proofs.LookupLaws.{read_few}
use Rattle.cache.specs.declared.Lookup.{Lookup}
use Rattle.messages.specs.Resends.{Resends, Seeks, FailureFound, FoundIs, SoughtIs, ReceiverIs, FrameFits, PlacedIs, Enters, ResentIs}
use Rattle.messages.specs.declared.Fitting.{Fitting}

-- what was found, by cases
pub sought_found : (e : ℕ) (o : Objects) (contents bodies class count read : ℕ) (f : Option Pointer) → f ≡ lookup o failure_selector class → read ≡ dictionaries_read o failure_selector class
    → has_messages e ≡ true → has_message_room (room_for contents bodies) o count ≡ true → FoundIs e o contents bodies class count read f
sought_found e o contents bodies class count read (Some m) p q t h = record { messages = t; finds = sym p; reads = q; room = h }
sought_found e o contents bodies class count read None p q t h = inr (inl (sym p))

pub not_sought : (e : ℕ) (o : Objects) (contents bodies class count : ℕ) (r : Lookup) → r.found ≡ None → FoundIs e o contents bodies class count r.dictionaries None
    → SoughtIs e o contents bodies class count r
not_sought e o contents bodies class count r p s = subst (FoundIs e o contents bodies class count r.dictionaries) (sym p) s

-- what an answer says, in a case of it
pub sought_method : {e : ℕ} {o : Objects} {contents bodies class count : ℕ} (y : Lookup) (m : Pointer) → y.found ≡ Some m → SoughtIs e o contents bodies class count y
    → FailureFound e o contents bodies class count m.0 y.dictionaries
sought_method {e} {o} {contents} {bodies} {class} {count} y m p s = subst (FoundIs e o contents bodies class count y.dictionaries) p s

pub placed_at : {o : Objects} {room base m : ℕ} (y : Option Fitting) (f : Fitting) → y ≡ Some f → PlacedIs o room base m y → FrameFits o room base m f.temporaries f.end
placed_at {o} {room} {base} {m} y f p s = subst (PlacedIs o room base m) p s

module _ {e n b top : ℕ} {contents bodies stack cache : List ℕ} {q : Message} (r : Resends e n b top contents bodies stack cache q) where
  abbrev o : Objects
  o = objects_at n b contents bodies

  abbrev room : Room
  room = room_at contents bodies stack cache

  abbrev count : ℕ
  count = q.count

  abbrev class : ℕ
  class = q.class.0

  abbrev running : ℕ
  running = frame_method stack top

  abbrev receiver : ℕ
  receiver = sent_receiver n b top contents bodies stack count

  abbrev given : List ℕ
  given = sent_arguments n b top contents bodies stack count

  abbrev x : ℕ → ℕ → Stepped
  x receiver₀ selector₀ = failed_step room e receiver₀ selector₀ n b top contents bodies stack q.selector count class q.next.0

  pub few : suc count ≤ 32
  few = let t = top_bounds r.sending.runs in let h = r.sending.needs in omega arith

  pub low_next : q.next.0 < 65536
  low_next = noted_small r.sending.runs q.next.0 _ r.sending.noted

  pub seeks : Seeks n b contents bodies cache class count
  seeks = record { right = (e, r.right); starts = r.sending.starts; caches = r.caches; few = let f = few in omega arith }

  -- the room that is asked for is that of the buffers
  same_room : has_message_room (room_for (length contents) (length bodies)) o count ≡ has_message_room room o count
  unfolding has_message_room
  same_room = refl

  halts_3 : (receiver₀ selector₀ : ℕ) → x receiver₀ selector₀ ≡ halts not_understood → Halts (x receiver₀ selector₀) 3 contents bodies stack cache contents bodies stack cache
  halts_3 receiver₀ selector₀ s =
      record { cause = not_understood; steps = s; phase = refl; stays = record { entries = refl; words = refl; frames = refl; cached = refl } }

  -- no message is sent
  pub unsent : (y : Lookup) → y.found ≡ None → SoughtIs e o (length contents) (length bodies) class count y → (receiver₀ selector₀ : ℕ)
      → Halts (x receiver₀ selector₀) 3 contents bodies stack cache contents bodies stack cache
  unsent y i s receiver₀ selector₀ = halts_3 receiver₀ selector₀ (go (has_messages e) refl (subst (FoundIs e o (length contents) (length bodies) class count y.dictionaries) i s))
    where
      sought : (t : has_messages e ≡ true) (f : Option Pointer) → lookup o failure_selector class ≡ f → has_message_room room o count ≡ false → x receiver₀ selector₀ ≡ halts not_understood
      sought t None p h = message_none r.sending room e receiver₀ selector₀ t p
      sought t (Some m) p h = message_roomless r.sending room e receiver₀ selector₀ t m.0 p h

      go : (t : Bool) → has_messages e ≡ t → FoundIs e o (length contents) (length bodies) class count y.dictionaries None → x receiver₀ selector₀ ≡ halts not_understood
      go false p s = no_messages r.sending room e receiver₀ selector₀ p
      go true p (inl h) = no_messages r.sending room e receiver₀ selector₀ h
      go true p (inr (inl h)) = message_none r.sending room e receiver₀ selector₀ p h
      go true p (inr (inr h)) = sought p (lookup o failure_selector class) refl (sym same_room ∙ h)

  -- a method was found
  module _ (m : ℕ) {read : ℕ} (f : FailureFound e o (length contents) (length bodies) class count m read) where
    has_room : has_message_room room o count ≡ true
    has_room = sym same_room ∙ f.room

    room_facts : HasMessageRoom room o count
    room_facts = message_room room o count (true→T has_room)

    pub made_room : MessageRoom n b count contents bodies
    made_room = let h = room_facts in record { objects = h.objects; words = h.words; entries = h.contents; inside = h.bodies }

    facts : FoundFacts o failure_selector class m
    facts = lookup_facts r.right failure_selector class m f.finds

    pub read_fits : read < 65536
    read_fits = let l = read_few o failure_selector class in let e = f.reads in omega arith

    pub holds_method : Holds method_kind n b contents bodies m
    holds_method = record { right = (e, r.right); kinds = facts.method }

    one : argument_count o m ≡ 1
    one = facts.counts 1 (failure_count_lem r.right (true→T f.messages))

    -- the objects with array and message
    abbrev o₁ : Objects
    o₁ = message_made o q.selector given

    law : Performed room e o (message_word o) o₁
    law =
        message_law r.right (true→T f.messages) room q.selector given r.sending.valid (given_valid r.sending room e 0 0)
        (subst (HasMessageRoom room o) (sym (given_length r.sending room e 0 0)) room_facts)

    ext : Extends o o₁
    ext = law.extends

    objects_are : o₁.n ≡ n + 2
    unfolding message_made array_made appended
    objects_are = omega arith

    words_are : o₁.b ≡ b + (count + 2)
    unfolding message_made array_made appended
    words_are = let l = given_length r.sending room e 0 0 in omega arith

    -- ---- the method and the receiver in these objects

    one₁ : argument_count o₁ m ≡ 1
    one₁ = arguments_same ext r.right m facts.method ∙ one

    even : message_word o % 2 ≡ 0
    even = omega arith

    other : receiver ≢ message_word o
    other p = go (valid_cases n receiver (receiver_valid r.sending))
      where
        go : Valid n receiver → ⊥
        go (odd h) = omega arith
        go (names h k l) = omega arith

    abbrev activation : Activation
    activation = activate e room o₁ m receiver (message_word o ∷ [])

    frame_size_lem : (k : ℕ) → T (is_kind o method_kind k) → frame_size o₁ k ≡ frame_size o k
    frame_size_lem k t = ap (λ (w : ℕ). 6 + w) (frame_same ext r.right k t)

    enters_same : entering o₁ m receiver ≡ entering o m receiver
    unfolding entering
    enters_same =
        ap (λ (t : Bool). Rattle.bytecode.specs.Test.when◌then◌else◌ t entered unfit)
        (ap₂ (in_chain o₁) (home_same ext r.right m facts.method) (class_same ext receiver (receiver_valid r.sending)) ∙ chain_same ext r.right (home o m) (class_of o receiver))

    -- ---- the receiver's place

    module _ (p : Receiver) (z : ReceiverIs n b top contents bodies stack count p) where
      pub receiver_read : get_or stack p.place 0 ≡ receiver
      receiver_read = ap (λ (i : ℕ). get_or stack i 0) z.stands

      arguments_read : part stack (p.place + 1) count ≡ given
      arguments_read = ap (λ (i : ℕ). part stack (i + 1) count) z.stands ∙ arguments_here r.sending

      pub place_inside : p.place + 1 + count ≤ length stack
      place_inside = let t = top_bounds r.sending.runs in let h = r.sending.needs in let s = z.stands in omega arith

      pub left_small : (p.left < 32) × (p.left + suc count ≡ frame_depth stack top)
      left_small = let t = top_bounds r.sending.runs in let h = r.sending.needs in let s = z.below in (omega arith, omega arith)

      -- the objects that were made stand in the buffers
      module _ (contents' bodies' : List ℕ) (d : Stand (message_made o q.selector (part stack (p.place + 1) count)) contents bodies contents' bodies') where
        stands : Stand o₁ contents bodies contents' bodies'
        stands = subst (λ (l : List ℕ). Stand (message_made o q.selector l) contents bodies contents' bodies') arguments_read d

        objects_after : objects_at (n + 2) (b + (count + 2)) contents' bodies' ≡ o₁
        objects_after =
            objects_eq (sym objects_are) (sym words_are)
            (ap (take (entry_words * (n + 2))) stands.entries ∙ front_take o₁.contents contents (entry_words * (n + 2)) (law.right.contents ∙ ap (λ (k : ℕ). entry_words * k) objects_are))
            (ap (take (b + (count + 2))) stands.words ∙ front_take o₁.bodies bodies (b + (count + 2)) (law.right.bodies ∙ words_are))

        -- it answers
        module _ (answers : (eqb (flag o m) primitive_flag && eqb (primitive_number o m) 110) ≡ true) (stack' cache' : List ℕ)
            (es : stack' ≡ set (set (set stack p.place false_word) (top + 1) q.next.0) (top + 2) (p.left + 1)) (ek : cache' ≡ filled cache (S.looked failure_selector class m read)) where
          is_primitive : flag o m ≡ primitive_flag
          is_primitive = eqb-true (flag o m) primitive_flag (T→true _ (and_left (eqb (flag o m) primitive_flag) (eqb (primitive_number o m) 110) (true→T answers)))

          is_identity : primitive_number o m ≡ 110
          is_identity = eqb-true (primitive_number o m) 110 (T→true _ (and_right (eqb (flag o m) primitive_flag) (eqb (primitive_number o m) 110) (true→T answers)))

          answers_false : activation ≡ answered false_word o₁
          answers_false =
              message_answers e room o₁ m receiver (message_word o) one₁ even (flag_same ext r.right m facts.method ∙ is_primitive)
              (primitive_same ext r.right m facts.method is_primitive ∙ is_identity) other

          word : T (has_word_of o₁ (popped (top_frame n b top contents bodies stack) q.next.0 (suc count)) (length (without (top_frame n b top contents bodies stack) (suc count))))
          unfolding frame_at
          word =
              subst T
              (sym (ap₂ (λ (a c : ℕ). ltb (a + length (without (top_frame n b top contents bodies stack) (suc count))) c)
              (temporaries_same ext r.right running (is_method r.sending.runs)) (frame_same ext r.right running (is_method r.sending.runs))))
              (word_left r.sending)

          same_method : frame_method stack' top ≡ running
          same_method =
              let g = z.stands in
              ap (λ (l : List ℕ). get_or l (top + 3) 0) es
              ∙ get_or-set_other (set (set stack p.place false_word) (top + 1) q.next.0) (top + 2) (top + 3) (p.left + 1) 0 (λ i. omega arith)
              ∙ get_or-set_other (set stack p.place false_word) (top + 1) (top + 3) q.next.0 0 (λ i. omega arith)
              ∙ get_or-set_other stack p.place (top + 3) false_word 0 (λ i. omega arith)

          pub answer_sent : (end receiver₀ selector₀ : ℕ) → end ≡ top + frame_size o running
              → ResentIs e receiver₀ selector₀ n b top q contents bodies stack cache contents' bodies' stack' cache' (Ok (record { n = n + 2; b = b + (count + 2); top = record { 0 = top }; end = end; dictionaries = read }))
          answer_sent end receiver₀ selector₀ z₁ = (
            message_answer_made r.sending room e receiver₀ selector₀ f.messages m f.finds has_room f.reads cache false_word o₁ (n + 2) (b + (count + 2)) contents' bodies' stack' cache' word
                answers_false objects_are words_are stands.entries stands.words
                (es ∙ ap₂ (λ (i k : ℕ). set (set (set stack i false_word) (top + 1) q.next.0) (top + 2) (k + 1)) z.stands z.below) ek,
            z₁ ∙ ap (λ (k : ℕ). top + k) (sym (frame_size_lem running (is_method r.sending.runs))) ∙ ap₂ (λ (y : Objects) (k : ℕ). top + frame_size y k) (sym objects_after) (sym same_method),
          )

      -- it runs in a frame
      pub guarded : Guarded n b contents bodies m (get_or stack p.place 0) q.sure
      guarded =
          subst (λ (w : ℕ). Guarded n b contents bodies m w q.sure) (sym receiver_read)
          (record { right = (e, r.right); method = facts.method; valid = receiver_valid r.sending; homes = λ t. r.sending.homes t failure_selector m f.finds })

      module _ (answers : (eqb (flag o m) primitive_flag && eqb (primitive_number o m) 110) ≡ false) where
        enters : activation ≡ entering o m receiver
        enters = message_enters e room o₁ m receiver (message_word o) one₁ even not_identity ∙ enters_same
          where
            not_identity : flag o₁ m ≡ primitive_flag → primitive_number o₁ m ≢ 110
            not_identity h k =
                let g : flag o m ≡ primitive_flag = sym (flag_same ext r.right m facts.method) ∙ h in
                let i : primitive_number o m ≡ 110 = sym (primitive_same ext r.right m facts.method g) ∙ k in
                subst T (sym (ap₂ ◌&&◌ (eq-eqb (flag o m) primitive_flag g) (eq-eqb (primitive_number o m) 110 i)) ∙ answers) tt

        -- not on this receiver
        pub unfit_sent : in_chain o (home o m) (class_of o (get_or stack p.place 0)) ≡ false → (receiver₀ selector₀ : ℕ)
            → Halts (x receiver₀ selector₀) 3 contents bodies stack cache contents bodies stack cache
        unfolding entering
        unfit_sent h receiver₀ selector₀ =
            halts_3 receiver₀ selector₀ (message_unfit r.sending room e receiver₀ selector₀ f.messages m f.finds has_room
            (enters ∙ if_no _ _ (ap (λ (w : ℕ). in_chain o (home o m) (class_of o w)) (sym receiver_read) ∙ h)))

        module _ (chain : in_chain o (home o m) (class_of o (get_or stack p.place 0)) ≡ true) (base : ℕ) (based : base ≡ top + frame_size o running) where
          is_entered : activation ≡ entered
          unfolding entering
          is_entered = enters ∙ if_yes _ _ (ap (λ (w : ℕ). in_chain o (home o m) (class_of o w)) (sym receiver_read) ∙ chain)

          based₁ : base ≡ top + frame_size o₁ running
          based₁ = based ∙ ap (λ (k : ℕ). top + k) (sym (frame_size_lem running (is_method r.sending.runs)))

          fits_same : fits_stack (length stack) (top + frame_size o₁ running) (frame_size o₁ m) ≡ fits_stack (length stack) base (frame_size o m)
          fits_same = ap₂ (fits_stack (length stack)) (sym based₁) (frame_size_lem m facts.method)

          -- none fits
          pub full_sent : (y : Option Fitting) → y ≡ None → PlacedIs o (length stack) base m y → (receiver₀ selector₀ : ℕ)
              → Halts (x receiver₀ selector₀) 5 contents bodies stack cache contents bodies stack cache
          full_sent y i h receiver₀ selector₀ =
              record {
                cause = no_stack_room;
                steps = message_full r.sending room e receiver₀ selector₀ f.messages m f.finds has_room is_entered (fits_same ∙ subst (PlacedIs o (length stack) base m) i h);
                phase = refl;
                stays = record { entries = refl; words = refl; frames = refl; cached = refl };
              }

          -- one that fits
          module _ (temporaries end : ℕ) (k : FrameFits o (length stack) base m temporaries end) where
            temporaries_inside : temporary_count o m ≤ frame_words o m
            temporaries_inside =
                let t = kind_kept ext method_kind m facts.method in
                let w = temporaries_fit e o₁ m (spot_start e o₁ m ((method_facts law.right m t).sound (entered_runs e room o₁ m receiver (message_word o ∷ []) is_entered))) in
                let a = temporaries_same ext r.right m facts.method in
                let c = frame_same ext r.right m facts.method in
                omega arith

            inside : base + frame_size o m ≤ length stack
            inside = (fits (length stack) base (frame_size o m) (true→T k.fits)).inside

            pub enters_there : Enters stack top q.next.0 p.left base temporaries
            enters_there =
                let t = top_bounds r.sending.runs in
                let i = inside in
                let w = temporaries_inside in
                let h = k.holds in
                let a = (method_facts r.right m facts.method).arguments in
                let c = one in
                let l = left_small in
                record { below = omega arith; least = omega arith; position = low_next; depth = omega arith; fits = omega arith; one = omega arith }

            module _ (contents' bodies' stack' cache' : List ℕ) (d : Stand (message_made o q.selector (part stack (p.place + 1) count)) contents bodies contents' bodies')
                (es : stack' ≡ sets (set (set stack (top + 1) q.next.0) (top + 2) p.left) base (new_words top m (get_or stack p.place 0) temporaries (message_word o ∷ [])))
                (ek : cache' ≡ filled cache (S.looked failure_selector class m read)) where
              abbrev moved : List ℕ
              moved = set (set stack (top + 1) q.next.0) (top + 2) p.left

              -- the frame as it would be held, whose method is read from its words
              abbrev held : Active
              held =
                  record {
                    base = record { 0 = base };
                    code = start o (object_number m) + (2 + literal_count o m);
                    limit = start o (object_number m) + body_words o (object_number m);
                    operands = record { 0 = operands_start o m base };
                    position = record { 0 = 0 };
                    end = record { 0 = operands_start o m base };
                  }

              method : frame_method stack' base ≡ m
              method =
                  let i = inside in
                  let g = length-set stack (top + 1) q.next.0 in
                  let j = length-set (set stack (top + 1) q.next.0) (top + 2) p.left in
                  new_method n b contents bodies {f = held} (record { code = refl; limit = refl; operands = refl; position = refl; none = refl }) moved stack' top (get_or stack p.place 0)
                  temporaries (message_word o ∷ []) es (omega arith)

              pub frame_sent : (receiver₀ selector₀ : ℕ)
                  → ResentIs e receiver₀ selector₀ n b top q contents bodies stack cache contents' bodies' stack' cache' (Ok (record { n = n + 2; b = b + (count + 2); top = record { 0 = base }; end = end; dictionaries = read }))
              frame_sent receiver₀ selector₀ =
                  let u = stands contents' bodies' d in (
                    message_frame_made r.sending room e receiver₀ selector₀ f.messages m f.finds has_room f.reads cache base (n + 2) (b + (count + 2)) contents' bodies' stack' cache' based₁
                        is_entered (fits_same ∙ k.fits) objects_are words_are u.entries u.words
                        (es ∙ (λ i. sets (set (set stack (top + 1) q.next.0) (top + 2) (z.below i)) base (new_words top m (receiver_read i)
                        ((k.holds ∙ sym (temporaries_same ext r.right m facts.method)) i) (message_word o ∷ [])))) ek,
                    k.ends ∙ ap (λ (w : ℕ). base + w) (sym (frame_size_lem m facts.method))
                        ∙ ap₂ (λ (y : Objects) (w : ℕ). base + frame_size y w) (sym (objects_after contents' bodies' d)) (sym method),
                  )
