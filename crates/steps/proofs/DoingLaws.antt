-- What each bytecode is to the run loop, by the words that the code reads and writes.
use Prim.Native.Nat.{ℕ, suc, ◌+◌, ◌-◌, ◌*◌, ◌≤◌, ◌<◌}
use mathlib.Core.Path.{◌≡◌, refl, sym, ap, ap₂, ◌∙◌, subst}
use mathlib.Core.Bool.{Bool, true, false}
use mathlib.Core.Logic.{◌⊎◌, inl, inr, ◌≢◌}
use mathlib.Core.List.{List}
use mathlib.Core.Option.{some}
use native.Mathlib.Omega.{arith}
use lib.Dec.{T, eqb}
use lib.ListN.{length, get_or, set}
use Rattle.bytecode.specs.Effect.{special_count}
use Rattle.bytecode.specs.declared.Place.{Place}
use Rattle.bytecode.specs.declared.Place.TheVariants.{Field, Temporary, Literal, LiteralVariable}
use Rattle.bytecode.specs.declared.Instruction.{Instruction}
use Rattle.bytecode.specs.declared.Instruction.TheVariants.{Push, Store, PopStore, PushSelf, PushConstant, ReturnSelf, ReturnConstant, ReturnTop, Pop, Duplicate, Jump, JumpOn, Send, SuperSend, SpecialSend, Unused}
use Rattle.model.specs.Limits.{entry_words, class_kind}
use Rattle.model.specs.Word.{is_valid, object_number, boolean_word}
use Rattle.model.specs.Objects.{Objects, objects_at, body_word, class_of, superclass_word}
use Rattle.model.specs.Method.{home, literal}
use Rattle.model.specs.Rules.{special_selector}
use Rattle.model.specs.Arithmetic.{arithmetic}
use Rattle.model.specs.Primitive.{store_word}
use Rattle.model.specs.Image.{Room}
use Rattle.model.specs.declared.StackPosition.{StackPosition}
use Rattle.model.specs.declared.Pointer.{Pointer}
use Rattle.std.specs.Prelude.{Option, Some, None}
use Rattle.plain.specs.Registers.{no_boolean}
use Rattle.plain.specs.Step.{Stepped, read, tried_primitive}
use Rattle.plain.specs.Flat.{frame_method, frame_receiver}
use Rattle.plain.specs.FlatCalls.{at_front}
use Rattle.plain.specs.Running.{top_frame}
use Rattle.readers.specs.Places.{Inside}
use Rattle.objects.specs.Lent.{Holds}
use Rattle.objects.proofs.Buffers.{contents_room}
use Rattle.frames.specs.declared.Active.{Active}
use Rattle.frames.specs.Active.{written, moved_on, Onward}
use Rattle.frames.proofs.ActiveLaws.{active_method, length_written, word_written, moves_on, puts, put_method, Ends, ends, method_read, receiver_read}
use Rattle.steps.specs.declared.Event.{Event}
use Rattle.model.specs.declared.numbers.Halt.TheVariants.{NoBoolean}
use Rattle.steps.specs.declared.Event.TheVariants.{Next, Return, Halt}
use Rattle.steps.specs.Events.{StepIs, Becomes, Doing, Computing, Pushing, Pushed, left_by, Storing, StoringAt, Sends, here_of, Says}
use Rattle.steps.proofs.HereLaws.{bounds, operand_valid}
use Rattle.steps.proofs.MoveLaws.{Answers, same_two, same_three}
use Rattle.steps.proofs.ActiveLaws.{here, says_moved, says_answered, says_pushed}
use Rattle.steps.proofs.PlaceLaws.{ReadsLiteral, literal_there, own_inside, own_read, temporary_inside, temporary_read, literal_below, literal_read, variable_below, variable_inside, variable_read, push_place, store_place, store_writable, store_needs}
use Rattle.steps.proofs.StoreLaws.{store_field, store_temporary, store_variable}
use Rattle.steps.proofs.SayLaws.{push_room, push_says, self_room, self_says, constant_room, constant_says, duplicate_needs, duplicate_room, duplicate_says, pop_needs, pop_says, jump_back, jump_says, on_needs, on_small, on_jumps, on_stays, on_halts, self_returns, constant_returns, top_needs, top_returns, unused_never}
use Rattle.steps.proofs.SendLaws.{sent_depth, sent_valid, sent_says, send_below, send_sends, super_below, super_needs, holds_home, super_says}
use Rattle.steps.proofs.SpecialLaws.{special_small, selector_inside, special_needs, special_sends_lem, arithmetic_two, arithmetic_says, arithmetic_sends_lem, same_says, class_says}
use Rattle.steps.specs.declared.Event.TheVariants as E
use Rattle.steps.proofs.SpecialLaws as S

-- Nothing is written.
stays : {n b : ℕ} {contents bodies stack : List ℕ} {a : Active} {x : Room → ℕ → ℕ → ℕ → Stepped} → StepIs n b a.base.0 contents bodies (written a stack) x
    → Becomes n b contents a bodies stack bodies stack x
stays e = record { words = refl; frames = refl; steps = e }

-- The instruction by another name
pub told : {n b : ℕ} {contents bodies stack : List ℕ} {a : Active} {next : ℕ} {i : Instruction} → Doing n b contents bodies stack a next i → (j : Instruction) → i ≡ j
    → Doing n b contents bodies stack a next j
told {n} {b} {contents} {bodies} {stack} {a} {next} d j e = subst (Doing n b contents bodies stack a next) e d

module _ {n b : ℕ} {contents bodies stack : List ℕ} {a : Active} {next : ℕ} {i : Instruction} (d : Doing n b contents bodies stack a next i) where
  room_of : Answers a.base.0 (written a stack) (here_of stack a next) 0 → Pushing stack a
  room_of x = let k = ends d.active in let l = length_written a stack in (omega arith, omega arith)

  -- an operand, as the code reads it
  operand_read : (k at : ℕ) → suc k ≤ a.end.0 - a.operands.0 → at ≡ a.end.0 - suc k
      → get_or (written a stack) (a.operands.0 + (a.end.0 - a.operands.0 - suc k)) 0 ≡ get_or stack at 0
  operand_read k at h e =
      let x = ends d.active in
      ap (λ (j : ℕ). get_or (written a stack) j 0) (omega arith) ∙ word_written a stack at (omega arith)

  pub entries_room : entry_words * n ≤ length contents
  entries_room = contents_room n b contents bodies d.active.runs.right

-- ---- places

module _ {n b : ℕ} {contents bodies stack : List ℕ} {a : Active} {next : ℕ} {p : Place} (d : Doing n b contents bodies stack a next (Push p)) where
  -- the place by another name
  pub push_as : (p' : Place) → p ≡ p' → Doing n b contents bodies stack a next (Push p')
  push_as p' e = subst (λ (x : Place). Doing n b contents bodies stack a next (Push x)) e d

  pub push_pushing : Pushing stack a
  push_pushing = room_of d (push_room (here d))

  pub push_done : (w : ℕ) (stack' : List ℕ) (r : Event) → read (objects_at n b contents bodies) (top_frame n b a.base.0 contents bodies (written a stack)) p ≡ some w
      → Pushed stack a next w stack' r → Says n b contents a bodies stack bodies stack' r
  push_done w stack' r e q = says_pushed d w stack' r q (λ s x. push_says (here d) w s e x)

abbrev ReadIs : ℕ → ℕ → List ℕ → List ℕ → List ℕ → Active → Place → ℕ → Type 0
ReadIs n b contents bodies stack a p w =
    read (objects_at n b contents bodies) (top_frame n b a.base.0 contents bodies (written a stack)) p ≡ some w

module _ {n b : ℕ} {contents bodies stack : List ℕ} {a : Active} {next j : ℕ} where
  pub field_there : Doing n b contents bodies stack a next (Push (Field j)) → Inside n b contents bodies (frame_receiver stack a.base.0) j
  field_there d =
      subst (λ (x : ℕ). Inside n b contents bodies x j) (receiver_read d.active) (own_inside d.active.runs j (push_place (here d)))

  pub field_reads : Doing n b contents bodies stack a next (Push (Field j)) → (w : ℕ) → w ≡ body_word (objects_at n b contents bodies) (object_number (frame_receiver stack a.base.0)) j
      → ReadIs n b contents bodies stack a (Field j) w
  field_reads d w e =
      own_read d.active.runs j w (push_place (here d)) (e ∙ ap (λ (x : ℕ). body_word (objects_at n b contents bodies) (object_number x) j) (sym (receiver_read d.active)))

  pub temporary_there : Doing n b contents bodies stack a next (Push (Temporary j)) → (a.base.0 + 6 + j < length stack) × (a.base.0 + 6 + j < 65536)
  temporary_there d =
      let l = length_written a stack in
      let x = temporary_inside d.active.runs j (push_place (here d)) in
      (omega arith, x.1)

  pub temporary_reads : Doing n b contents bodies stack a next (Push (Temporary j)) → (at : ℕ) → at ≡ a.base.0 + 6 + j → ReadIs n b contents bodies stack a (Temporary j) (get_or stack at 0)
  temporary_reads d at e =
      temporary_read d.active.runs j (push_place (here d)) ∙ ap some (word_written a stack (a.base.0 + 6 + j) (omega arith))
      ∙ ap (λ (i : ℕ). some (get_or stack i 0)) (sym e)

  pub literal_lies : Doing n b contents bodies stack a next (Push (Literal j)) → ReadsLiteral n b contents bodies (frame_method stack a.base.0) j
  literal_lies d = literal_there (here d) j (literal_below d.active.runs j (push_place (here d)))

  pub literal_reads : Doing n b contents bodies stack a next (Push (Literal j)) → (w : ℕ) → w ≡ literal (objects_at n b contents bodies)
      (frame_method stack a.base.0) j → ReadIs n b contents bodies stack a (Literal j) w
  literal_reads d w e = literal_read d.active.runs j w (frame_method stack a.base.0) (sym (method_read d.active)) (push_place (here d)) e

  pub variable_lies : Doing n b contents bodies stack a next (Push (LiteralVariable j)) → ReadsLiteral n b contents bodies (frame_method stack a.base.0) j
  variable_lies d = literal_there (here d) j (variable_below d.active.runs j (push_place (here d)))

  pub variable_there : Doing n b contents bodies stack a next (Push (LiteralVariable j)) → (v : ℕ) → v ≡ literal (objects_at n b contents bodies)
      (frame_method stack a.base.0) j → Inside n b contents bodies v 1
  variable_there d v e = variable_inside d.active.runs j v (frame_method stack a.base.0) (sym (method_read d.active)) (push_place (here d)) e

  pub variable_reads : Doing n b contents bodies stack a next (Push (LiteralVariable j)) → (v w : ℕ) → v ≡ literal (objects_at n b contents bodies) (frame_method stack a.base.0) j
      → w ≡ body_word (objects_at n b contents bodies) (object_number v) 1 → ReadIs n b contents bodies stack a (LiteralVariable j) w
  variable_reads d v w e g = variable_read d.active.runs j v w (frame_method stack a.base.0) (sym (method_read d.active)) (push_place (here d)) e g

-- ---- stores

module _ {n b : ℕ} {contents bodies stack : List ℕ} {a : Active} {next : ℕ} {p : Place} {end : ℕ} (z : Storing n b contents bodies stack a next p end) where
  pub store_as : (p' : Place) → p ≡ p' → Storing n b contents bodies stack a next p' end
  store_as p' e = subst (λ (x : Place). Storing n b contents bodies stack a next x end) e z

  pub store_ends : Ends a stack
  store_ends = ends z.doing.active

  left_is : (pop : Bool) → end ≡ left_by pop a.end.0 → end - a.operands.0 ≡ left_by pop (a.end.0 - a.operands.0)
  left_is true e = omega arith
  left_is false e = omega arith

  abbrev left : ℕ
  left = end - a.operands.0

  store_at : StoringAt n b a.base.0 contents bodies (written a stack) (here_of stack a next) p left
  store_at = record { pop = z.pop; here = here z.doing; after = left_is z.pop z.after }

  pub store_one : 1 ≤ a.end.0 - a.operands.0
  store_one = store_needs store_at

  stays_above : (pop : Bool) → end ≡ left_by pop a.end.0 → a.operands.0 ≤ end
  stays_above true e = let k = store_one in let x = store_ends in omega arith
  stays_above false e = let x = store_ends in omega arith

  store_above : a.operands.0 ≤ end
  store_above = stays_above z.pop z.after

  top_read : (at : ℕ) → at ≡ a.end.0 - 1 → get_or (written a stack) (a.operands.0 + (a.end.0 - a.operands.0 - 1)) 0 ≡ get_or stack at 0
  top_read at e = operand_read z.doing 0 at store_one e

  abbrev o : Objects
  o = objects_at n b contents bodies

  onward : Onward a stack stack end
  onward = record { method = refl; above = store_above }

module _ {n b : ℕ} {contents bodies stack : List ℕ} {a : Active} {next j end : ℕ} where
  pub own_there : Storing n b contents bodies stack a next (Field j) end → Inside n b contents bodies (frame_receiver stack a.base.0) j
  own_there z =
      subst (λ (x : ℕ). Inside n b contents bodies x j) (receiver_read z.doing.active) (own_inside z.doing.active.runs j (store_place (store_at z)))

  pub own_stored : (z : Storing n b contents bodies stack a next (Field j) end) (at : ℕ) (bodies' : List ℕ) → at ≡ a.end.0 - 1
      → bodies' ≡ at_front (store_word (objects_at n b contents bodies) (object_number (frame_receiver stack a.base.0)) j (get_or stack at 0)).bodies bodies
      → Says n b contents a bodies stack bodies' stack (Next (record { 0 = next }) (record { 0 = end }))
  own_stored z at bodies' p e =
      let v = written a stack in
      let e' : bodies' ≡ at_front (store_word (objects_at n b contents bodies) (object_number (frame_receiver v a.base.0)) j
      (get_or v (a.operands.0 + (a.end.0 - a.operands.0 - 1)) 0)).bodies bodies = e
      ∙ ap₂ (λ (x y : ℕ). at_front (store_word (objects_at n b contents bodies) (object_number x) j y).bodies bodies) (sym (receiver_read z.doing.active))
      (sym (top_read z at p)) in (
        store_field (store_at z) bodies' (written (moved_on a (record { 0 = next }) (record { 0 = end })) stack) e'
            (moves_on a stack (record { 0 = next }) (record { 0 = end })),
        onward z,
      )

  pub temporary_room : Storing n b contents bodies stack a next (Temporary j) end → (a.base.0 + 6 + j < length stack) × (a.base.0 + 6 + j < 65536)
  temporary_room z =
      let l = length_written a stack in
      let x = temporary_inside z.doing.active.runs j (store_place (store_at z)) in
      (omega arith, x.1)

  pub temporary_stored : (z : Storing n b contents bodies stack a next (Temporary j) end) (at to : ℕ) (stack' : List ℕ) → at ≡ a.end.0 - 1 → to ≡ a.base.0 + 6 + j
      → stack' ≡ set stack to (get_or stack at 0) → Says n b contents a bodies stack bodies stack' (Next (record { 0 = next }) (record { 0 = end }))
  temporary_stored z at to stack' p g e =
      let v = written a stack in
      subst (λ (l : List ℕ). Says n b contents a bodies stack bodies l (Next (record { 0 = next }) (record { 0 = end })))
      (sym (e ∙ ap (λ (i : ℕ). set stack i (get_or stack at 0)) g)) (
        store_temporary (store_at z) (written (moved_on a (record { 0 = next }) (record { 0 = end })) (set stack (a.base.0 + 6 + j) (get_or stack at 0)))
            (puts a stack (a.base.0 + 6 + j) (get_or stack at 0) (omega arith) (record { 0 = next }) (record { 0 = end }) ∙ same_three v refl (sym (top_read z at p)) refl refl refl refl),
        record { method = put_method a stack (a.base.0 + 6 + j) (get_or stack at 0) (omega arith) (omega arith); above = store_above z },
      )

  pub literal_never : Storing n b contents bodies stack a next (Literal j) end → ⊥
  literal_never z = store_writable (store_at z)

  pub variable_holds : Storing n b contents bodies stack a next (LiteralVariable j) end → ReadsLiteral n b contents bodies (frame_method stack a.base.0) j
  variable_holds z = literal_there (here z.doing) j (variable_below z.doing.active.runs j (store_place (store_at z)))

  pub variable_room : Storing n b contents bodies stack a next (LiteralVariable j) end → (v : ℕ) → v ≡ literal (objects_at n b contents bodies)
      (frame_method stack a.base.0) j → Inside n b contents bodies v 1
  variable_room z v e = variable_inside z.doing.active.runs j v (frame_method stack a.base.0) (sym (method_read z.doing.active)) (store_place (store_at z)) e

  pub variable_stored : (z : Storing n b contents bodies stack a next (LiteralVariable j) end) (at v : ℕ) (bodies' : List ℕ) → at ≡ a.end.0 - 1
      → v ≡ literal (objects_at n b contents bodies) (frame_method stack a.base.0) j
      → bodies' ≡ at_front (store_word (objects_at n b contents bodies) (object_number v) 1 (get_or stack at 0)).bodies bodies → Says n b contents a bodies stack
      bodies' stack (Next (record { 0 = next }) (record { 0 = end }))
  variable_stored z at v bodies' p q e =
      let e' : bodies' ≡ at_front (store_word (objects_at n b contents bodies) (object_number v) 1
      (get_or (written a stack) (a.operands.0 + (a.end.0 - a.operands.0 - 1)) 0)).bodies bodies = e
      ∙ ap (λ (y : ℕ). at_front (store_word (objects_at n b contents bodies) (object_number v) 1 y).bodies bodies) (sym (top_read z at p)) in (
        store_variable (store_at z) v bodies' (written (moved_on a (record { 0 = next }) (record { 0 = end })) stack) q e'
            (moves_on a stack (record { 0 = next }) (record { 0 = end })),
        onward z,
      )

pub storing_kept : {n b : ℕ} {contents bodies stack : List ℕ} {a : Active} {next : ℕ} {p : Place} → Doing n b contents bodies stack a next (Store p)
    → (end : ℕ) → end ≡ a.end.0 → Storing n b contents bodies stack a next p end
storing_kept d end e = record { pop = false; doing = d; after = e }

pub storing_popped : {n b : ℕ} {contents bodies stack : List ℕ} {a : Active} {next : ℕ} {p : Place} → Doing n b contents bodies stack a next (PopStore p)
    → (end : ℕ) → end ≡ a.end.0 - 1 → Storing n b contents bodies stack a next p end
storing_popped d end e = record { pop = true; doing = d; after = e }

-- ---- jumps on a boolean

module _ {n b : ℕ} {contents bodies stack : List ℕ} {a : Active} {next ahead : ℕ} {condition : Bool} (d : Doing n b contents bodies stack a next (JumpOn condition ahead)) where
  pub on_one : 1 ≤ a.end.0 - a.operands.0
  on_one = on_needs (here d)

  pub on_room : next + ahead < 65536
  on_room = on_small (here d)

  pub on_ends : Ends a stack
  on_ends = ends d.active

  pub jumps : (w at : ℕ) → at ≡ a.end.0 - 1 → w ≡ boolean_word condition → get_or stack at 0 ≡ w → Says n b contents a bodies stack bodies stack (Next (record { 0 = next + ahead }) (record { 0 = at }))
  jumps w at p e t =
      let k = ends d.active in
      let o = on_one in
      says_moved d (record { 0 = next + ahead }) (record { 0 = at }) (a.end.0 - a.operands.0 - 1) (omega arith) (omega arith) (λ s q. on_jumps (here d) w s e (operand_read d 0 at on_one p ∙ t) q)

  pub passes : (w at : ℕ) → at ≡ a.end.0 - 1 → w ≡ boolean_word condition → (get_or stack at 0 ≡ w → ⊥) → (get_or stack at 0 ≡ 6) ⊎ (get_or stack at 0 ≡ 4)
      → Says n b contents a bodies stack bodies stack (Next (record { 0 = next }) (record { 0 = at }))
  passes w at p e t u =
      let k = ends d.active in
      let o = on_one in
      says_moved d (record { 0 = next }) (record { 0 = at }) (a.end.0 - a.operands.0 - 1) (omega arith) (omega arith)
      (λ s q. on_stays (here d) w s e (λ x. t (sym (operand_read d 0 at on_one p) ∙ x)) (either u) q)
    where
      either : (get_or stack at 0 ≡ 6) ⊎ (get_or stack at 0 ≡ 4)
          → (get_or (written a stack) (a.operands.0 + (a.end.0 - a.operands.0 - 1)) 0 ≡ 6) ⊎ (get_or (written a stack) (a.operands.0 + (a.end.0 - a.operands.0 - 1)) 0 ≡ 4)
      either (inl x) = inl (operand_read d 0 at on_one p ∙ x)
      either (inr x) = inr (operand_read d 0 at on_one p ∙ x)

  pub halts_there : (w at : ℕ) → at ≡ a.end.0 - 1 → w ≡ boolean_word condition → (get_or stack at 0 ≡ w → ⊥) → (get_or stack at 0 ≡ 6 → ⊥)
      → (get_or stack at 0 ≡ 4 → ⊥) → Says n b contents a bodies stack bodies stack (Halt NoBoolean)
  halts_there w at p e t u v =
      record {
        cause = no_boolean;
        phase = refl;
        becomes = stays (on_halts (here d) w e (λ x. t (sym (operand_read d 0 at on_one p) ∙ x)) (λ x. u (sym (operand_read d 0 at on_one p) ∙ x)) (λ x. v (sym (operand_read d 0 at on_one p) ∙ x)));
      }

-- ---- other jumps, and a pop

module _ {n b : ℕ} {contents bodies stack : List ℕ} {a : Active} {next ahead back : ℕ} (d : Doing n b contents bodies stack a next (Jump ahead back)) where
  pub jump_low : back ≤ next + ahead
  jump_low = jump_back (here d)

  pub jump_small : next < 65536
  jump_small = (bounds (here d)).next

  pub jump_done : (q : ℕ) → q ≡ next + ahead - back → Says n b contents a bodies stack bodies stack (Next (record { 0 = q }) a.end)
  jump_done q e =
      let k = ends d.active in
      says_moved d (record { 0 = q }) a.end (a.end.0 - a.operands.0) refl k.above (λ s x. jump_says (here d) s (x ∙ same_two (written a stack) refl e refl refl))

module _ {n b : ℕ} {contents bodies stack : List ℕ} {a : Active} {next : ℕ} where
  pub pop_one : Doing n b contents bodies stack a next Pop → 1 ≤ a.end.0 - a.operands.0
  pop_one d = pop_needs (here d)

  pub pop_done : (d : Doing n b contents bodies stack a next Pop) (at : ℕ) → at ≡ a.end.0 - 1 → Says n b contents a bodies stack bodies stack (Next (record { 0 = next }) (record { 0 = at }))
  pop_done d at p =
      let k = ends d.active in
      let o = pop_one d in
      says_moved d (record { 0 = next }) (record { 0 = at }) (a.end.0 - a.operands.0 - 1) (omega arith) (omega arith) (λ s q. pop_says (here d) s q)

  -- ---- pushes

  pub self_pushing : Doing n b contents bodies stack a next PushSelf → Pushing stack a
  self_pushing d = room_of d (self_room (here d))

  pub self_done : Doing n b contents bodies stack a next PushSelf → (stack' : List ℕ) (r : Event) → Pushed stack a next (frame_receiver stack a.base.0)
      stack' r → Says n b contents a bodies stack bodies stack' r
  self_done d stack' r q =
      says_pushed d (frame_receiver stack a.base.0) stack' r q
      (λ s x. self_says (here d) s (x ∙ same_three (written a stack) refl (sym (receiver_read d.active)) refl refl refl refl))

  pub constant_pushing : {w : ℕ} → Doing n b contents bodies stack a next (PushConstant w) → Pushing stack a
  constant_pushing d = room_of d (constant_room (here d))

  pub constant_done : {w : ℕ} → Doing n b contents bodies stack a next (PushConstant w) → (stack' : List ℕ) (r : Event) → Pushed stack a next w stack' r
      → Says n b contents a bodies stack bodies stack' r
  constant_done {w} d stack' r q = says_pushed d w stack' r q (λ s x. constant_says (here d) s x)

  pub duplicate_one : Doing n b contents bodies stack a next Duplicate → 1 ≤ a.end.0 - a.operands.0
  duplicate_one d = duplicate_needs (here d)

  pub duplicate_pushing : Doing n b contents bodies stack a next Duplicate → Pushing stack a
  duplicate_pushing d = room_of d (duplicate_room (here d))

  pub duplicate_done : Doing n b contents bodies stack a next Duplicate → (at : ℕ) (stack' : List ℕ) (r : Event) → at ≡ a.end.0 - 1 → Pushed stack a next
      (get_or stack at 0) stack' r → Says n b contents a bodies stack bodies stack' r
  duplicate_done d at stack' r p q =
      says_pushed d (get_or stack at 0) stack' r q
      (λ s x. duplicate_says (here d) s (x ∙ same_three (written a stack) refl (sym (operand_read d 0 at (duplicate_one d) p)) refl refl refl refl))

  -- ---- returns

  pub self_returned : Doing n b contents bodies stack a next ReturnSelf → Says n b contents a bodies stack bodies stack (Return (frame_receiver stack a.base.0))
  self_returned d = subst (λ (w : ℕ). Says n b contents a bodies stack bodies stack (Return w)) (receiver_read d.active) (stays (self_returns (here d)))

  pub constant_returned : {w : ℕ} → Doing n b contents bodies stack a next (ReturnConstant w) → Says n b contents a bodies stack bodies stack (Return w)
  constant_returned d = stays (constant_returns (here d))

  pub top_one : Doing n b contents bodies stack a next ReturnTop → 1 ≤ a.end.0 - a.operands.0
  top_one d = top_needs (here d)

  pub top_returned : (d : Doing n b contents bodies stack a next ReturnTop) (at : ℕ) → at ≡ a.end.0 - 1 → Says n b contents a bodies stack bodies stack (Return (get_or stack at 0))
  top_returned d at p = subst (λ (w : ℕ). Says n b contents a bodies stack bodies stack (Return w)) (operand_read d 0 at (top_one d) p) (stays (top_returns (here d)))

  pub never : Doing n b contents bodies stack a next Unused → ⊥
  never d = unused_never (here d)

-- ---- sends

module _ {n b : ℕ} {contents bodies stack : List ℕ} {a : Active} {next s count : ℕ} (z : Sends n b contents bodies stack a next s count) where
  pub sent_one : suc count ≤ a.end.0 - a.operands.0
  sent_one = sent_depth z.sends

  pub sent_ends : Ends a stack
  sent_ends = ends z.active

  sent_read : (at : ℕ) → at ≡ a.end.0 - 1 - count → get_or (written a stack) at 0 ≡ get_or stack at 0
  sent_read at p = let k = sent_ends in let o = sent_one in word_written a stack at (omega arith)

  sent_place : (at : ℕ) → at ≡ a.end.0 - 1 - count → at ≡ a.operands.0 + (a.end.0 - a.operands.0 - 1 - count)
  sent_place at p = let k = sent_ends in let o = sent_one in omega arith

  pub sent_class : (at : ℕ) → at ≡ a.end.0 - 1 - count → T (is_valid n (get_or stack at 0)) × (entry_words * n ≤ length contents)
  sent_class at p =
      (subst (λ (x : ℕ). T (is_valid n x)) (sent_read at p) (sent_valid z.sends at (sent_place at p)), contents_room n b contents bodies z.active.runs.right)

  pub sent_done : (at : ℕ) (c : Pointer) → at ≡ a.end.0 - 1 - count → c.0 ≡ class_of (objects_at n b contents bodies) (get_or stack at 0)
      → Says n b contents a bodies stack bodies stack (E.Send (record { count = count; next = record { 0 = next }; selector = s; class = c; sure = true }))
  sent_done at c p e =
      let x = sent_says z.sends at c.0 (sent_place at p) (e ∙ ap (class_of (objects_at n b contents bodies)) (sym (sent_read at p))) in
      (x.0, stays x.1)

module _ {n b : ℕ} {contents bodies stack : List ℕ} {a : Active} {next l k : ℕ} where
  pub send_literal : Doing n b contents bodies stack a next (Send l k) → ReadsLiteral n b contents bodies (frame_method stack a.base.0) l
  send_literal d = literal_there (here d) l (send_below (here d))

  pub send_done : Doing n b contents bodies stack a next (Send l k) → (s : ℕ) → s ≡ literal (objects_at n b contents bodies) (frame_method stack a.base.0) l
      → Sends n b contents bodies stack a next s k
  send_done d s e = record { active = d.active; sends = send_sends (here d) s e }

module _ {n b : ℕ} {contents bodies stack : List ℕ} {a : Active} {next l k : ℕ} (d : Doing n b contents bodies stack a next (SuperSend l k)) where
  pub super_one : suc k ≤ a.end.0 - a.operands.0
  super_one = super_needs (here d)

  pub super_literal : ReadsLiteral n b contents bodies (frame_method stack a.base.0) l
  super_literal = (active_method d.active (frame_method stack a.base.0) refl, super_below (here d))

  pub super_home : (c : ℕ) → c ≡ home (objects_at n b contents bodies) (frame_method stack a.base.0) → Holds class_kind n b contents bodies c
  super_home c e = holds_home (here d) c e

  pub super_done : (at s c : ℕ) (class : Pointer) → at ≡ a.end.0 - 1 - k → s ≡ literal (objects_at n b contents bodies) (frame_method stack a.base.0) l
      → c ≡ home (objects_at n b contents bodies) (frame_method stack a.base.0) → class.0 ≡ superclass_word (objects_at n b contents bodies) c
      → Says n b contents a bodies stack bodies stack (E.Send (record { count = k; next = record { 0 = next }; selector = s; class = class; sure = eqb (get_or stack at 0) (frame_receiver stack a.base.0) }))
  super_done at s c class p e q g =
      let x = ends d.active in
      let o = super_one in
      let place : at ≡ a.operands.0 + (a.end.0 - a.operands.0 - 1 - k) = omega arith in
      let y : get_or (written a stack) at 0 ≡ get_or stack at 0 = word_written a stack at (omega arith) in
      subst (λ (t : Bool). Says n b contents a bodies stack bodies stack (E.Send (record { count = k; next = record { 0 = next }; selector = s; class = class; sure = t })))
      (ap₂ eqb y (receiver_read d.active)) (let x = super_says (here d) at s c class.0 place e q g in (x.0, stays x.1))

-- ---- special sends

module _ {n b : ℕ} {contents bodies stack : List ℕ} {a : Active} {next k : ℕ} (d : Doing n b contents bodies stack a next (SpecialSend k)) where
  pub special_below : k < 32
  special_below = special_small (here d)

  pub special_one : 1 ≤ a.end.0 - a.operands.0
  special_one = special_needs (here d)

  pub special_inside : Inside n b contents bodies 10 k
  special_inside = selector_inside (here d)

  pub special_valid : (at : ℕ) → at ≡ a.end.0 - 1 → T (is_valid n (get_or stack at 0))
  special_valid at p =
      let x = ends d.active in
      let o = special_one in
      subst (λ (w : ℕ). T (is_valid n w)) (word_written a stack at (omega arith)) (operand_valid (here d) 0 at o (omega arith))

  module _ (small : k < 16) where
    pub two : 2 ≤ a.end.0 - a.operands.0
    two = arithmetic_two (here d) small

    operands_read : (t under last : ℕ) → under ≡ a.end.0 - 2 → last ≡ a.end.0 - 1
        → arithmetic t (get_or stack under 0) (get_or stack last 0) ≡ arithmetic t (get_or (written a stack) (a.operands.0 + (a.end.0 - a.operands.0 - 2)) 0)
        (get_or (written a stack) (a.operands.0 + (a.end.0 - a.operands.0 - 1)) 0)
    operands_read t under last p q = ap₂ (λ (u w : ℕ). arithmetic t u w) (sym (operand_read d 1 under two p)) (sym (operand_read d 0 last special_one q))

    -- what its primitive computed, where the call names it by its number
    pub computing : {j : ℕ} {x : Option ℕ} → x ≡ arithmetic (tried_primitive j) (get_or stack (a.end.0 - 2) 0) (get_or stack (a.end.0 - 1) 0) → k ≡ j
        → Computing n b contents bodies stack a next k x
    computing e p =
        record { doing = d; small = small; computed = e ∙ ap (λ (t : ℕ). arithmetic (tried_primitive t) (get_or stack (a.end.0 - 2) 0) (get_or stack (a.end.0 - 1) 0)) (sym p) }

  pub same_two_there : k ≡ 22 → 2 ≤ a.end.0 - a.operands.0
  same_two_there e = S.same_two (here d) e

  pub same_done : (e : k ≡ 22) (w under last : ℕ) (t : StackPosition) (stack' : List ℕ) → under ≡ a.end.0 - 2 → last ≡ a.end.0 - 1 → w ≡ boolean_word (eqb (get_or stack under 0) (get_or stack last 0))
      → t.0 ≡ a.end.0 - 1 → stack' ≡ set stack under w → Says n b contents a bodies stack bodies stack' (Next (record { 0 = next }) t)
  same_done e w under last t stack' p q c u s =
      let o = same_two_there e in
      let z = ends d.active in
      says_answered d 2 w under (record { 0 = next }) t stack' s refl p (omega arith) o
      (λ l r. same_says (here d) e w l (c ∙ ap₂ (λ (x y : ℕ). boolean_word (eqb x y)) (sym (operand_read d 1 under o p)) (sym (operand_read d 0 last special_one q))) r)

  pub class_done : (e : k ≡ 23) (w last : ℕ) (t : StackPosition) (stack' : List ℕ) → last ≡ a.end.0 - 1 → w ≡ class_of (objects_at n b contents bodies) (get_or stack last 0)
      → t.0 ≡ a.end.0 → stack' ≡ set stack last w → Says n b contents a bodies stack bodies stack' (Next (record { 0 = next }) t)
  class_done e w last t stack' p c u s =
      let o = special_one in
      let z = ends d.active in
      says_answered d 1 w last (record { 0 = next }) t stack' s refl p (omega arith) o
      (λ l r. class_says (here d) e w l (c ∙ ap (class_of (objects_at n b contents bodies)) (sym (operand_read d 0 last special_one p))) r)

  pub special_done : (s count : ℕ) → 16 ≤ k → k ≢ 22 → k ≢ 23 → s ≡ special_selector (objects_at n b contents bodies) k → count ≡ special_count k → Sends n b contents bodies stack a next s count
  special_done s count g p q e c = record { active = d.active; sends = special_sends_lem (here d) s count g p q e c }

module _ {n b : ℕ} {contents bodies stack : List ℕ} {a : Active} {next k : ℕ} {x : Option ℕ} (z : Computing n b contents bodies stack a next k x) where
  pub computing_two : 2 ≤ a.end.0 - a.operands.0
  computing_two = two z.doing z.small

  pub computing_ends : Ends a stack
  computing_ends = ends z.doing.active

  computed_here : x ≡ arithmetic (tried_primitive k) (get_or (written a stack) (a.operands.0 + (a.end.0 - a.operands.0 - 2)) 0)
      (get_or (written a stack) (a.operands.0 + (a.end.0 - a.operands.0 - 1)) 0)
  computed_here = z.computed ∙ operands_read z.doing z.small (tried_primitive k) (a.end.0 - 2) (a.end.0 - 1) refl refl

  pub computed_done : (w : ℕ) (e : StackPosition) (stack' : List ℕ) → x ≡ Some w → e.0 ≡ a.end.0 - 1 → stack' ≡ set stack (a.end.0 - 2) w
      → Says n b contents a bodies stack bodies stack' (Next (record { 0 = next }) e)
  computed_done w e stack' y u s =
      let o = computing_two in
      let g = computing_ends in
      says_answered z.doing 2 w (a.end.0 - 2) (record { 0 = next }) e stack' s refl refl (omega arith) o
      (λ l r. arithmetic_says (here z.doing) z.small (tried_primitive k) w x l refl computed_here y r)

  pub failed_sends : (s : ℕ) → x ≡ None → s ≡ special_selector (objects_at n b contents bodies) k → Sends n b contents bodies stack a next s 1
  failed_sends s y u =
      record { active = z.doing.active; sends = arithmetic_sends_lem (here z.doing) z.small (tried_primitive k) s x refl computed_here y u }
