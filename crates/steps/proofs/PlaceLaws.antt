-- Places: the words that are read there, and the stores into them.
use Prim.Native.Nat.{ℕ, ◌+◌, ◌-◌, ◌≤◌, ◌<◌}
use mathlib.Core.Path.{◌≡◌, refl, sym, ap, ◌∙◌, subst}
use mathlib.Core.Bool.{Bool, true, false, ◌&&◌}
use mathlib.Core.List.{List}
use mathlib.Core.Option.{Option, none, some}
use native.Mathlib.Omega.{arith}
use lib.Dec.{T, leb, ltb, leb→le, ltb→lt, lt→ltb}
use lib.ListN.{length, get_or, get_elem?, take, set}
use Rattle.bytecode.specs.Test.{when◌then◌else◌}
use Rattle.bytecode.specs.declared.Place.{Place}
use Rattle.bytecode.specs.declared.Place.TheVariants.{Field, Temporary, Literal, LiteralVariable}
use Rattle.bytecode.specs.declared.Instruction.{Instruction}
use Rattle.bytecode.specs.declared.Instruction.TheVariants.{Push}
use Rattle.bytecode.specs.Effect.{need}
use Rattle.bytecode.proofs.Choice.{if_yes}
use Rattle.bytecode.proofs.TestLaws.{T→true, and_left, and_right, and_both}
use Rattle.model.specs.Limits.{fields_kind, method_kind}
use Rattle.model.specs.Word.{object_number}
use Rattle.model.specs.Objects.{Objects, objects_at, is_kind, size, body_word, field_count}
use Rattle.model.specs.Method.{home, temporary_count, literal_count, literal}
use Rattle.model.specs.Rules.{allowed, place_fine, variable_fine, is_writable}
use Rattle.model.specs.Primitive.{store_word}
use Rattle.model.proofs.SendFacts.{receiver_fields}
use Rattle.plain.specs.State.{Frame, moved_to, with_objects}
use Rattle.plain.specs.Step.{leads_to, no_lookup, ◌>>=◌, on_top, popped, field_of, literal_of, read, stored_field, stored, execute}
use Rattle.plain.specs.Flat.{frame_method, frame_receiver, frame_at}
use Rattle.plain.specs.FlatCalls.{at_front}
use Rattle.plain.specs.Running.{Runs, Moved, running_at, top_frame, rest_frames}
use Rattle.plain.proofs.RunningLaws.{top_right, top_bounds, method_is, receiver_is, now_is}
use Rattle.plain.proofs.WriteLaws.{temporary_here}
use Rattle.readers.specs.Places.{Inside}
use Rattle.objects.specs.Lent.{Holds}
use Rattle.objects.proofs.Bodies.{field_inside}
use Rattle.steps.specs.Events.{Here, HereAt, storing, left_by, StoringAt}
use Rattle.steps.proofs.HereLaws.{element_is, operand_is}
use Rattle.frames.proofs.Standing.{holds_method}
use Rattle.steps.proofs.MoveLaws.{Does, all_operands, depth_of, goes_storing}

-- a word with a field
pub record HasField (n b : ℕ) (contents bodies : List ℕ) (w j : ℕ) : Type 0 where
  pub kinds : T (is_kind (objects_at n b contents bodies) fields_kind w)
  pub below : j < size (objects_at n b contents bodies) (object_number w)

module _ {n b top : ℕ} {contents bodies stack : List ℕ} (r : Runs n b top contents bodies stack) where
  abbrev o : Objects
  o = objects_at n b contents bodies

  abbrev f : Frame
  f = top_frame n b top contents bodies stack

  abbrev m : ℕ
  m = frame_method stack top

  pub field_inner : {w j : ℕ} → HasField n b contents bodies w j → Inside n b contents bodies w j
  field_inner {w} {j} h = field_inside j h.below (record { right = (r.edition, r.right); kinds = h.kinds })

  pub field_is : {w j : ℕ} → HasField n b contents bodies w j → field_of o w j ≡ some (body_word o (object_number w) j)
  unfolding field_of
  field_is {w} {j} h =
      if_yes _ _ (T→true (is_kind o fields_kind w && ltb j (size o (object_number w)))
      (and_both (is_kind o fields_kind w) (ltb j (size o (object_number w))) h.kinds (lt→ltb j (size o (object_number w)) h.below)))

  pub own_field : (j : ℕ) → T (place_fine o m (Field j)) → HasField n b contents bodies (frame_receiver stack top) j
  unfolding place_fine frame_at
  own_field j t =
      let x = top_right r in
      let y = receiver_fields r.right f.receiver (home o f.method) j x.receiver x.chain (ltb→lt j (field_count o (home o m)) t) in
      record { kinds = y.0; below = y.1 }

  pub own_inside : (j : ℕ) → T (place_fine o m (Field j)) → Inside n b contents bodies (frame_receiver stack top) j
  own_inside j t = field_inner (own_field j t)

  pub own_read : (j w : ℕ) → T (place_fine o m (Field j)) → w ≡ body_word o (object_number (frame_receiver stack top)) j → read o f (Field j) ≡ some w
  unfolding read
  own_read j w t e = ap (λ (x : ℕ). field_of o x j) (receiver_is r) ∙ field_is (own_field j t) ∙ ap some (sym e)

  pub temporary_below : (j : ℕ) → T (place_fine o m (Temporary j)) → j < temporary_count o m
  unfolding place_fine
  temporary_below j t = ltb→lt j (temporary_count o m) t

  pub temporary_inside : (j : ℕ) → T (place_fine o m (Temporary j)) → (top + 6 + j < length stack) × (top + 6 + j < 65536)
  temporary_inside j t = let k = top_bounds r in let l = temporary_below j t in (omega arith, omega arith)

  pub temporary_at : (j : ℕ) → T (place_fine o m (Temporary j)) → get_elem? f.temporaries j ≡ some (get_or stack (top + 6 + j) 0)
  unfolding frame_at
  temporary_at j t =
      let x = top_right r in
      let l = temporary_below j t in
      let z = x.temporaries in
      element_is f.temporaries j (omega arith) ∙ ap some (sym (temporary_here o stack top f true refl x j l)) ∙ ap (λ (k : ℕ). some (get_or stack k 0)) (omega arith)

  pub temporary_read : (j : ℕ) → T (place_fine o m (Temporary j)) → read o f (Temporary j) ≡ some (get_or stack (top + 6 + j) 0)
  unfolding read
  temporary_read j t = temporary_at j t

  pub literal_below : (j : ℕ) → T (place_fine o m (Literal j)) → j < literal_count o m
  unfolding place_fine
  literal_below j t = ltb→lt j (literal_count o m) t

  pub literal_at : (j w m' : ℕ) → m' ≡ m → j < literal_count o m → w ≡ literal o m' j → literal_of o f.method j ≡ some w
  unfolding literal_of
  literal_at j w m' q t e =
      ap (λ (x : ℕ). when ltb j (literal_count o x) then some (literal o x j) else none) (method_is r)
      ∙ if_yes _ _ (T→true (ltb j (literal_count o m)) (lt→ltb j (literal_count o m) t)) ∙ ap some (ap (λ (x : ℕ). literal o x j) (sym q) ∙ sym e)

  pub literal_read : (j w m' : ℕ) → m' ≡ m → T (place_fine o m (Literal j)) → w ≡ literal o m' j → read o f (Literal j) ≡ some w
  unfolding read
  literal_read j w m' q t e = literal_at j w m' q (literal_below j t) e

  pub variable_below : (j : ℕ) → T (place_fine o m (LiteralVariable j)) → j < literal_count o m
  unfolding place_fine
  variable_below j t = ltb→lt j (literal_count o m) (and_left (ltb j (literal_count o m)) (variable_fine o (literal o m j)) t)

  pub variable_field : (j v m' : ℕ) → m' ≡ m → T (place_fine o m (LiteralVariable j)) → v ≡ literal o m' j → HasField n b contents bodies v 1
  unfolding place_fine variable_fine
  variable_field j v m' q t e =
      let x = literal o m j in
      let y = and_right (ltb j (literal_count o m)) (variable_fine o (literal o m j)) t in
      let e' : v ≡ literal o m j = e ∙ ap (λ (z : ℕ). literal o z j) q in
      subst (λ (z : ℕ). HasField n b contents bodies z 1) (sym e')
      (record {
        kinds = and_left (is_kind o fields_kind x) (leb 2 (size o (object_number x))) y;
        below = leb→le 2 (size o (object_number x))
            (and_right (is_kind o fields_kind x) (leb 2 (size o (object_number x))) y);
      })

  pub variable_inside : (j v m' : ℕ) → m' ≡ m → T (place_fine o m (LiteralVariable j)) → v ≡ literal o m' j → Inside n b contents bodies v 1
  variable_inside j v m' q t e = field_inner (variable_field j v m' q t e)

  pub variable_read : (j v w m' : ℕ) → m' ≡ m → T (place_fine o m (LiteralVariable j)) → v ≡ literal o m' j → w ≡ body_word o (object_number v) 1 → read o f (LiteralVariable j) ≡ some w
  unfolding read
  variable_read j v w m' q t e d =
      ap (λ (z : Option ℕ). elim z as (λ _. Option ℕ) [ none ↦ none | some x ↦ field_of o x 1 ]) (literal_at j v m' q (variable_below j t) e)
      ∙ field_is (variable_field j v m' q t e) ∙ ap some (sym d)

-- the place of a push
pub push_place : {n b top : ℕ} {contents bodies stack : List ℕ} {h : Here} {p : Place} → HereAt n b top contents bodies stack h (Push p)
    → T (place_fine (objects_at n b contents bodies) (frame_method stack top) p)
unfolding allowed frame_at
push_place a = (now_is a.at).allowed

-- what the reader of a literal asks
abbrev pub ReadsLiteral : ℕ → ℕ → List ℕ → List ℕ → ℕ → ℕ → Type 0
ReadsLiteral n b contents bodies w j = Holds method_kind n b contents bodies w × (j < literal_count (objects_at n b contents bodies) w)

pub literal_there : {n b top : ℕ} {contents bodies stack : List ℕ} {h : Here} {i : Instruction} → HereAt n b top contents bodies stack h i → (j : ℕ)
    → j < literal_count (objects_at n b contents bodies) (frame_method stack top) → ReadsLiteral n b contents bodies h.method j
literal_there {n} {b} {contents = contents} {bodies = bodies} a j l =
    (holds_method a.at.runs _ a.is_method, subst (λ (x : ℕ). j < literal_count (objects_at n b contents bodies) x) (sym a.is_method) l)

pub read_as : (o : Objects) (f : Frame) {p p' : Place} {w : ℕ} → p ≡ p' → read o f p' ≡ some w → read o f p ≡ some w
read_as o f e q = ap (read o f) e ∙ q

-- A store of the top operand
module _ {n b top : ℕ} {contents bodies stack : List ℕ} {h : Here} {p : Place} {left : ℕ} (z : StoringAt n b top contents bodies stack h p left) where
  abbrev oₛ : Objects
  oₛ = objects_at n b contents bodies

  abbrev fₛ : Frame
  fₛ = top_frame n b top contents bodies stack

  abbrev restₛ : List Frame
  restₛ = rest_frames n b top contents bodies stack

  pub store_runs : Runs n b top contents bodies stack
  store_runs = z.here.at.runs

  store_allowed : (pop : Bool) → HereAt n b top contents bodies stack h (storing pop p) → T (is_writable p && place_fine oₛ (frame_method stack top) p)
  unfolding allowed frame_at
  store_allowed true a = (now_is a.at).allowed
  store_allowed false a = (now_is a.at).allowed

  pub store_writable : T (is_writable p)
  store_writable = and_left (is_writable p) (place_fine oₛ (frame_method stack top) p) (store_allowed z.pop z.here)

  pub store_place : T (place_fine oₛ (frame_method stack top) p)
  store_place = and_right (is_writable p) (place_fine oₛ (frame_method stack top) p) (store_allowed z.pop z.here)

  needs_one : (pop : Bool) → HereAt n b top contents bodies stack h (storing pop p) → 1 ≤ h.depth
  unfolding need frame_at
  needs_one true a = let x = (now_is a.at).needs in let y = a.is_depth in omega arith
  needs_one false a = let x = (now_is a.at).needs in let y = a.is_depth in omega arith

  pub store_needs : 1 ≤ h.depth
  store_needs = needs_one z.pop z.here

  left_cases : (pop : Bool) → left ≡ left_by pop h.depth → left ≤ h.depth
  left_cases true e = omega arith
  left_cases false e = omega arith

  pub store_left : left ≤ h.depth
  store_left = left_cases z.pop z.after

  abbrev top-word : ℕ
  top-word = get_or stack (h.operands + (h.depth - 1)) 0

  one_less : {i : Instruction} → HereAt n b top contents bodies stack h i → left ≡ h.depth - 1 → fₛ.depth - 1 ≡ left
  one_less a e = let y = depth_of a in omega arith

  -- the step is the store of a word by the frame moved on
  pub stores : Does z.here (λ s room. stored s (moved_to fₛ h.next (take left fₛ.operands)) restₛ p top-word)
  unfolding execute
  stores edition receiver selector room = go z.pop z.here z.after
    where
      go : (pop : Bool) (a : HereAt n b top contents bodies stack h (storing pop p)) → left ≡ left_by pop h.depth
          → execute room (running_at edition receiver selector n b top contents bodies stack) fₛ restₛ h.next (storing pop p) ≡ stored
          (running_at edition receiver selector n b top contents bodies stack) (moved_to fₛ h.next (take left fₛ.operands)) restₛ p top-word
      go true a e =
          ap (λ (x : Option ℕ). x >>= λ w. stored (running_at edition receiver selector n b top contents bodies stack) (popped fₛ h.next 1) restₛ p w)
          (operand_is a 0 (h.operands + (h.depth - 1)) store_needs refl)
          ∙ ap (λ (k : ℕ). stored (running_at edition receiver selector n b top contents bodies stack) (moved_to fₛ h.next (take k fₛ.operands)) restₛ p top-word) (one_less a e)
      go false a e =
          ap (λ (x : Option ℕ). x >>= λ w. stored (running_at edition receiver selector n b top contents bodies stack) (moved_to fₛ h.next fₛ.operands) restₛ p w)
          (operand_is a 0 (h.operands + (h.depth - 1)) store_needs refl)
          ∙ ap (λ (l : List ℕ). stored (running_at edition receiver selector n b top contents bodies stack) (moved_to fₛ h.next l) restₛ p top-word) (sym (all_operands a left e))

  -- a word that has the field
  pub stores_in : (v j : ℕ) (bodies' : List ℕ) → HasField n b contents bodies v j
      → Does z.here (λ s room. stored_field s (moved_to fₛ h.next (take left fₛ.operands)) restₛ v j top-word)
      → bodies' ≡ at_front (store_word oₛ (object_number v) j top-word).bodies bodies
      → Moved n b top contents bodies stack bodies' (set (set stack (top + 1) h.next) (top + 2) left)
  unfolding stored_field
  stores_in v j bodies' q d e =
      goes_storing z.here h.next left (object_number v) j top-word bodies' store_left
      (λ edition receiver selector room. d edition receiver selector room
      ∙ ap (λ (x : Option ℕ). x >>= λ old. leads_to (with_objects (on_top (running_at edition receiver selector n b top contents bodies stack)
      (moved_to fₛ h.next (take left fₛ.operands)) restₛ) (store_word oₛ (object_number v) j top-word)) no_lookup) (field_is store_runs q)) e
