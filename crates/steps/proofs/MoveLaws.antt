-- The words that a bytecode writes, and the state that it leads to.
use Prim.Native.Nat.{ℕ, suc, ◌+◌, ◌-◌, ◌≤◌, ◌<◌}
use mathlib.Core.Path.{◌≡◌, refl, sym, ap, ◌∙◌, subst}
use mathlib.Core.Bool.{Bool, true, false}
use mathlib.Core.List.{List, [], ◌∷◌, ◌++◌}
use native.Mathlib.Omega.{arith}
use lib.Dec.{T, ltb→lt}
use lib.ListN.{length, take, set}
use lib.Seq.{take_all}
use Rattle.bytecode.specs.declared.Instruction.{Instruction}
use Rattle.model.specs.Objects.{Objects, objects_at}
use Rattle.model.specs.Method.{temporary_count, frame_words}
use Rattle.model.specs.Depth.{note_at}
use Rattle.model.specs.Rules.{method_table}
use Rattle.model.specs.Primitive.{store_word}
use Rattle.model.specs.Image.{Room}
use Rattle.plain.specs.State.{Frame, Plain, moved_to, with_temporaries, with_objects}
use Rattle.plain.specs.Step.{Stepped, leads_to, no_lookup, provided, on_top, has_word_of, pushed, without, popped, execute}
use Rattle.plain.specs.Flat.{frame_method, frame_at}
use Rattle.plain.specs.FlatCalls.{laid, at_front}
use Rattle.plain.specs.Running.{Moved, running_at, top_frame, rest_frames}
use Rattle.plain.proofs.FrameLaws.{FrameRight}
use Rattle.plain.proofs.StepLaws.{has_word, without_length}
use Rattle.plain.proofs.RunningLaws.{stood, all_right, top_right, top_bounds, method_is, step_is}
use Rattle.plain.proofs.WriteLaws.{moved_writes, pushed_writes, temporary_writes}
use Rattle.objects.proofs.Buffers.{bodies_room, front_same}
use Rattle.steps.specs.Events.{Here, HereAt, answered}
use Rattle.steps.proofs.HereLaws.{bounds}

pub provided_holds : (t : Bool) (x : Stepped) → T t → provided t x ≡ x
provided_holds true x h = refl
provided_holds false x h = absurd h

-- two writes and three, where each place and word is another name of the same
pub same_two : (l : List ℕ) {a a' b b' v v' w w' : ℕ} → a ≡ a' → v ≡ v' → b ≡ b' → w ≡ w' → set (set l a v) b w ≡ set (set l a' v') b' w'
same_two l p q r s = λ j. set (set l (p j) (q j)) (r j) (s j)

pub same_three : (l : List ℕ) {a a' b b' c c' u u' v v' w w' : ℕ} → a ≡ a' → u ≡ u' → b ≡ b' → v ≡ v' → c ≡ c' → w ≡ w'
    → set (set (set l a u) b v) c w ≡ set (set (set l a' u') b' v') c' w'
same_three l p t q r s x = λ j. set (set (set l (p j) (t j)) (q j) (r j)) (s j) (x j)

-- what a bytecode asks that writes a word over the `taken` uppermost operands
abbrev pub Answers : ℕ → List ℕ → Here → ℕ → Type 0
Answers top stack h taken =
    (top + 2 < length stack) × (taken ≤ h.depth) × (h.operands + h.depth ≤ 65536) × (h.operands + (h.depth - taken) < length stack) × (h.depth < 65535) × (h.next < 65536)

module _ {n b top : ℕ} {contents bodies stack : List ℕ} {h : Here} {i : Instruction} (a : HereAt n b top contents bodies stack h i) where
  abbrev o : Objects
  o = objects_at n b contents bodies

  abbrev f : Frame
  f = top_frame n b top contents bodies stack

  abbrev rest : List Frame
  rest = rest_frames n b top contents bodies stack

  abbrev at : ℕ → ℕ → ℕ → Plain
  at edition receiver selector = running_at edition receiver selector n b top contents bodies stack

  -- what the instruction does
  abbrev pub Does : (Plain → Room → Stepped) → Type 0
  Does x = (edition receiver selector : ℕ) (room : Room) → execute room (at edition receiver selector) f rest h.next i ≡ x (at edition receiver selector) room

  -- the top frame becomes another one
  pub moves : (f' : Frame) (stack' : List ℕ) → Does (λ s room. leads_to (on_top s f' rest) no_lookup) → stack' ≡ laid stack top (f' ∷ rest)
      → Moved n b top contents bodies stack bodies stack'
  moves f' stack' e l edition receiver selector room =
      record {
        state = on_top (at edition receiver selector) f' rest;
        steps = step_is a.at edition receiver selector room ∙ e edition receiver selector room;
        registers = refl;
        contents = refl;
        words = sym (front_same b bodies (bodies_room n b contents bodies a.at.runs.right));
        frames = l;
      }

  -- and a word of an object another word
  pub moves_storing : (f' : Frame) (stack' bodies' : List ℕ) (k j w : ℕ) → Does (λ s room. leads_to (with_objects (on_top s f' rest) (store_word o k j w)) no_lookup)
      → stack' ≡ laid stack top (f' ∷ rest) → bodies' ≡ at_front (store_word o k j w).bodies bodies → Moved n b top contents bodies stack bodies' stack'
  unfolding store_word
  moves_storing f' stack' bodies' k j w e l x edition receiver selector room =
      record {
        state = with_objects (on_top (at edition receiver selector) f' rest) (store_word o k j w);
        steps = step_is a.at edition receiver selector room
            ∙ e edition receiver selector room;
        registers = refl;
        contents = refl;
        words = x;
        frames = l;
      }

  abbrev right : FrameRight a.at.runs.edition o true f
  right = top_right a.at.runs

  pub depth_of : f.depth ≡ h.depth
  unfolding frame_at
  depth_of = sym a.is_depth

  first_of : top + (6 + temporary_count o f.method) ≡ h.operands
  unfolding frame_at
  first_of = let x = a.is_operands in omega arith

  pub all_operands : (k : ℕ) → k ≡ h.depth → take k f.operands ≡ f.operands
  all_operands k e = take_all k f.operands (let x = right.depth in let y = depth_of in omega arith)

  -- The frame moves on to q with the first k operands.
  pub goes_on : (q k : ℕ) → k ≤ h.depth → Does (λ s room. leads_to (on_top s (moved_to f q (take k f.operands)) rest) no_lookup)
      → Moved n b top contents bodies stack bodies (set (set stack (top + 1) q) (top + 2) k)
  goes_on q k l e =
      moves (moved_to f q (take k f.operands)) (set (set stack (top + 1) q) (top + 2) k) e
      (sym (moved_writes a.at.runs.edition o stack top (suc top) f rest (all_right a.at.runs) (stood a.at.runs) q k (let x = depth_of in omega arith)))

  -- It moves on with all its operands.
  pub goes_whole : (q : ℕ) → Does (λ s room. leads_to (on_top s (moved_to f q f.operands) rest) no_lookup)
      → Moved n b top contents bodies stack bodies (set (set stack (top + 1) q) (top + 2) h.depth)
  goes_whole q e =
      goes_on q h.depth (omega arith) (λ edition receiver selector room. e edition receiver selector room
      ∙ ap (λ (l : List ℕ). leads_to (on_top (at edition receiver selector) (moved_to f q l) rest) no_lookup) (sym (all_operands h.depth refl)))

  -- It moves on without the uppermost operand.
  pub goes_popped : (q : ℕ) → Does (λ s room. leads_to (on_top s (popped f q 1) rest) no_lookup)
      → Moved n b top contents bodies stack bodies (set (set stack (top + 1) q) (top + 2) (h.depth - 1))
  goes_popped q e =
      goes_on q (h.depth - 1) (omega arith) (λ edition receiver selector room. e edition receiver selector room
      ∙ ap (λ (k : ℕ). leads_to (on_top (at edition receiver selector) (moved_to f q (take (k - 1) f.operands)) rest) no_lookup) depth_of)

  -- It moves on with the first k operands, and a word of an object is stored.
  pub goes_storing : (q k v j w : ℕ) (bodies' : List ℕ) → k ≤ h.depth → Does (λ s room. leads_to (with_objects (on_top s (moved_to f q (take k f.operands)) rest) (store_word o v j w)) no_lookup)
      → bodies' ≡ at_front (store_word o v j w).bodies bodies → Moved n b top contents bodies stack bodies' (set (set stack (top + 1) q) (top + 2) k)
  goes_storing q k v j w bodies' l e x =
      moves_storing (moved_to f q (take k f.operands)) (set (set stack (top + 1) q) (top + 2) k) bodies' v j w e
      (sym (moved_writes a.at.runs.edition o stack top (suc top) f rest (all_right a.at.runs) (stood a.at.runs) q k (let y = depth_of in omega arith))) x

  -- It moves on with the first k operands, and a temporary is stored.
  pub goes_temporary : (q k j w : ℕ) → k ≤ h.depth → j < temporary_count o (frame_method stack top)
      → Does (λ s room. leads_to (on_top s (with_temporaries (moved_to f q (take k f.operands)) (set f.temporaries j w)) rest) no_lookup)
      → Moved n b top contents bodies stack bodies (set (set (set stack (top + 6 + j) w) (top + 1) q) (top + 2) k)
  goes_temporary q k j w l t e =
      moves (with_temporaries (moved_to f q (take k f.operands)) (set f.temporaries j w)) (set (set (set stack (top + 6 + j) w) (top + 1) q) (top + 2) k) e
      (same_three stack (omega arith) refl refl refl refl refl
      ∙ sym (temporary_writes a.at.runs.edition o stack top (suc top) f rest (all_right a.at.runs) (stood a.at.runs) q k j w (let y = depth_of in omega arith)
      (subst (λ (x : ℕ). j < temporary_count o x) (sym (method_is a.at.runs)) t)))

  -- A word in the place of the `taken` uppermost operands
  room_for : (taken : ℕ) → note_at (method_table a.at.runs.edition o (frame_method stack top)) h.next ≡ suc (suc (h.depth - taken)) → temporary_count o (frame_method stack top) +
      (h.depth - taken) < frame_words o (frame_method stack top)
  room_for taken e = ltb→lt (temporary_count o (frame_method stack top) + (h.depth - taken)) (frame_words o (frame_method stack top))
      (has_word a.at.runs.edition o (frame_method stack top) h.next (h.depth - taken) e)

  pub answer_room : (taken : ℕ) → taken ≤ h.depth → note_at (method_table a.at.runs.edition o (frame_method stack top)) h.next ≡ suc (suc (h.depth - taken)) → Answers top stack h taken
  answer_room taken l e =
      let w = room_for taken e in
      let t = top_bounds a.at.runs in
      let s = a.is_operands in
      let k = bounds a in
      (omega arith, l, omega arith, omega arith, omega arith, omega arith)

  pub answers : (taken w : ℕ) → taken ≤ h.depth → note_at (method_table a.at.runs.edition o (frame_method stack top)) h.next ≡ suc (suc (h.depth - taken))
      → Does (λ s room. pushed s f rest h.next (without f taken) w no_lookup)
      → Moved n b top contents bodies stack bodies (answered stack top h taken w)
  unfolding pushed
  answers taken w l e d =
      moves (moved_to f h.next (without f taken ++ (w ∷ []))) (answered stack top h taken w)
      (λ edition receiver selector room. d edition receiver selector room ∙ provided_holds (has_word_of o f (length (without f taken)))
      (leads_to (on_top (at edition receiver selector) (moved_to f h.next (without f taken ++ (w ∷ []))) rest) no_lookup) has)
      (same_three stack (let x = first_of in let y = depth_of in omega arith) refl refl refl refl (let y = depth_of in omega arith)
      ∙ sym (pushed_writes a.at.runs.edition o stack top (suc top) f rest (all_right a.at.runs) (stood a.at.runs) h.next (f.depth - taken) w (omega arith) room))
    where
      room : temporary_count o f.method + (f.depth - taken) < frame_words o f.method
      room =
          subst (λ (x : ℕ). temporary_count o x + (f.depth - taken) < frame_words o x) (sym (method_is a.at.runs))
          (let x = room_for taken e in let y = depth_of in omega arith)

      has : T (has_word_of o f (length (without f taken)))
      has =
          let z = without_length o f right taken (let y = depth_of in omega arith) in
          lib.Dec.lt→ltb (temporary_count o f.method + length (without f taken)) (frame_words o f.method) (let y = room in omega arith)

  -- the same with nothing taken
  pub pushes : (w : ℕ) → note_at (method_table a.at.runs.edition o (frame_method stack top)) h.next ≡ suc (suc (h.depth - 0))
      → Does (λ s room. pushed s f rest h.next f.operands w no_lookup)
      → Moved n b top contents bodies stack bodies (answered stack top h 0 w)
  pushes w e d =
      answers 0 w (omega arith) e
      (λ edition receiver selector room. d edition receiver selector room ∙ ap (λ (l : List ℕ). pushed (at edition receiver selector) f rest h.next l w no_lookup)
      (sym (all_operands (f.depth - 0) (let y = depth_of in omega arith))))
