-- A running handler's top frame, and the step that it is about to make.
use Prim.Native.Nat.{ℕ, suc, ◌+◌, ◌≤◌}
use mathlib.Core.Path.{◌≡◌, refl, sym, subst}
use mathlib.Core.Bool.{true}
use mathlib.Core.List.{List, [], ◌∷◌}
use native.Mathlib.Omega.{arith}
use lib.Dec.{T}
use lib.ListN.{length}
use Rattle.bytecode.specs.Code.{decode_at}
use Rattle.bytecode.specs.declared.Instruction.{Instruction}
use Rattle.bytecode.proofs.Choice.{if_cases}
use Rattle.model.specs.Limits.{method_kind}
use Rattle.model.specs.Objects.{Objects, objects_at, is_kind}
use Rattle.model.specs.Method.{temporary_count, frame_words, frame_size, is_large, code_words, code_size}
use Rattle.model.specs.Image.{Room}
use Rattle.plain.specs.State.{Frame}
use Rattle.plain.specs.Step.{execute, step_frame, step}
use Rattle.plain.specs.Flat.{frame_depth, frame_method, frame_position, frame_receiver, frame_at, frames_from}
use Rattle.plain.specs.Running.{Runs, At, running_at, top_frame, rest_frames}
use Rattle.plain.proofs.FrameLaws.{FrameRight, FramesRight, Fits, frames_right, depth_within}
use Rattle.plain.proofs.NowLaws.{Now, now}

-- frames have 12 or 32 words for temporaries and operands
pub words_cases : (o : Objects) (m : ℕ) → (12 ≤ frame_words o m) × (frame_words o m ≤ 32)
unfolding frame_words
words_cases o m = if_cases (λ (k : ℕ). (12 ≤ k) × (k ≤ 32)) (is_large o m) 32 12 (λ e. (omega arith, omega arith)) (λ e. (omega arith, omega arith))

-- Numbers of the top frame
pub record TopBounds (o : Objects) (top : ℕ) (stack : List ℕ) : Type 0 where
  pub inside : top + (6 + frame_words o (frame_method stack top)) ≤ length stack
  pub most : top + (6 + frame_words o (frame_method stack top)) ≤ 65536
  pub holds : temporary_count o (frame_method stack top) + frame_depth stack top ≤ frame_words o (frame_method stack top)
  pub least : 12 ≤ frame_words o (frame_method stack top)
  pub limit : frame_words o (frame_method stack top) ≤ 32

module _ {n b top : ℕ} {contents bodies stack : List ℕ} (r : Runs n b top contents bodies stack) where
  abbrev o : Objects
  o = objects_at n b contents bodies

  abbrev f : Frame
  f = top_frame n b top contents bodies stack

  abbrev rest : List Frame
  rest = rest_frames n b top contents bodies stack

  pub stood : frames_from (suc top) o stack top ≡ f ∷ rest
  unfolding frames_from
  stood = refl

  pub all_right : FramesRight r.edition o (length stack) true top (f ∷ rest)
  all_right = subst (FramesRight r.edition o (length stack) true top) stood (frames_right r.edition o (length stack) true top (frames_from (suc top) o stack top) r.frames)

  first_right : (fs : List Frame) → FramesRight r.edition o (length stack) true top (f ∷ fs) → FrameRight r.edition o true f × Fits (length stack) top (frame_size o f.method)
  first_right [] x = (x.0, x.1)
  first_right (g ∷ fs) x = (x.0, x.1)

  pub top_right : FrameRight r.edition o true f
  top_right = (first_right rest all_right).0

  -- the top frame's fields are words of the stack
  pub method_is : f.method ≡ frame_method stack top
  unfolding frame_at
  method_is = refl

  pub receiver_is : f.receiver ≡ frame_receiver stack top
  unfolding frame_at
  receiver_is = refl

  pub is_method : T (is_kind o method_kind (frame_method stack top))
  is_method = subst (λ (m : ℕ). T (is_kind o method_kind m)) method_is top_right.is_method

  pub top_bounds : TopBounds o top stack
  unfolding frame_at
  top_bounds =
      let x = (first_right rest all_right).1 in
      let w = words_cases o (frame_method stack top) in
      record { inside = x.inside; most = x.most; holds = depth_within o true f top_right; least = w.0; limit = w.1 }

-- The instruction that is about to be done, as the definitions have it
module _ {n b top position : ℕ} {contents bodies stack : List ℕ} {i : Instruction} (a : At n b top contents bodies stack position i) where
  abbrev oₐ : Objects
  oₐ = objects_at n b contents bodies

  abbrev fₐ : Frame
  fₐ = top_frame n b top contents bodies stack

  pub step_is : (e receiver selector : ℕ) (room : Room)
      → step room (running_at e receiver selector n b top contents bodies stack) ≡ execute room (running_at e receiver selector n b top contents bodies stack) fₐ
      (rest_frames n b top contents bodies stack) position i
  unfolding step step_frame frames_from frame_at
  step_is e receiver selector room =
      λ j. execute room (running_at e receiver selector n b top contents bodies stack) fₐ (rest_frames n b top contents bodies stack) (sym a.behind j) (sym a.decoded j)

  -- and what holds of it
  pub now_is : Now a.runs.edition oₐ fₐ position i
  unfolding frame_at
  now_is =
      let x = now oₐ fₐ (top_right a.runs) in
      subst (λ (j : Instruction). Now a.runs.edition oₐ fₐ position j) (sym a.decoded)
      (subst (λ (q : ℕ). Now a.runs.edition oₐ fₐ q (decode_at (code_words oₐ (frame_method stack top)) (code_size oₐ (frame_method stack top)) (frame_position stack top))) (sym a.behind) x)
