-- Where a running frame stands: numbers, its instruction, its operands.
use Prim.Native.Nat.{ℕ, zero, suc, ◌+◌, ◌-◌, ◌≤◌, ◌<◌}
use mathlib.Core.Path.{◌≡◌, refl, sym, ap, ◌∙◌, subst}
use mathlib.Core.Bool.{true}
use mathlib.Core.List.{List, [], ◌∷◌}
use mathlib.Core.Option.{none, some}
use native.Mathlib.Omega.{arith}
use borrow.Author.Tests.{lt-ltb}
use lib.Dec.{T}
use lib.ListN.{length, get_or, get_elem?}
use Rattle.bytecode.specs.declared.Instruction.{Instruction}
use Rattle.bytecode.proofs.Choice.{if_yes}
use Rattle.bytecode.proofs.TestLaws.{every_at}
use Rattle.model.specs.Word.{is_valid}
use Rattle.model.specs.Objects.{Objects, objects_at}
use Rattle.model.proofs.Facts.{inside}
use Rattle.plain.specs.State.{Frame}
use Rattle.plain.specs.Step.{operand}
use Rattle.plain.specs.Flat.{frame_at}
use Rattle.plain.specs.Running.{top_frame}
use Rattle.plain.proofs.RunningLaws.{top_right, top_bounds}
use Rattle.plain.proofs.WriteLaws.{operand_here}
use Rattle.frames.proofs.Standing.{coded, next_inside}
use Rattle.steps.specs.Events.{Here, HereAt}

-- a list's element, as a read that may find nothing
pub element_is : (l : List ℕ) (i : ℕ) → i < length l → get_elem? l i ≡ some (get_or l i 0)
element_is [] i h = absurd (omega arith)
element_is (x ∷ l) zero h = refl
element_is (x ∷ l) (suc i) h = element_is l i (omega arith)

-- Numbers of the running frame
pub record Bounds (top : ℕ) (stack : List ℕ) (h : Here) : Type 0 where
  pub low : top + 18 ≤ length stack
  pub small : top + 18 ≤ 65536
  pub first : top + 6 ≤ h.operands
  pub inside : h.operands + h.depth ≤ length stack
  pub most : h.operands + h.depth ≤ 65536
  pub deep : h.depth ≤ 32
  pub next : h.next < 65536

module _ {n b top : ℕ} {contents bodies stack : List ℕ} {h : Here} {i : Instruction} (a : HereAt n b top contents bodies stack h i) where
  abbrev oₐ : Objects
  oₐ = objects_at n b contents bodies

  abbrev fₐ : Frame
  fₐ = top_frame n b top contents bodies stack

  pub bounds : Bounds top stack h
  bounds =
      let t = top_bounds a.at.runs in
      let d = a.is_depth in
      let s = a.is_operands in
      let x = a.at.behind in
      let y = next_inside a.at.runs in
      let z = (coded a.at.runs).small in
      record { low = omega arith; small = omega arith; first = omega arith; inside = omega arith; most = omega arith; deep = omega arith; next = omega arith }

  -- the operand under k others
  pub operand_is : (k at : ℕ) → k < h.depth → at ≡ h.operands + (h.depth - suc k) → operand fₐ k ≡ some (get_or stack at 0)
  unfolding operand frame_at
  operand_is k at l e =
      let r = top_right a.at.runs in
      let d = r.depth in
      let z = a.is_depth in
      let y = a.is_operands in
      if_yes (get_elem? fₐ.operands (fₐ.depth - suc k)) none (lt-ltb k fₐ.depth (omega arith))
      ∙ element_is fₐ.operands (fₐ.depth - suc k) (omega arith)
      ∙ ap some (sym (operand_here oₐ stack top fₐ true refl r (fₐ.depth - suc k) (omega arith)))
      ∙ ap (λ (x : ℕ). some (get_or stack x 0)) (omega arith)

  pub operand_valid : (k at : ℕ) → k < h.depth → at ≡ h.operands + (h.depth - suc k) → T (is_valid n (get_or stack at 0))
  unfolding frame_at
  operand_valid k at l e =
      let r = top_right a.at.runs in
      let d = r.depth in
      let z = a.is_depth in
      let y = a.is_operands in
      subst (λ (x : ℕ). T (is_valid n x)) (sym (operand_here oₐ stack top fₐ true refl r (fₐ.depth - suc k) (omega arith)) ∙ ap (λ (x : ℕ). get_or stack x 0) (omega arith))
      (every_at (is_valid n) fₐ.operands r.valid_operands (fₐ.depth - suc k) (omega arith))
