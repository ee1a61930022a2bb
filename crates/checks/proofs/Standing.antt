-- Where a frame stands, by the tests of the code.
use Prim.Native.Nat.{ℕ, zero, suc, ◌+◌, ◌≤◌, ◌<◌}
use mathlib.Core.Path.{◌≡◌, refl, sym, ◌∙◌}
use mathlib.Core.Bool.{Bool, true, false, not}
use mathlib.Core.List.{List}
use native.Mathlib.Omega.{arith}
use borrow.Author.Tests.{not-true, not-false}
use lib.Dec.{T}
use lib.ListN.{length}
use Rattle.bytecode.proofs.TestLaws.{true→T, and_left, and_right, and_both, never}
use Rattle.bytecode.proofs.Choice.{if_either}
use Rattle.model.specs.Limits.{method_kind, most_stack_words, large_frame_words, small_frame_words}
use Rattle.model.specs.Objects.{Objects, is_kind}
use Rattle.model.specs.Method.{is_large, frame_words, frame_size}
use Rattle.readers.proofs.Loops.{failed}
use Rattle.plain.specs.State.{fits_stack}
use Rattle.plain.specs.Flat.{frame_method}
use Rattle.plain.proofs.FrameLaws.{Fits, fits, fitting}
use Rattle.checks.specs.Frame.{stands_at_of, EndsAt}

pub positive : (k : ℕ) → (k ≡ 0 → ⊥) → 0 < k
positive zero h = absurd (h refl)
positive (suc k) h = omega arith

pub frame_least : (o : Objects) (m : ℕ) → small_frame_words ≤ frame_words o m
unfolding frame_words
frame_least o m = if_either (λ (x : ℕ). small_frame_words ≤ x) (is_large o m) large_frame_words small_frame_words (omega arith) (omega arith)

module _ (o : Objects) (stack : List ℕ) (base : ℕ) where
  pub record Standing : Type 0 where
    pub kinds : T (is_kind o method_kind (frame_method stack base))
    pub inside : base + frame_size o (frame_method stack base) ≤ length stack
    pub most : base + frame_size o (frame_method stack base) ≤ most_stack_words
    pub header : base + 18 ≤ length stack
    pub low : base + 18 ≤ most_stack_words

  pub standing : T (stands_at_of o stack base) → Standing
  unfolding stands_at_of
  standing t =
      let m = frame_method stack base in
      let f = fits (length stack) base (frame_size o m) (and_right (is_kind o method_kind m) (fits_stack (length stack) base (frame_size o m)) t) in
      let l = frame_least o m in
      let i = f.inside in
      let j = f.most in
      record { kinds = and_left (is_kind o method_kind m) (fits_stack (length stack) base (frame_size o m)) t; inside = i; most = j; header = omega arith; low = omega arith }

  pub stands : T (is_kind o method_kind (frame_method stack base)) → Fits (length stack) base (frame_size o (frame_method stack base)) → T (stands_at_of o stack base)
  unfolding stands_at_of
  stands k f =
      let m = frame_method stack base in
      and_both (is_kind o method_kind m) (fits_stack (length stack) base (frame_size o m)) k (fitting (length stack) base (frame_size o m) f)

  end_none : (Standing → ⊥) → stands_at_of o stack base ≡ false
  end_none h = never (stands_at_of o stack base) (λ t. h (standing t))

  pub end_high : 65518 < base → stands_at_of o stack base ≡ false
  end_high h = end_none (λ s. let i = s.low in absurd (omega arith))

  pub end_short : length stack < base + 18 → stands_at_of o stack base ≡ false
  end_short h = end_none (λ s. let i = s.header in absurd (omega arith))

  pub end_other : (x : Bool) → x ≡ is_kind o method_kind (frame_method stack base) → not x ≡ true → stands_at_of o stack base ≡ false
  end_other x k q = end_none (λ s. failed (sym k ∙ not-true x q) s.kinds)

  -- where a frame of its method would end
  module _ (end : ℕ) (e : end ≡ base + frame_size o (frame_method stack base)) where
    pub end_outside : length stack < end → stands_at_of o stack base ≡ false
    end_outside l = end_none (λ s. let i = s.inside in absurd (omega arith))

    pub end_far : 65536 < end → stands_at_of o stack base ≡ false
    end_far l = end_none (λ s. let i = s.most in absurd (omega arith))

    pub end_here : (x : Bool) → x ≡ is_kind o method_kind (frame_method stack base) → not x ≡ false → end ≤ length stack → end ≤ 65536 → EndsAt o stack base end
    end_here x k r l g =
        let f : Fits (length stack) base (frame_size o (frame_method stack base)) = record { inside = omega arith; most = omega arith } in
        record { stands = stands (true→T (sym k ∙ not-false x r)) f; ends = e }
