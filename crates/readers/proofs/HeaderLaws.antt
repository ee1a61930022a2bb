-- The bits of a header are those of its method.
use Prim.Native.Nat.{ℕ, ◌+◌, ◌-◌, ◌/◌, ◌%◌, ◌≤◌, ◌<◌}
use mathlib.Core.Path.{◌≡◌, refl, sym, ap, ◌∙◌, subst}
use native.Mathlib.Omega.{arith}
use lib.Dec.{eqb}
use Rattle.bytecode.proofs.Choice.{if_cases, if_le, if_gt, if_eq, if_ne}
use Rattle.model.specs.Limits.{last_count_flag, primitive_flag}
use Rattle.model.specs.Word.{object_number}
use Rattle.model.specs.Objects.{Objects, body_word}
use Rattle.model.specs.Method.{header, flag, literal_count, frame_words, argument_count}
use Rattle.readers.specs.Header.{frame_of}

-- no frame has more words
pub small_frame : (h k : ℕ) → k ≡ frame_of h → k ≤ 32
unfolding frame_of
small_frame h k q = subst (λ (x : ℕ). x ≤ 32) (sym q) (if_cases (λ (x : ℕ). x ≤ 32) (eqb (h / 128 % 2) 1) 32 12 (λ e. omega arith) (λ e. omega arith))

module _ (o : Objects) (m : ℕ) where
  pub frame_of_lem : frame_of (header o m) ≡ frame_words o m
  unfolding frame_of frame_words
  frame_of_lem = refl

  pub frame_is : {h k : ℕ} → h ≡ header o m → k ≡ frame_of h → k ≡ frame_words o m
  frame_is e q = q ∙ ap frame_of e ∙ frame_of_lem

  -- the argument count by the flag
  pub count_low : {f : ℕ} → f ≡ flag o m → f ≤ last_count_flag → f ≡ argument_count o m
  unfolding argument_count
  count_low e l = e ∙ sym (if_le (flag o m) last_count_flag _ _ (omega arith))

  pub count_extended : {f l x : ℕ} → f ≡ flag o m → last_count_flag < f → f ≡ primitive_flag → 2 ≤ literal_count o m → l ≡ literal_count o m
      → x ≡ body_word o (object_number m) l → x / 512 % 32 ≡ argument_count o m
  unfolding argument_count
  count_extended {f} {l} {x} e h p two q w =
      ap (λ (y : ℕ). y / 512 % 32) (w ∙ ap (body_word o (object_number m)) place)
      ∙ sym (if_gt (flag o m) last_count_flag _ _ (omega arith) ∙ if_eq (flag o m) primitive_flag _ _ (sym e ∙ p))
    where
      place : l ≡ 2 + (literal_count o m - 2)
      place = omega arith

  pub count_none : {f : ℕ} → f ≡ flag o m → last_count_flag < f → (f ≡ primitive_flag → ⊥) → 0 ≡ argument_count o m
  unfolding argument_count
  count_none e h p = sym (if_gt (flag o m) last_count_flag _ _ (omega arith) ∙ if_ne (flag o m) primitive_flag _ _ (λ q. p (e ∙ q)))
