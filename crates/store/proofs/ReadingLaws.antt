-- From the number of a verdict to the answer
use Prim.Native.Nat.{ℕ}
use mathlib.Core.Path.{◌≡◌, refl, sym, ap, ◌∙◌}
use mathlib.Core.List.{List}
use native.Mathlib.Omega.{arith}
use lib.Dec.{leb}
use Rattle.bytecode.proofs.Choice.{if_cases}
use Rattle.model.specs.Image.{Room, Verdict, accepted, refused, load_verdict}
use Rattle.model.proofs.OrderLaws.{Positive, load_positive}
use Rattle.store.specs.Answer.{number_of, Stored, stored, stored_by}

stored_number : (v : Verdict) (image contents bodies : List ℕ) → (stored_by v image contents bodies).number ≡ number_of v
unfolding stored_by number_of
stored_number accepted image contents bodies = refl
stored_number (refused k) image contents bodies = if_cases (λ (s : Stored). s.number ≡ k) (leb k 3) _ _ (λ q. refl) (λ q. refl)

number_refused : (v : Verdict) (k : ℕ) → k ≡ number_of v → (k ≡ 0 → ⊥) → refused k ≡ v
unfolding number_of
number_refused accepted k e z = absurd (z e)
number_refused (refused j) k e z = ap refused e

number_accepted : (v : Verdict) → Positive v → 0 ≡ number_of v → accepted ≡ v
unfolding number_of
number_accepted accepted p e = refl
number_accepted (refused j) p e = absurd (omega arith)

module _ (room : Room) (image contents bodies contents' bodies' : List ℕ) (k : ℕ)
    (e : stored k contents' bodies' ≡ stored_by (load_verdict room image) image contents bodies) where
  by_number : k ≡ number_of (load_verdict room image)
  by_number = ap (λ (s : Stored). s.number) e ∙ stored_number (load_verdict room image) image contents bodies

  pub reading_refused : (k ≡ 0 → ⊥) → refused k ≡ load_verdict room image
  reading_refused z = number_refused (load_verdict room image) k by_number z

  pub reading_accepted : k ≡ 0 → accepted ≡ load_verdict room image
  reading_accepted z = number_accepted (load_verdict room image) (load_positive room image) (sym z ∙ by_number)
