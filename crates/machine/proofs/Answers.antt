-- Check's answer, and what follows it.
use Prim.Native.Nat.{ℕ}
use mathlib.Core.Path.{◌≡◌, refl, sym, ◌∙◌}
use mathlib.Core.Bool.{Bool, true, false}
use mathlib.Core.List.{List}
use lib.Dec.{T}
use lib.ListN.{length}
use Rattle.std.specs.Prelude.{Result, Ok, Err}
use Rattle.std.specs.Result.{is_err}
use Rattle.std.proofs.lemmas.Bool.{false≢true}
use Rattle.model.specs.declared.numbers.Refusal.{Refusal}
use Rattle.store.specs.Readings.{refusal_number}
use Rattle.store.proofs.Refusals.{number_some}
use Rattle.bytecode.proofs.TestLaws.{true→T}
use Rattle.model.specs.Image.{accepted, refused, buffers_fine}
use Rattle.store.specs.Answer.{room_for}
use Rattle.plain.specs.Flat.{room_of}
use Rattle.plain.specs.Check.{check, state_fine}
use Rattle.plain.specs.Running.{room_at}
use Rattle.machine.specs.declared.Registers.{Registers}
use Rattle.machine.specs.State.{state}
use Rattle.machine.proofs.Calling.{check_3, check_11, check_yes}

-- a result that is an error, and one that is none
pub number_err : {A : Type 0} (x : Result A Refusal) → is_err x ≡ true → refusal_number x ≡ 0 → ⊥
number_err (Ok y) e z = false≢true e
number_err (Err k) e z = number_some k z

pub number_ok : {A : Type 0} (x : Result A Refusal) → is_err x ≡ false → refusal_number x ≡ 0
number_ok (Ok y) e = refl
number_ok (Err k) e = absurd (false≢true (sym e))

module _ (r : Registers) (contents bodies stack cache : List ℕ) where
  same-buffers : buffers_fine (room_of (state r contents bodies stack cache)) r.n r.b ≡ buffers_fine (room_for (length contents) (length bodies) (length cache)) r.n r.b
  unfolding buffers_fine
  same-buffers = refl

  module _ (x : Bool) (e : x ≡ buffers_fine (room_for (length contents) (length bodies) (length cache)) r.n r.b) where
    pub answers-3 : x ≡ false → refused 3 ≡ check (state r contents bodies stack cache)
    answers-3 q = check_3 (state r contents bodies stack cache) (same-buffers ∙ sym e ∙ q)

    pub buffers-pass : x ≡ true → T (buffers_fine (room_at contents bodies stack cache) r.n r.b)
    buffers-pass q = true→T (same-buffers ∙ sym e ∙ q)

    module _ (y : Bool) (f : y ≡ state_fine (state r contents bodies stack cache)) (q : x ≡ true) where
      pub answers-11 : y ≡ false → refused 11 ≡ check (state r contents bodies stack cache)
      answers-11 p = check_11 (state r contents bodies stack cache) (same-buffers ∙ sym e ∙ q) (sym f ∙ p)

      pub answers-yes : y ≡ true → accepted ≡ check (state r contents bodies stack cache)
      answers-yes p = check_yes (state r contents bodies stack cache) (same-buffers ∙ sym e ∙ q) (sym f ∙ p)
