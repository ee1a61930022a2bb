-- The rule of a send, and of the methods under object 6, by the counts.
use Prim.Native.Nat.{ℕ, suc, ◌+◌, ◌/◌, ◌%◌, ◌≤◌, ◌<◌}
use mathlib.Core.Path.{◌≡◌, sym, ap, ◌∙◌}
use mathlib.Core.Logic.{◌⊎◌, inl, inr}
use mathlib.Core.Bool.{Bool, true, false, ◌&&◌, ◌||◌}
use mathlib.Core.List.{List}
use native.Mathlib.Omega.{arith}
use borrow.Author.Tests.{eq-eqb, ne_eqb}
use lib.Dec.{T, eqb, eqb→eq}
use lib.ListN.{length, get_or}
use Rattle.bytecode.specs.Test.{implies}
use Rattle.bytecode.specs.Constant.{nil_word}
use Rattle.bytecode.proofs.TestLaws.{true→T, or_cases}
use Rattle.model.specs.Limits.{has_messages, bytes_kind}
use Rattle.model.specs.Word.{failure_selector}
use Rattle.model.specs.Objects.{Objects, objects_at, is_kind, is_nil_or}
use Rattle.model.specs.Rules.{takes_count, send_fine, failure_methods_fine}
use Rattle.model.proofs.ChainLaws.{named}
use Rattle.methods.specs.Asked.{SendAsked}
use Rattle.methods.specs.Counts.{Counts}
use Rattle.methods.proofs.CountLaws.{takes_by_counts}

-- the count under a selector
module _ (counts : List ℕ) (s a : ℕ) where
  pub none_under : get_or counts (s / 2) 0 ≡ 0 → (o : Objects) → Counts o counts → s % 2 ≡ 0 → true ≡ takes_count o s a
  none_under z o h e = sym (takes_by_counts o counts h s a e ∙ ap (λ (x : Bool). x || eqb (get_or counts (s / 2) 0) (suc a)) (eq-eqb (get_or counts (s / 2) 0) 0 z))

  pub count_under : (get_or counts (s / 2) 0 ≡ 0 → ⊥) → (o : Objects) → Counts o counts → s % 2 ≡ 0 → eqb (get_or counts (s / 2) 0) (a + 1) ≡ takes_count o s a
  count_under z o h e =
      ap (eqb (get_or counts (s / 2) 0)) (plus_one a)
      ∙ sym (takes_by_counts o counts h s a e ∙ ap (λ (x : Bool). x || eqb (get_or counts (s / 2) 0) (suc a)) (ne_eqb (get_or counts (s / 2) 0) 0 z))
    where
      plus_one : (x : ℕ) → x + 1 ≡ suc x
      plus_one x = omega arith

-- a send
module _ (n b : ℕ) (contents bodies counts : List ℕ) (p : SendAsked n b contents bodies counts) (s : ℕ) where
  abbrev o : Objects
  o = objects_at n b contents bodies

  record Place : Type 0 where
    even : s % 2 ≡ 0
    most : s / 2 ≤ n

  place : T (is_nil_or o bytes_kind s) → Place
  place t = go (or_cases (eqb s nil_word) (is_kind o bytes_kind s) t)
    where
      go : T (eqb s nil_word) ⊎ T (is_kind o bytes_kind s) → Place
      go (inl x) = let e = eqb→eq s nil_word x in let l = p.least in record { even = omega arith; most = omega arith }
      go (inr x) = let h = named o bytes_kind s x in record { even = h.even; most = h.most }

  pub no_selector : (a : ℕ) → is_nil_or o bytes_kind s ≡ false → false ≡ send_fine o s a
  unfolding send_fine
  no_selector a e = sym (ap (λ (x : Bool). x && takes_count o s a) e)

  pub selector_inside : is_nil_or o bytes_kind s ≡ true → s / 2 < length counts
  selector_inside e = let h = (place (true→T e)).most in let l = p.long in omega arith

  pub by_count : (a : ℕ) {r : Bool} → is_nil_or o bytes_kind s ≡ true → ((o : Objects) → Counts o counts → s % 2 ≡ 0 → r ≡ takes_count o s a) → r ≡ send_fine o s a
  unfolding send_fine
  by_count a e h = h o p.counted (place (true→T e)).even ∙ sym (ap (λ (x : Bool). x && takes_count o s a) e)

-- the methods under object 6
module _ (e : ℕ) (o : Objects) where
  pub no_failures : has_messages e ≡ false → true ≡ failure_methods_fine e o
  unfolding failure_methods_fine
  no_failures h = sym (ap (λ (x : Bool). implies x (takes_count o failure_selector 1)) h)

  pub by_failures : has_messages e ≡ true → takes_count o failure_selector 1 ≡ failure_methods_fine e o
  unfolding failure_methods_fine
  by_failures h = sym (ap (λ (x : Bool). implies x (takes_count o failure_selector 1)) h)
