-- Texts stored one behind the other.
use Prim.Native.Nat.{ℕ, ◌+◌, ◌-◌, ◌/◌, ◌%◌, ◌≤◌, ◌<◌}
use mathlib.Core.Path.{◌≡◌, refl, sym, ap, ap₂, subst, ◌∙◌}
use mathlib.Core.List.{List, [], ◌∷◌, ◌++◌, append_assoc}
use borrow.Rule.Slice.PartMut.{put_mid}
use native.Mathlib.Omega.{arith}
use lib.ListN.{length, take, drop, set, length-append}
use lib.Seq.{sets, sets-eq, drop-drop}
use Rattle.model.proofs.Parts.{sets_append}
use Rattle.plain.specs.Text.{decimal}
use Rattle.lines.proofs.Digits.{one_digit, more_digits}

-- the bytes vs from a place on, and the place behind them
abbrev pub Put : List ℕ → ℕ → List ℕ → ℕ → List ℕ → Type 0
Put old at vs end out = (end ≡ at + length vs) × (out ≡ sets old at vs)

pub and_then : (old mid out : List ℕ) (vs ws : List ℕ) (at e f : ℕ) → Put old at vs e mid → Put mid e ws f out → Put old at (vs ++ ws) f out
and_then old mid out vs ws at e f p q = (
  let l = length-append vs ws in let a = p.0 in let b = q.0 in omega arith,
  q.1 ∙ ap₂ (λ (o : List ℕ) (k : ℕ). sets o k ws) p.1 p.0 ∙ sym (sets_append old at vs ws),
)

-- all of them at the front
pub at_front : (old out vs : List ℕ) (e : ℕ) → length vs ≤ length old → Put old 0 vs e out → (e ≡ length vs) × (out ≡ vs ++ drop e old)
at_front old out vs e h p = (there, p.1 ∙ sets-eq vs old 0 (omega arith) ∙ ap (λ (k : ℕ). vs ++ drop k old) (sym p.0))
  where
    there : e ≡ length vs
    there = let a = p.0 in omega arith

-- a text written over a part
pub put_part : (old text new : List ℕ) (at : ℕ) → new ≡ text → at + length text ≤ length old → put_mid at (at + length text - at) old new ≡ sets old at text
put_part old text new at p h =
    ap₂ (λ (k : ℕ) (o : List ℕ). put_mid at k old o) (there at (length text)) p
    ∙ ap (λ (x : List ℕ). take at old ++ (text ++ x)) (drop-drop (length text) at old)
    ∙ sym (append_assoc (take at old) text (drop (at + length text) old))
    ∙ sym (sets-eq text old at h)
  where
    there : (x y : ℕ) → x + y - x ≡ y
    there x y = omega arith

pub put_one : (old : List ℕ) (at n : ℕ) → n < 10 → Put old at (decimal n) (at + 1) (set old at (48 + n))
put_one old at n h = subst (λ (ds : List ℕ). Put old at ds (at + 1) (set old at (48 + n))) (sym (one_digit n h)) (refl, refl)

pub put_more : (old mid : List ℕ) (at n e : ℕ) → 10 ≤ n → Put old at (decimal (n / 10)) e mid → Put old at (decimal n) (e + 1) (set mid e (48 + n % 10))
put_more old mid at n e h p =
    let x = 48 + n % 10 in
    subst (λ (ds : List ℕ). Put old at ds (e + 1) (set mid e x)) (sym (more_digits n h)) (and_then old mid (set mid e x) (decimal (n / 10)) (x ∷ []) at e (e + 1) p (refl, refl))
