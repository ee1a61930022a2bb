-- `all` over a range of numbers: 1 to n, or below n.
use Prim.Native.Nat.{ℕ, ◌+◌, ◌-◌}
use mathlib.Core.Path.{◌≡◌, refl, sym, ap, ap₂, ◌∙◌, subst}
use mathlib.Core.Bool.{Bool, true, false}
use mathlib.Core.List.{List, ◌∷◌}
use native.Mathlib.Omega.{arith}
use native.Mathlib.Numerals.{add-one}
use lib.Dec.{T}
use lib.ListN.{length}
use Rattle.std.specs.declared.ops.RangeInclusive.{RangeInclusive}
use Rattle.std.specs.Prelude.{None, Some}
use Rattle.std.specs.List.{range_with_len}
use Rattle.std.specs.Range.{range_inclusive_start, range_inclusive_end, range_inclusive_exhausted, range_inclusive_len, range_inclusive_left, range_inclusive_steps}
use Rattle.std.proofs.lemmas.Iterator.{YieldsList}
use Rattle.std.proofs.lemmas.Iterator.Consumers.{YieldsList-from_shown}
use Rattle.std.proofs.lemmas.List.FromFn.{length-range_with_len, get_or-range_with_len}
use Rattle.bytecode.specs.Test.{up_to, below, every}
use Rattle.bytecode.proofs.TestLaws.{up_to_at, at_up_to, below_at, at_below, every_at, at_every}
use Rattle.model.proofs.Parts.{same_test}

-- the steps of `a..=b` over numbers
abbrev pub gap : ℕ → ℕ → ℕ
gap x y = y - x

abbrev pub follows : ℕ → ℕ → Type 0
follows x y = y ≡ x + 1

abbrev pub left : RangeInclusive ℕ → ℕ
left = range_inclusive_left gap

abbrev shown : RangeInclusive ℕ → List ℕ
shown s = range_with_len (range_inclusive_start s) (left s)

next : (a b n : ℕ) (e : Bool) → (e ≡ true → n ≡ 0) → (e ≡ false → b ≡ a + 1) → range_with_len (a + 1) n ≡ range_with_len b n
next a b n true none more = ap (range_with_len (a + 1)) (none refl) ∙ sym (ap (range_with_len b) (none refl))
next a b n false none more = ap (λ (x : ℕ). range_with_len x n) (sym (more refl))

pub from_one : {s : RangeInclusive ℕ} (n : ℕ) → range_inclusive_start s ≡ 1 → range_inclusive_end s ≡ n → range_inclusive_exhausted s ≡ false
    → YieldsList (range_inclusive_steps gap follows) (λ x. x) s (range_with_len 1 n)
from_one {s} n a b e = subst (λ (l : List ℕ). YieldsList (range_inclusive_steps gap follows) (λ x. x) s l) same (YieldsList-from_shown (range_inclusive_steps gap follows) (λ x. x) shown none some s)
  where
    none : (s t : RangeInclusive ℕ) → range_inclusive_steps gap follows s None t → length (shown s) ≡ 0
    none s t h = length-range_with_len (range_inclusive_start s) (left s) ∙ h.1.0

    some : (s : RangeInclusive ℕ) (x : ℕ) (t : RangeInclusive ℕ) → range_inclusive_steps gap follows s (Some x) t → shown s ≡ x ∷ shown t
    some s x t h =
        ap (range_with_len (range_inclusive_start s)) (sym h.1.1 ∙ add-one (left t))
        ∙ ap₂ ◌∷◌ (sym h.1.0)
        (next (range_inclusive_start s) (range_inclusive_start t) (left t) (range_inclusive_exhausted t)
        (λ p. ap (range_inclusive_len gap (range_inclusive_start t) (range_inclusive_end t)) p) h.1.2)

    count : (n : ℕ) → range_inclusive_len gap 1 n false ≡ n
    count n = omega arith

    same : shown s ≡ range_with_len 1 n
    same = simp (a, b, e, count)

-- the tests of the numbers, as one list
pub up_list : (n : ℕ) (f : ℕ → Bool) → every f (range_with_len 1 n) ≡ up_to n f
up_list n f =
    let l = length-range_with_len 1 n in
    same_test (every f (range_with_len 1 n)) (up_to n f)
    (λ t. at_up_to n f (λ k h g. subst (λ (i : ℕ). T (f i)) (get_or-range_with_len 1 n (k - 1) 0 (omega arith) ∙ omega arith)
    (every_at f (range_with_len 1 n) t (k - 1) (omega arith))))
    (λ t. at_every f (range_with_len 1 n) (λ i h. subst (λ (j : ℕ). T (f j)) (sym (get_or-range_with_len 1 n i 0 (omega arith)))
    (up_to_at n f t (1 + i) (omega arith) (omega arith))))

pub below_list : (n : ℕ) (f : ℕ → Bool) → every f (range_with_len 0 n) ≡ below n f
below_list n f =
    let l = length-range_with_len 0 n in
    same_test (every f (range_with_len 0 n)) (below n f)
    (λ t. at_below n f (λ k h. subst (λ (i : ℕ). T (f i)) (get_or-range_with_len 0 n k 0 h ∙ omega arith)
    (every_at f (range_with_len 0 n) t k (omega arith))))
    (λ t. at_every f (range_with_len 0 n) (λ i h. subst (λ (j : ℕ). T (f j)) (sym (get_or-range_with_len 0 n i 0 (omega arith) ∙ omega arith))
    (below_at n f t i (omega arith))))
