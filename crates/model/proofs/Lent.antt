-- Right objects lie inside the buffers that hold them, at their fronts.
use Prim.Native.Nat.{ℕ, ◌+◌, ◌*◌, ◌-◌, ◌≤◌}
use mathlib.Core.Path.{◌≡◌, sym, ap, ◌∙◌}
use mathlib.Core.List.{List, ◌++◌}
use native.Mathlib.Omega.{arith}
use lib.ListN.{length, take, drop, length-take, length-append, length-drop, take-append-drop}
use lib.Seq.{length-take-le, take_at, drop-append-add, drop-drop}
use Rattle.model.specs.Limits.{entry_words}
use Rattle.model.specs.Objects.{Objects, objects_at, at_front}
use Rattle.model.specs.Rules.{Right}

pub objects_eq : {n n' b b' : ℕ} {c c' d d' : List ℕ} → n ≡ n' → b ≡ b' → c ≡ c' → d ≡ d'
    → ◌≡◌ {A = Objects} (record { n = n; b = b; contents = c; bodies = d }) (record { n = n'; b = b'; contents = c'; bodies = d' })
objects_eq p q r s = λ i. record { n = p i; b = q i; contents = r i; bodies = s i }

module _ {e : ℕ} (n b : ℕ) (contents bodies : List ℕ) (r : Right e (objects_at n b contents bodies)) where
  pub contents_room : entry_words * n ≤ length contents
  contents_room = let q = r.contents in let l = length-take (entry_words * n) contents in omega arith

  pub bodies_room : b ≤ length bodies
  bodies_room = let q = r.bodies in let l = length-take b bodies in omega arith

-- words that stand at the front, put there again
pub front_same : (k : ℕ) (buffer : List ℕ) → k ≤ length buffer → take k buffer ++ drop (length (take k buffer)) buffer ≡ buffer
front_same k buffer h = ap (λ (x : ℕ). take k buffer ++ drop x buffer) (length-take-le k buffer h) ∙ take-append-drop k buffer

-- words at the front of a buffer that is long enough
pub front_length : (ws buffer : List ℕ) → length ws ≤ length buffer → length (at_front ws buffer) ≡ length buffer
front_length ws buffer h =
    length-append ws (drop (length ws) buffer) ∙ ap (λ (k : ℕ). length ws + k) (length-drop (length ws) buffer) ∙ omega arith

pub front_take : (ws buffer : List ℕ) (n : ℕ) → length ws ≡ n → take n (at_front ws buffer) ≡ ws
front_take ws buffer n e = take_at ws (drop (length ws) buffer) n e

-- and over other words at the front that are no more
pub front_over : (ws us buffer : List ℕ) → length us ≤ length ws → length us ≤ length buffer → at_front ws (at_front us buffer) ≡ at_front ws buffer
front_over ws us buffer h g =
    let e : length ws ≡ length us + (length ws - length us) = omega arith in
    ap (λ (l : List ℕ). ws ++ l)
    (ap (λ (k : ℕ). drop k (us ++ drop (length us) buffer)) e ∙ drop-append-add us (drop (length us) buffer) (length ws - length us) ∙ drop-drop (length ws - length us) (length us) buffer
    ∙ ap (λ (k : ℕ). drop k buffer) (sym e))
