-- Equal tests, parts of a list of words, and stores into one.
use Prim.Native.Nat.{ℕ, zero, suc, ◌+◌, ◌≤◌, ◌<◌}
use mathlib.Core.Path.{◌≡◌, refl, sym, ap, ap₂, ◌∙◌, subst}
use mathlib.Core.Bool.{Bool, true, false, ◌&&◌, ◌||◌}
use mathlib.Core.List.{List, [], ◌∷◌, ◌++◌}
use native.Mathlib.Omega.{arith}
use native.Mathlib.Decide.{dec_le}
use lib.Dec.{T}
use lib.ListN.{length, get_or, set, drop, length-drop}
use lib.Seq.{sets, length-take-le, get_or-take, get_or-drop, ext_get_or}
use Rattle.bytecode.specs.Test.{up_to, below, every, implies}
use Rattle.bytecode.proofs.TestLaws.{and_left, and_right, and_both, up_to_at, at_up_to}
use Rattle.model.specs.Objects.{part}

-- one rule of a list after another
infixr 3 ◌also◌
pub ◌also◌ : {A B : Type 0} → A → B → A × B
a also b = (a, b)

-- Two tests that follow from each other are equal.
pub same_test : (a b : Bool) → (T a → T b) → (T b → T a) → a ≡ b
same_test true true f g = refl
same_test true false f g = absurd (f tt)
same_test false true f g = absurd (g tt)
same_test false false f g = refl

pub implying : (a b : Bool) → (T a → T b) → T (implies a b)
implying true b f = f tt
implying false b f = tt

pub or_left : (a b : Bool) → T a → T (a || b)
or_left true b t = tt
or_left false b t = absurd t

pub or_right : (a b : Bool) → T b → T (a || b)
or_right true b t = tt
or_right false b t = t

pub below_same : (n : ℕ) (f g : ℕ → Bool) → ((k : ℕ) → k < n → g k ≡ f k) → below n g ≡ below n f
below_same zero f g h = refl
below_same (suc n) f g h = ap₂ ◌&&◌ (h n (omega arith)) (below_same n f g (λ k l. h k (omega arith)))

-- a test of a longer range, which passes at what is new
longer : (n : ℕ) (f g : ℕ → Bool) (k : ℕ) → (k ≤ n → g k ≡ f k) → (n < k → T (g k)) → (k ≤ n → T (f k)) → Dec (k ≤ n) → T (g k)
longer n f g k same new old (yes h) = subst T (sym (same h)) (old h)
longer n f g k same new old (no h) = new (omega arith)

pub up_to_same : (n m : ℕ) (f g : ℕ → Bool) → n ≤ m → ((k : ℕ) → 1 ≤ k → k ≤ n → g k ≡ f k) → ((k : ℕ) → n < k → k ≤ m → T (g k)) → up_to m g ≡ up_to n f
up_to_same n m f g h same new =
    same_test (up_to m g) (up_to n f) (λ t. at_up_to n f (λ k a b. subst T (same k a b) (up_to_at m g t k a (omega arith))))
    (λ t. at_up_to m g (λ k a b. longer n f g k (same k a) (λ l. new k l b) (up_to_at n f t k a) (dec_le k n)))

pub every_more : (f g : ℕ → Bool) (l : List ℕ) → ((x : ℕ) → T (f x) → T (g x)) → T (every f l) → T (every g l)
every_more f g [] h t = tt
every_more f g (x ∷ xs) h t = and_both (g x) (every g xs) (h x (and_left (f x) (every f xs) t)) (every_more f g xs h (and_right (f x) (every f xs) t))

-- A part that is inside has its length, and its words are those of the whole.
pub length_part : (ws : List ℕ) (from count : ℕ) → from + count ≤ length ws → length (part ws from count) ≡ count
length_part ws from count h = let e = length-drop from ws in length-take-le count (drop from ws) (omega arith)

pub part_at : (ws : List ℕ) (from count i : ℕ) → i < count → get_or (part ws from count) i 0 ≡ get_or ws (from + i) 0
part_at ws from count i h = get_or-take count (drop from ws) i 0 h ∙ get_or-drop from ws i 0

pub part_same : (xs ys : List ℕ) (from count : ℕ) → from + count ≤ length xs → from + count ≤ length ys
    → ((i : ℕ) → i < count → get_or ys (from + i) 0 ≡ get_or xs (from + i) 0) → part ys from count ≡ part xs from count
part_same xs ys from count h g same =
    let a = length_part xs from count h in
    let b = length_part ys from count g in
    ext_get_or 0 (part ys from count) (part xs from count) (b ∙ sym a)
    (λ i l. part_at ys from count i (omega arith) ∙ same i (omega arith) ∙ sym (part_at xs from count i (omega arith)))

-- Stores one after the other
pub sets_append : (l : List ℕ) (i : ℕ) (vs ws : List ℕ) → sets l i (vs ++ ws) ≡ sets (sets l i vs) (i + length vs) ws
sets_append l i [] ws = ap (λ (k : ℕ). sets l k ws) (there i)
  where
    there : (i : ℕ) → i ≡ i + 0
    there i = omega arith
sets_append l i (v ∷ vs) ws = sets_append (set l i v) (suc i) vs ws ∙ ap (λ (k : ℕ). sets (sets (set l i v) (suc i) vs) k ws) (there i (length vs))
  where
    there : (i k : ℕ) → suc i + k ≡ i + suc k
    there i k = omega arith
