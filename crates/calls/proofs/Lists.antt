-- Lists of calls in words, and the words of their answers.
use Prim.Native.Nat.{ℕ, zero, suc, ◌+◌, ◌*◌, ◌-◌, ◌≤◌, ◌<◌}
use mathlib.Core.Path.{◌≡◌, refl, sym, ap, ◌∙◌}
use mathlib.Core.List.{List, [], ◌∷◌, ◌++◌, append_assoc}
use native.Mathlib.Omega.{arith}
use native.Mathlib.Decide.{dec_lt, ℕ_discrete}
use borrow.Author.Tests.{lt-ltb, le-ltb, le-leb, lt-leb, eq-eqb, ne_eqb}
use lib.Dec.{ltb, eqb}
use lib.ListN.{length, get_or, take, drop, length-append}
use lib.Seq.{sets, sets-eq, drop-drop, take_at, drop_at, length-take-le}
use borrow.Rule.Slice.PartMut.{put_mid}
use Rattle.std.specs.Prelude.{Option, Some, None, MatchOption, SomeIff}
use Rattle.bytecode.specs.Test.{when◌then◌else◌}
use Rattle.bytecode.proofs.Choice.{if_yes, if_no}
use Rattle.model.specs.Objects.{part}
use Rattle.plain.specs.Calls.{Call, begin_call, run_call, drop_call, forget_call, Answer, done, refused_by, result, wrote}
use Rattle.plain.specs.Flat.{Flat}
use Rattle.plain.specs.FlatCalls.{Given, gives, flat_call}
use Rattle.plain.specs.CallLists.{next_state, last_state}
use Rattle.calls.specs.Encoding.{size_at, run_length, begin_at, call_at, unless_none, calls_from, calls_of, answer_size, high_word, low_word, answer_words}
use Rattle.calls.specs.Listing.{listed}
use Rattle.calls.specs.declared.Listed.TheVariants as L
use Rattle.calls.specs.Plays.{answered, answers_of}

-- The encoding, computed: begin with two arguments, run of 65538, drop, forget; then a run that is not whole
calls_of_example : calls_of (0 ∷ 36 ∷ 28 ∷ 2 ∷ 7 ∷ 9 ∷ 1 ∷ 1 ∷ 2 ∷ 2 ∷ 3 ∷ 1 ∷ 5 ∷ []) ≡ begin_call 36 28 (7 ∷ 9 ∷ []) ∷ run_call 65538 ∷ drop_call ∷ forget_call ∷ []
unfolding calls_of calls_from size_at call_at begin_at run_length when◌then◌else◌
calls_of_example = refl

-- an unknown first word, and no words, end the list
unknown_example : calls_of (3 ∷ 4 ∷ 3 ∷ []) ≡ forget_call ∷ []
unfolding calls_of calls_from size_at call_at begin_at run_length when◌then◌else◌
unknown_example = refl

-- ---- the call at a position

not_le : (m n : ℕ) → (m ≤ n → ⊥) → n < m
not_le m n h = go (dec_lt n m)
  where
    go : Dec (n < m) → n < m
    go (yes l) = l
    go (no l) = absurd (h (omega arith))

module _ (words : List ℕ) (i : ℕ) where
  -- the size, where a call stands at i
  abbrev Sized : Option ℕ → Type 0
  Sized r = MatchOption r (size_at words i ≡ 0) (λ size. (size ≡ size_at words i) × (1 ≤ size))

  pub size_past : length words ≤ i → size_at words i ≡ 0
  unfolding size_at
  size_past h = if_yes _ _ (le-leb (length words) i h)

  module _ (inside : i < length words) where
    size_in : size_at words i
        ≡ (when eqb (get_or words i 0) 0
        then (when ltb (length words - i) 4 then 0 else when ltb (length words - i) (4 + get_or words (i + 3) 0) then 0 else (4 + get_or words (i + 3) 0)) else
        when eqb (get_or words i 0) 1 then (when ltb (length words - i) 3 then 0 else 3) else
        when eqb (get_or words i 0) 2 then 1 else
        when eqb (get_or words i 0) 3 then 1 else 0)
    unfolding size_at
    size_in = if_no _ _ (lt-leb (length words) i inside)

    module _ (k : get_or words i 0 ≡ 0) where
      pub size_begin_short : length words - i < 4 → size_at words i ≡ 0
      size_begin_short h = size_in ∙ if_yes _ _ (eq-eqb (get_or words i 0) 0 k) ∙ if_yes _ _ (lt-ltb (length words - i) 4 h)

      pub size_begin_cut : 4 ≤ length words - i → length words - i < 4 + get_or words (i + 3) 0 → size_at words i ≡ 0
      size_begin_cut h l =
          size_in ∙ if_yes _ _ (eq-eqb (get_or words i 0) 0 k) ∙ if_no _ _ (le-ltb (length words - i) 4 h)
          ∙ if_yes _ _ (lt-ltb (length words - i) (4 + get_or words (i + 3) 0) l)

      pub size_begin : 4 ≤ length words - i → 4 + get_or words (i + 3) 0 ≤ length words - i → size_at words i ≡ 4 + get_or words (i + 3) 0
      size_begin h l =
          size_in ∙ if_yes _ _ (eq-eqb (get_or words i 0) 0 k) ∙ if_no _ _ (le-ltb (length words - i) 4 h)
          ∙ if_no _ _ (le-ltb (length words - i) (4 + get_or words (i + 3) 0) l)

      pub sized_begin : 4 ≤ length words - i → (r : Option ℕ) → SomeIff r (4 + get_or words (i + 3) 0 ≤ length words - i) (4 + get_or words (i + 3) 0) → Sized r
      sized_begin h None e = size_begin_cut h (not_le _ _ e)
      sized_begin h (Some n) e = (e.1 ∙ sym (size_begin h e.0), let q = e.1 in omega arith)

      pub begin_fits : 1 ≤ size_at words i → i + (4 + get_or words (i + 3) 0) ≤ length words
      begin_fits s = go (dec_lt (length words - i) 4) (dec_lt (length words - i) (4 + get_or words (i + 3) 0))
        where
          go : Dec (length words - i < 4) → Dec (length words - i < 4 + get_or words (i + 3) 0) → i + (4 + get_or words (i + 3) 0) ≤ length words
          go (yes a) b = let e = size_begin_short a in absurd (omega arith)
          go (no a) (yes b) = let e = size_begin_cut (omega arith) b in absurd (omega arith)
          go (no a) (no b) = omega arith

    module _ (k : get_or words i 0 ≡ 1) where
      not_0 : get_or words i 0 ≡ 0 → ⊥
      not_0 z = omega arith

      pub size_run_short : length words - i < 3 → size_at words i ≡ 0
      size_run_short h =
          size_in ∙ if_no _ _ (ne_eqb (get_or words i 0) 0 not_0) ∙ if_yes _ _ (eq-eqb (get_or words i 0) 1 k) ∙ if_yes _ _ (lt-ltb (length words - i) 3 h)

      pub size_run : 3 ≤ length words - i → size_at words i ≡ 3
      size_run h =
          size_in ∙ if_no _ _ (ne_eqb (get_or words i 0) 0 not_0) ∙ if_yes _ _ (eq-eqb (get_or words i 0) 1 k) ∙ if_no _ _ (le-ltb (length words - i) 3 h)

      pub sized_run : (r : Option ℕ) → SomeIff r (3 ≤ length words - i) 3 → Sized r
      sized_run None e = size_run_short (not_le _ _ e)
      sized_run (Some n) e = (e.1 ∙ sym (size_run e.0), let q = e.1 in omega arith)

      pub run_fits : 1 ≤ size_at words i → i + 3 ≤ length words
      run_fits s = go (dec_lt (length words - i) 3)
        where
          go : Dec (length words - i < 3) → i + 3 ≤ length words
          go (yes a) = let e = size_run_short a in absurd (omega arith)
          go (no a) = omega arith

    module _ (a : get_or words i 0 ≡ 0 → ⊥) (b : get_or words i 0 ≡ 1 → ⊥) where
      size_later : size_at words i ≡ (when eqb (get_or words i 0) 2 then 1 else when eqb (get_or words i 0) 3 then 1 else 0)
      size_later = size_in ∙ if_no _ _ (ne_eqb (get_or words i 0) 0 a) ∙ if_no _ _ (ne_eqb (get_or words i 0) 1 b)

      pub size_drop : get_or words i 0 ≡ 2 → size_at words i ≡ 1
      size_drop k = size_later ∙ if_yes _ _ (eq-eqb (get_or words i 0) 2 k)

      module _ (c : get_or words i 0 ≡ 2 → ⊥) where
        pub size_forget : get_or words i 0 ≡ 3 → size_at words i ≡ 1
        size_forget k = size_later ∙ if_no _ _ (ne_eqb (get_or words i 0) 2 c) ∙ if_yes _ _ (eq-eqb (get_or words i 0) 3 k)

        pub size_other : (get_or words i 0 ≡ 3 → ⊥) → size_at words i ≡ 0
        size_other k = size_later ∙ if_no _ _ (ne_eqb (get_or words i 0) 2 c) ∙ if_no _ _ (ne_eqb (get_or words i 0) 3 k)

    -- drop or forget
    pub size_one : 2 ≤ get_or words i 0 → get_or words i 0 ≤ 3 → size_at words i ≡ 1
    size_one l m = go (ℕ_discrete (get_or words i 0) 2)
      where
        go : Dec (get_or words i 0 ≡ 2) → size_at words i ≡ 1
        go (yes k) = size_drop (λ z. omega arith) (λ z. omega arith) k
        go (no k) = size_forget (λ z. omega arith) (λ z. omega arith) k (omega arith)

  -- a call has a place, and ends within the words
  pub within : 1 ≤ size_at words i → i < length words
  within s = go (dec_lt i (length words))
    where
      go : Dec (i < length words) → i < length words
      go (yes a) = a
      go (no a) = let e = size_past (omega arith) in absurd (omega arith)

  pub ends_within : 1 ≤ size_at words i → i + size_at words i ≤ length words
  ends_within s = go (ℕ_discrete (get_or words i 0) 0) (ℕ_discrete (get_or words i 0) 1) (ℕ_discrete (get_or words i 0) 2) (ℕ_discrete (get_or words i 0) 3)
    where
      at : i < length words
      at = within s

      go : Dec (get_or words i 0 ≡ 0) → Dec (get_or words i 0 ≡ 1) → Dec (get_or words i 0 ≡ 2) → Dec (get_or words i 0 ≡ 3) → i + size_at words i ≤ length words
      go (yes k) b c d = let f = begin_fits at k s in let e = size_begin at k (omega arith) (omega arith) in omega arith
      go (no a) (yes k) c d = let f = run_fits at k s in let e = size_run at k (omega arith) in omega arith
      go (no a) (no b) (yes k) d = let e = size_drop at a b k in let q = at in omega arith
      go (no a) (no b) (no c) (yes k) = let e = size_forget at a b c k in let q = at in omega arith
      go (no a) (no b) (no c) (no d) = let e = size_other at a b c d in absurd (omega arith)

  -- what the call is
  pub reads_begin : get_or words i 0 ≡ 0 → begin_at words i ≡ call_at words i
  unfolding call_at
  reads_begin k = sym (if_yes _ _ (eq-eqb (get_or words i 0) 0 k))

  module _ (a : get_or words i 0 ≡ 0 → ⊥) where
    pub reads_run : get_or words i 0 ≡ 1 → run_call (run_length words i) ≡ call_at words i
    unfolding call_at
    reads_run k = sym (if_no _ _ (ne_eqb (get_or words i 0) 0 a) ∙ if_yes _ _ (eq-eqb (get_or words i 0) 1 k))

    module _ (b : get_or words i 0 ≡ 1 → ⊥) where
      reads_later : call_at words i ≡ (when eqb (get_or words i 0) 2 then drop_call else forget_call)
      unfolding call_at
      reads_later = if_no _ _ (ne_eqb (get_or words i 0) 0 a) ∙ if_no _ _ (ne_eqb (get_or words i 0) 1 b)

      pub reads_drop : get_or words i 0 ≡ 2 → drop_call ≡ call_at words i
      reads_drop k = sym (reads_later ∙ if_yes _ _ (eq-eqb (get_or words i 0) 2 k))

      pub reads_forget : (get_or words i 0 ≡ 2 → ⊥) → forget_call ≡ call_at words i
      reads_forget k = sym (reads_later ∙ if_no _ _ (ne_eqb (get_or words i 0) 2 k))

  -- as the code reads it
  pub listed_begin : listed (L.Begin (get_or words (i + 1) 0) (get_or words (i + 2) 0) (i + 4) (i + 4 + get_or words (i + 3) 0)) words ≡ begin_at words i
  unfolding listed begin_at
  listed_begin = ap (λ (n : ℕ). begin_call (get_or words (i + 1) 0) (get_or words (i + 2) 0) (part words (i + 4) n)) (back (i + 4) (get_or words (i + 3) 0))
    where
      back : (x y : ℕ) → x + y - x ≡ y
      back x y = omega arith

-- ---- the calls that are left

-- at most m calls from position i on, with fuel f
abbrev pub left : ℕ → ℕ → ℕ → List ℕ → List Call
left m f i words = take m (calls_from f i words)

pub left_full : (m f i : ℕ) (words : List ℕ) → m ≡ 0 → left m f i words ≡ []
left_full m f i words e = ap (λ (k : ℕ). left k f i words) e

pub left_none : (m f i : ℕ) (words : List ℕ) → size_at words i ≡ 0 → left m f i words ≡ []
unfolding calls_from
left_none zero f i words e = refl
left_none (suc m) zero i words e = refl
left_none (suc m) (suc f) i words e = ap (λ (k : ℕ). take (suc m) (unless_none k (call_at words i) (λ size. calls_from f (i + size) words))) e

pub left_more : (m m' f f' i : ℕ) (words : List ℕ) → m ≡ suc m' → f ≡ suc f' → 1 ≤ size_at words i → left m f i words ≡ call_at words i ∷ left m' f' (i + size_at words i) words
unfolding calls_from
left_more m m' f f' i words a b h = (λ k. left (a k) (b k) i words) ∙ go (size_at words i) h
  where
    go : (n : ℕ) → 1 ≤ n → take (suc m') (unless_none n (call_at words i) (λ size. calls_from f' (i + size) words)) ≡ call_at words i ∷ left m' f' (i + n) words
    go zero h = absurd (omega arith)
    go (suc n) h = refl

-- ---- one more call

pub last_more : (s s' : Flat) (a : Answer) (c : Call) (cs : List Call) → gives a s' ≡ flat_call s c → last_state s (c ∷ cs) ≡ last_state s' cs
unfolding last_state
last_more s s' a c cs e = ap (λ (g : Given). last_state (next_state s g) cs) (sym e)

pub answers_more : (s s' : Flat) (a : Answer) (c : Call) (cs : List Call) → gives a s' ≡ flat_call s c → answers_of s (c ∷ cs) ≡ a ∷ answers_of s' cs
unfolding answers_of
answers_more s s' a c cs e = ap (λ (g : Given). answered g (λ t. answers_of t cs)) (sym e)

pub all_words : (a : Answer) → length (answer_words a) ≡ answer_size
unfolding answer_words
all_words done = refl
all_words (refused_by k) = refl
all_words (result p k v h d) = refl
all_words (wrote k) = refl

-- ---- words put at a place

module _ (l ws : List ℕ) (at n : ℕ) (count : length ws ≡ n) (room : at + n ≤ length l) where
  put_is : sets l at ws ≡ take at l ++ ws ++ drop (at + n) l
  put_is = sets-eq ws l at (let c = count in omega arith) ∙ ap (λ (k : ℕ). take at l ++ ws ++ drop (at + k) l) count

  long : length (take at l ++ ws) ≡ at + n
  long = let a = length-append (take at l) ws in let b = length-take-le at l (omega arith) in let c = count in omega arith

  pub put_before : take (at + n) (sets l at ws) ≡ take at l ++ ws
  put_before = ap (take (at + n)) put_is ∙ take_at (take at l ++ ws) (drop (at + n) l) (at + n) long

  pub put_behind : drop (at + n) (sets l at ws) ≡ drop (at + n) l
  put_behind = ap (drop (at + n)) put_is ∙ drop_at (take at l ++ ws) (drop (at + n) l) (at + n) long

-- words written over a part
pub put_part : (l ws : List ℕ) (at n k : ℕ) → length ws ≡ n → k ≡ n → at + n ≤ length l → put_mid at k l ws ≡ sets l at ws
put_part l ws at n k count q room =
    ap (λ (x : ℕ). put_mid at x l ws) (q ∙ sym count)
    ∙ ap (λ (x : List ℕ). take at l ++ (ws ++ x)) (drop-drop (length ws) at l)
    ∙ sym (append_assoc (take at l) ws (drop (at + length ws) l))
    ∙ sym (sets-eq ws l at (omega arith))

-- The two words of a number are the number, and each fits in 32 bits.
pub words_are : (n : ℕ) → n < 18446744073709551616 → (4294967296 * high_word n + low_word n ≡ n) × (high_word n < 4294967296) × (low_word n < 4294967296)
words_are n h = (omega arith, omega arith, omega arith)
