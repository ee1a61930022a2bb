-- A step from a right state exists, and leads to a right state or halts: frames and operands.
-- What is needed of the objects is taken as a record here; the model's laws give it.
use Prim.Native.Nat.{ℕ, zero, suc, ◌+◌, ◌-◌, ◌≤◌, ◌<◌}
use mathlib.Core.Path.{◌≡◌, refl, sym, ap, ◌∙◌, subst}
use mathlib.Core.Bool.{Bool, true, false}
use mathlib.Core.List.{List, [], ◌∷◌, ◌++◌}
use mathlib.Core.Option.{Option, none, some}
use native.Mathlib.Omega.{arith}
use borrow.Author.Tests.{lt-ltb}
use lib.Dec.{T, ltb, lt→ltb}
use lib.ListN.{length, get_elem?, take, drop, set, replicate, length-set, length-drop}
use lib.Seq.{length-take-le}
use Rattle.bytecode.specs.Test.{every}
use Rattle.bytecode.proofs.Choice.{if_yes}
use Rattle.bytecode.proofs.TestLaws.{and_left, and_right, and_both, rule}
use Rattle.model.specs.Word.{is_valid}
use Rattle.model.specs.Objects.{Objects}
use Rattle.model.specs.Method.{temporary_count, frame_words, frame_size, code_words, code_size}
use Rattle.model.specs.Depth.{note_at, rulesAt}
use Rattle.model.specs.Rules.{method_table, allowed}
use Rattle.model.proofs.DepthLaws.{spot}
use Rattle.plain.specs.State.{Frame, moved_to, with_temporaries}
use Rattle.plain.specs.Step.{operand, without}
use Rattle.plain.proofs.FrameLaws.{FrameRight, Fits, FramesRight, table_depth, note_is}

-- ---- lists of valid words

abbrev pub Valid : ℕ → List ℕ → Type 0
Valid n ws = T (every (is_valid n) ws)

pub valid_append : (n : ℕ) (a b : List ℕ) → Valid n a → Valid n b → Valid n (a ++ b)
valid_append n [] b s t = t
valid_append n (x ∷ a) b s t =
    and_both (is_valid n x) (every (is_valid n) (a ++ b)) (and_left (is_valid n x) (every (is_valid n) a) s)
    (valid_append n a b (and_right (is_valid n x) (every (is_valid n) a) s) t)

pub valid_take : (n k : ℕ) (a : List ℕ) → Valid n a → Valid n (take k a)
valid_take n zero a t = tt
valid_take n (suc k) [] t = tt
valid_take n (suc k) (x ∷ a) t =
    and_both (is_valid n x) (every (is_valid n) (take k a)) (and_left (is_valid n x) (every (is_valid n) a) t)
    (valid_take n k a (and_right (is_valid n x) (every (is_valid n) a) t))

pub valid_drop : (n k : ℕ) (a : List ℕ) → Valid n a → Valid n (drop k a)
valid_drop n zero a t = t
valid_drop n (suc k) [] t = tt
valid_drop n (suc k) (x ∷ a) t = valid_drop n k a (and_right (is_valid n x) (every (is_valid n) a) t)

pub valid_set : (n i w : ℕ) (a : List ℕ) → T (is_valid n w) → Valid n a → Valid n (set a i w)
valid_set n i w [] v t = tt
valid_set n zero w (x ∷ a) v t = and_both (is_valid n w) (every (is_valid n) a) v (and_right (is_valid n x) (every (is_valid n) a) t)
valid_set n (suc i) w (x ∷ a) v t =
    and_both (is_valid n x) (every (is_valid n) (set a i w)) (and_left (is_valid n x) (every (is_valid n) a) t)
    (valid_set n i w a v (and_right (is_valid n x) (every (is_valid n) a) t))

pub valid_replicate : (n k w : ℕ) → T (is_valid n w) → Valid n (replicate k w)
valid_replicate n zero w v = tt
valid_replicate n (suc k) w v = and_both (is_valid n w) (every (is_valid n) (replicate k w)) v (valid_replicate n k w v)

-- a read that finds a valid word
abbrev pub Finds : ℕ → Option ℕ → Type 0
Finds n r = (w : ℕ) × (r ≡ some w) × T (is_valid n w)

pub element : (n i : ℕ) (a : List ℕ) → i < length a → Valid n a → Finds n (get_elem? a i)
element n i [] h t = absurd (omega arith)
element n zero (x ∷ a) h t = (x, refl, and_left (is_valid n x) (every (is_valid n) a) t)
element n (suc i) (x ∷ a) h t = element n i a (omega arith) (and_right (is_valid n x) (every (is_valid n) a) t)

pub valid_one : (n w : ℕ) → T (is_valid n w) → Valid n (w ∷ [])
valid_one n w v = and_both (is_valid n w) true v tt

-- ---- one frame

-- the note of a frame that was moved
moved_note : (e : ℕ) (o : Objects) (is_top : Bool) (f : Frame) (q : ℕ) (ops : List ℕ)
    → note_at (method_table e o f.method) q ≡ suc (table_depth is_top (length ops)) → note_at (method_table e o f.method) q ≡ Rattle.plain.specs.Check.note_of is_top (moved_to f q ops)
moved_note e o is_top f q ops h = h ∙ sym (note_is is_top (moved_to f q ops))

-- a noted position has room for the operands of its depth
pub has_word : (e : ℕ) (o : Objects) (m p d : ℕ) → note_at (method_table e o m) p ≡ suc (suc d) → T (ltb (temporary_count o m + d) (frame_words o m))
unfolding rulesAt
has_word e o m p d n =
    let k = rule (rulesAt (code_words o m) (code_size o m) (temporary_count o m) (frame_words o m) (allowed e o m) p (suc d)) (spot e o m p (suc d) n).kept 3 in
    let h = lib.Dec.leb→le (temporary_count o m + suc d) (frame_words o m) k in
    lt→ltb (temporary_count o m + d) (frame_words o m) (omega arith)

module _ {e : ℕ} (o : Objects) where
  -- a right frame at another noted position, with other operands
  pub moved_right : (was is_top : Bool) (f : Frame) → FrameRight e o was f → (q : ℕ) (ops : List ℕ)
      → note_at (method_table e o f.method) q ≡ suc (table_depth is_top (length ops)) → Valid o.n ops → FrameRight e o is_top (moved_to f q ops)
  moved_right was is_top f r q ops h v =
      record {
        is_method = r.is_method;
        unmarked = r.unmarked;
        receiver = r.receiver;
        chain = r.chain;
        note = moved_note e o is_top f q ops h;
        temporaries =
            r.temporaries;
        depth = refl;
        valid_temporaries = r.valid_temporaries;
        valid_operands = v;
      }

  -- and with another temporary
  pub stored_temporary_lem : (f : Frame) → FrameRight e o true f → (i w : ℕ) → T (is_valid o.n w) → FrameRight e o true (with_temporaries f (set f.temporaries i w))
  stored_temporary_lem f r i w v =
      record {
        is_method = r.is_method;
        unmarked = r.unmarked;
        receiver = r.receiver;
        chain = r.chain;
        note = r.note ∙ note_is true f
            ∙ sym (note_is true (with_temporaries f (set f.temporaries i w)));
        temporaries = length-set f.temporaries i w ∙ r.temporaries;
        depth = r.depth;
        valid_temporaries = valid_set o.n i w f.temporaries v r.valid_temporaries;
        valid_operands = r.valid_operands;
      }

  -- another frame of the same method and sender in the place of the uppermost
  pub new_top : (n : ℕ) (was is_top : Bool) (base : ℕ) (f f' : Frame) (rest : List Frame) → f'.sender ≡ f.sender → f'.method ≡ f.method
      → FrameRight e o is_top f' → FramesRight e o n was base (f ∷ rest) → FramesRight e o n is_top base (f' ∷ rest)
  new_top n was is_top base f f' [] s m r fr =
      (r, subst (λ (k : ℕ). Fits n base (frame_size o k)) (sym m) fr.1, fr.2, s ∙ fr.3)
  new_top n was is_top base f f' (g ∷ rest) s m r fr = (
    r,
    subst (λ (k : ℕ). Fits n base (frame_size o k)) (sym m) fr.1,
    fr.2 ∙ ap (λ (k : ℕ). k + frame_size o g.method) (sym s),
    subst
        (λ (k : ℕ). FramesRight e o n false k (g ∷ rest)) (sym s) fr.3,
  )

  module _ (f : Frame) (r : FrameRight e o true f) where
    -- an operand that is there, the operands without some, the arguments
    pub operand_finds : (k : ℕ) → k < f.depth → Finds o.n (operand f k)
    unfolding operand
    operand_finds k h =
        let e = element o.n (f.depth - suc k) f.operands (omega (arith, r.depth)) r.valid_operands in
        (e.0, if_yes (get_elem? f.operands (f.depth - suc k)) none (lt-ltb k f.depth h) ∙ e.1, e.2)

    pub without_length : (k : ℕ) → k ≤ f.depth → length (without f k) ≡ f.depth - k
    without_length k h = length-take-le (f.depth - k) f.operands (omega (arith, r.depth))

    pub without_valid : (k : ℕ) → Valid o.n (without f k)
    without_valid k = valid_take o.n (f.depth - k) f.operands r.valid_operands

    pub arguments_length : (k : ℕ) → k ≤ f.depth → length (drop (f.depth - k) f.operands) ≡ k
    arguments_length k h = length-drop (f.depth - k) f.operands ∙ (let l = r.depth in omega arith)

    pub arguments_valid : (k : ℕ) → Valid o.n (drop (f.depth - k) f.operands)
    arguments_valid k = valid_drop o.n (f.depth - k) f.operands r.valid_operands
