-- What check says of frames, as statements.
use Prim.Native.Nat.{ℕ, suc, ◌+◌, ◌≤◌}
use mathlib.Core.Path.{◌≡◌, refl, ◌∙◌, subst}
use mathlib.Core.Bool.{Bool, true, false, ◌&&◌}
use mathlib.Core.List.{List, [], ◌∷◌}
use native.Mathlib.Omega.{arith}
use lib.Dec.{T, leb, eqb, leb→le, le→leb, eqb→eq, eqb_refl}
use lib.ListN.{length}
use Rattle.bytecode.specs.Test.{when◌then◌else◌, every, all_of}
use Rattle.bytecode.proofs.TestLaws.{and_left, and_right, and_both, rule, rules}
use Rattle.model.specs.Limits.{method_kind, most_stack_words}
use Rattle.model.specs.Word.{is_valid}
use Rattle.model.specs.Objects.{Objects, class_of, is_kind}
use Rattle.model.specs.Method.{home, temporary_count, frame_words, frame_size, code_words, code_size}
use Rattle.model.specs.Depth.{note_at, rulesAt}
use Rattle.model.specs.Lookup.{in_chain}
use Rattle.model.specs.Rules.{method_table, allowed}
use Rattle.model.proofs.DepthLaws.{Spot, spot}
use Rattle.plain.specs.State.{Frame, no_mark, fits_stack}
use Rattle.plain.specs.Check.{note_of, frame_rules, frames_fine}

eq→eqb : (a b : ℕ) → a ≡ b → T (eqb a b)
eq→eqb a b e = subst (λ (k : ℕ). T (eqb a k)) e (eqb_refl a)

pub record FrameRight (e : ℕ) (o : Objects) (is_top : Bool) (f : Frame) : Type 0 where
  pub is_method : T (is_kind o method_kind f.method)
  pub unmarked : f.mark ≡ no_mark
  pub receiver : T (is_valid o.n f.receiver)
  pub chain : T (in_chain o (home o f.method) (class_of o f.receiver))
  pub note : note_at (method_table e o f.method) f.position ≡ note_of is_top f
  pub temporaries : length f.temporaries ≡ temporary_count o f.method
  pub depth : length f.operands ≡ f.depth
  pub valid_temporaries : T (every (is_valid o.n) f.temporaries)
  pub valid_operands : T (every (is_valid o.n) f.operands)

pub frame_right : (e : ℕ) (o : Objects) (is_top : Bool) (f : Frame) → T (all_of (frame_rules e o is_top f)) → FrameRight e o is_top f
unfolding frame_rules
frame_right e o is_top f t =
    let r = rule (frame_rules e o is_top f) t in
    record {
      is_method = r 0;
      unmarked = eqb→eq f.mark no_mark (r 1);
      receiver = r 2;
      chain = r 3;
      note = eqb→eq
          (note_at (method_table e o f.method) f.position) (note_of is_top f) (r 4);
      temporaries = eqb→eq (length f.temporaries) (temporary_count o f.method)
          (r 5);
      depth = eqb→eq (length f.operands) f.depth (r 6);
      valid_temporaries = r 7;
      valid_operands = r 8;
    }

pub right_frame : (e : ℕ) (o : Objects) (is_top : Bool) (f : Frame) → FrameRight e o is_top f → T (all_of (frame_rules e o is_top f))
unfolding frame_rules
right_frame e o is_top f r =
    rules (frame_rules e o is_top f) (
      r.is_method,
      (
        eq→eqb f.mark no_mark r.unmarked,
        (
          r.receiver,
          (
            r.chain,
            (
              eq→eqb (note_at (method_table e o f.method) f.position) (note_of is_top f) r.note,
              (
                eq→eqb (length f.temporaries) (temporary_count o f.method) r.temporaries,
                (
                  eq→eqb (length f.operands) f.depth r.depth,
                  (r.valid_temporaries, (r.valid_operands, tt)),
                ),
              ),
            ),
          ),
        ),
      ),
    )

-- A frame of so many words fits at a base.
pub record Fits (stack base words : ℕ) : Type 0 where
  pub inside : base + words ≤ stack
  pub most : base + words ≤ most_stack_words

pub fits : (stack base words : ℕ) → T (fits_stack stack base words) → Fits stack base words
unfolding fits_stack
fits stack base words t =
    record {
      inside = leb→le (base + words) stack (and_left (leb (base + words) stack) (leb (base + words) most_stack_words) t);
      most = leb→le (base + words)
          most_stack_words (and_right (leb (base + words) stack) (leb (base + words) most_stack_words) t);
    }

pub fitting : (stack base words : ℕ) → Fits stack base words → T (fits_stack stack base words)
unfolding fits_stack
fitting stack base words f =
    and_both (leb (base + words) stack) (leb (base + words) most_stack_words) (le→leb (base + words) stack f.inside) (le→leb (base + words) most_stack_words f.most)

-- The frames, top first, the first at `base`
abbrev pub FramesRight : ℕ → Objects → ℕ → Bool → ℕ → List Frame → Type 0
FramesRight e o stack is_top base [] = ⊥
FramesRight e o stack is_top base (f ∷ []) = FrameRight e o is_top f × Fits stack base (frame_size o f.method) × (base ≡ 0) × (f.sender ≡ 0)
FramesRight e o stack is_top base (f ∷ g ∷ rest) =
    FrameRight e o is_top f × Fits stack base (frame_size o f.method) × (base ≡ f.sender + frame_size o g.method) × FramesRight e o stack false f.sender (g ∷ rest)

pub frames_right : (e : ℕ) (o : Objects) (stack : ℕ) (is_top : Bool) (base : ℕ) (fs : List Frame) → T (frames_fine e o stack is_top base fs) → FramesRight e o stack is_top base fs
unfolding frames_fine
frames_right e o stack is_top base [] t = t
frames_right e o stack is_top base (f ∷ []) t =
    let a = all_of (frame_rules e o is_top f) in
    let b = fits_stack stack base (frame_size o f.method) in
    let s = and_right a (b && (eqb base 0 && eqb f.sender 0)) t in
    let u = and_right b (eqb base 0 && eqb f.sender 0) s in (
      frame_right e o is_top f (and_left a (b && (eqb base 0 && eqb f.sender 0)) t),
      fits stack base (frame_size o f.method)
          (and_left b (eqb base 0 && eqb f.sender 0) s),
      eqb→eq base 0 (and_left (eqb base 0) (eqb f.sender 0) u),
      eqb→eq f.sender 0
          (and_right (eqb base 0) (eqb f.sender 0) u),
    )
frames_right e o stack is_top base (f ∷ g ∷ rest) t =
    let a = all_of (frame_rules e o is_top f) in
    let b = fits_stack stack base (frame_size o f.method) in
    let c = eqb base (f.sender + frame_size o g.method) in
    let d = frames_fine e o stack false f.sender (g ∷ rest) in
    let s = and_right a (b && (c && d)) t in
    let u = and_right b (c && d) s in (
      frame_right e o is_top f (and_left a (b && (c && d)) t),
      fits stack base (frame_size o f.method) (and_left b (c && d) s),
      eqb→eq base
          (f.sender + frame_size o g.method) (and_left c d u),
      frames_right e o stack false f.sender (g ∷ rest) (and_right c d u),
    )

pub right_frames : (e : ℕ) (o : Objects) (stack : ℕ) (is_top : Bool) (base : ℕ) (fs : List Frame) → FramesRight e o stack is_top base fs → T (frames_fine e o stack is_top base fs)
unfolding frames_fine
right_frames e o stack is_top base [] r = r
right_frames e o stack is_top base (f ∷ []) r =
    and_both (all_of (frame_rules e o is_top f)) (fits_stack stack base (frame_size o f.method) && (eqb base 0 && eqb f.sender 0)) (right_frame e o is_top f r.0)
    (and_both (fits_stack stack base (frame_size o f.method)) (eqb base 0 && eqb f.sender 0) (fitting stack base (frame_size o f.method) r.1)
    (and_both (eqb base 0) (eqb f.sender 0) (eq→eqb base 0 r.2) (eq→eqb f.sender 0 r.3)))
right_frames e o stack is_top base (f ∷ g ∷ rest) r =
    let c = eqb base (f.sender + frame_size o g.method) in
    let d = frames_fine e o stack false f.sender (g ∷ rest) in
    and_both (all_of (frame_rules e o is_top f)) (fits_stack stack base (frame_size o f.method) && (c && d)) (right_frame e o is_top f r.0)
    (and_both (fits_stack stack base (frame_size o f.method)) (c && d) (fitting stack base (frame_size o f.method) r.1)
    (and_both c d (eq→eqb base (f.sender + frame_size o g.method) r.2) (right_frames e o stack false f.sender (g ∷ rest) r.3)))

-- The depth in the table at a frame's position: the frame's own on top, one more below
abbrev pub table_depth : Bool → ℕ → ℕ
table_depth true d = d
table_depth false d = suc d

pub note_is : (is_top : Bool) (f : Frame) → note_of is_top f ≡ suc (table_depth is_top f.depth)
unfolding note_of when◌then◌else◌
note_is true f = refl
note_is false f = refl

module _ {e : ℕ} (o : Objects) (is_top : Bool) (f : Frame) (r : FrameRight e o is_top f) where
  pub frame_spot : Spot e o f.method f.position (table_depth is_top f.depth)
  frame_spot = spot e o f.method f.position (table_depth is_top f.depth) (r.note ∙ note_is is_top f)

  -- temporaries and operands are within the frame
  pub within : temporary_count o f.method + table_depth is_top f.depth ≤ frame_words o f.method
  unfolding rulesAt
  within =
      leb→le (temporary_count o f.method + table_depth is_top f.depth) (frame_words o f.method)
      (rule (rulesAt (code_words o f.method) (code_size o f.method) (temporary_count o f.method) (frame_words o f.method) (allowed e o f.method)
      f.position (table_depth is_top f.depth)) frame_spot.kept 3)

  pub depth_within : temporary_count o f.method + f.depth ≤ frame_words o f.method
  depth_within = go is_top within
    where
      go : (b : Bool) → temporary_count o f.method + table_depth b f.depth ≤ frame_words o f.method → temporary_count o f.method + f.depth ≤ frame_words o f.method
      go true h = h
      go false h = omega arith
