-- Frames that are laid into a stack are the frames that are read there.
use Prim.Native.Nat.{ℕ, zero, suc, ◌+◌, ◌≤◌, ◌<◌}
use mathlib.Core.Path.{◌≡◌, refl, sym, ap, ap₂, ◌∙◌, subst}
use mathlib.Core.Bool.{Bool, true, false}
use mathlib.Core.List.{List, [], ◌∷◌, ◌++◌, append_assoc}
use native.Mathlib.Nat.{add-zero}
use native.Mathlib.Omega.{arith}
use lib.ListN.{length, get_or, take, drop, length-append}
use lib.Seq.{sets, sets-eq, length-sets, drop-drop, get_or-drop, get_or-take, take_at, take-take, take-append-le, drop_at, length-take-le}
use Rattle.model.specs.Objects.{Objects, part}
use Rattle.model.specs.Method.{temporary_count, frame_size}
use Rattle.plain.specs.State.{Frame}
use Rattle.plain.specs.Flat.{frame_sender, frame_depth, frame_method, frame_at, frames_from, unless_bottom}
use Rattle.plain.specs.FlatCalls.{frame_image, laid}
use Rattle.plain.proofs.FrameLaws.{FrameRight, Fits, FramesRight, depth_within}

-- words written at a base, and what stands from there on
module _ (stack : List ℕ) (base : ℕ) (words : List ℕ) (inside : base + length words ≤ length stack) where
  abbrev tail : List ℕ
  tail = drop (base + length words) stack

  from_base : drop base (sets stack base words) ≡ words ++ tail
  from_base =
      ap (drop base) (sets-eq words stack base inside ∙ append_assoc (take base stack) words tail)
      ∙ drop_at (take base stack) (words ++ tail) base (length-take-le base stack (omega arith))

  word_at : (k : ℕ) → get_or (sets stack base words) (base + k) 0 ≡ get_or (words ++ tail) k 0
  word_at k = sym (get_or-drop base (sets stack base words) k 0) ∙ ap (λ (l : List ℕ). get_or l k 0) from_base

  rest_at : (k : ℕ) → drop (base + k) (sets stack base words) ≡ drop k (words ++ tail)
  rest_at k = sym (drop-drop k base (sets stack base words)) ∙ ap (drop k) from_base

  -- what stands below stays
  pub below_base : (e : ℕ) → e ≤ base → take e (sets stack base words) ≡ take e stack
  below_base e h =
      ap (take e) (sets-eq words stack base inside ∙ append_assoc (take base stack) words tail)
      ∙ take-append-le e (take base stack) (words ++ tail) (subst (λ (k : ℕ). e ≤ k) (sym (length-take-le base stack (omega arith))) h)
      ∙ take-take e base stack h

-- one frame; its words are given as a list that equals its image, so that they stay a list
module _ (o : Objects) (f : Frame) (temporaries : length f.temporaries ≡ temporary_count o f.method) (depth : length f.operands ≡ f.depth)
    (stack : List ℕ) (base : ℕ) (image : List ℕ) (is-image : image ≡ frame_image f) (inside : base + length image ≤ length stack) where
  abbrev after : List ℕ
  after = sets stack base image

  abbrev beyond : List ℕ
  beyond = tail stack base image inside

  word : (k : ℕ) → get_or after (base + k) 0 ≡ get_or (frame_image f ++ beyond) k 0
  word k = word_at stack base image inside k ∙ ap (λ (l : List ℕ). get_or (l ++ beyond) k 0) is-image

  body : drop (base + 6) after ≡ f.temporaries ++ (f.operands ++ beyond)
  body =
      rest_at stack base image inside 6 ∙ ap (λ (l : List ℕ). drop 6 (l ++ beyond)) is-image
      ∙ append_assoc f.temporaries f.operands beyond

  sender' : get_or after base 0 ≡ f.sender
  sender' = ap (λ (k : ℕ). get_or after k 0) (sym (add-zero base)) ∙ word 0

  temporaries' : part after (base + 6) (temporary_count o (frame_method after base)) ≡ f.temporaries
  temporaries' =
      ap (λ (m : ℕ). part after (base + 6) (temporary_count o m)) (word 3)
      ∙ ap (take (temporary_count o f.method)) body
      ∙ take_at f.temporaries (f.operands ++ beyond) (temporary_count o f.method) temporaries

  operands' : part after (base + 6 + temporary_count o (frame_method after base)) (frame_depth after base) ≡ f.operands
  operands' =
      ap₂ (λ (m d : ℕ). part after (base + 6 + temporary_count o m) d) (word 3) (word 2)
      ∙ ap (take f.depth)
      (sym (drop-drop (temporary_count o f.method) (base + 6) after)
      ∙ ap (drop (temporary_count o f.method)) body
      ∙ drop_at f.temporaries (f.operands ++ beyond) (temporary_count o f.method) temporaries)
      ∙ take_at f.operands beyond f.depth depth

  pub read_back : frame_at o after base ≡ f
  unfolding frame_at
  read_back =
      λ i. record { sender = sender' i; position = word 1 i; depth = word 2 i; method = word 3 i; mark = word 4 i; receiver = word 5 i; temporaries = temporaries' i; operands = operands' i }

-- a part of a front
part_front : (l : List ℕ) (a n e : ℕ) → a + n ≤ e → part (take e l) a n ≡ part l a n
part_front l zero n e h = take-take n e l (omega arith)
part_front [] (suc a) n zero h = refl
part_front [] (suc a) n (suc e) h = refl
part_front (x ∷ l) (suc a) n zero h = absurd (omega arith)
part_front (x ∷ l) (suc a) n (suc e) h = part_front l a n e (omega arith)

-- stacks that agree up to a place have the same words and parts before it
module _ (s s' : List ℕ) (e : ℕ) (same : take e s' ≡ take e s) where
  pub word_same : (i : ℕ) → i < e → get_or s' i 0 ≡ get_or s i 0
  word_same i h = sym (get_or-take e s' i 0 h) ∙ ap (λ (l : List ℕ). get_or l i 0) same ∙ get_or-take e s i 0 h

  pub part_same : (a n : ℕ) → a + n ≤ e → part s' a n ≡ part s a n
  part_same a n h = sym (part_front s' a n e h) ∙ ap (λ (l : List ℕ). part l a n) same ∙ part_front s a n e h

  -- and the same frame at a base
  pub frame_same : (o : Objects) (base : ℕ) → base + (6 + (temporary_count o (frame_method s base) + frame_depth s base)) ≤ e → frame_at o s' base ≡ frame_at o s base
  unfolding frame_at
  frame_same o base h =
      λ i. record {
        sender = word_same base (omega arith) i;
        position = word_same (base + 1) (omega arith) i;
        depth = depth' i;
        method = method' i;
        mark =
            word_same (base + 4) (omega arith) i;
        receiver = word_same (base + 5) (omega arith) i;
        temporaries = temporaries'' i;
        operands = operands'' i;
      }
    where
      method' : frame_method s' base ≡ frame_method s base
      method' = word_same (base + 3) (omega arith)

      depth' : frame_depth s' base ≡ frame_depth s base
      depth' = word_same (base + 2) (omega arith)

      temporaries'' : part s' (base + 6) (temporary_count o (frame_method s' base)) ≡ part s (base + 6) (temporary_count o (frame_method s base))
      temporaries'' = ap (λ (m : ℕ). part s' (base + 6) (temporary_count o m)) method' ∙ part_same (base + 6) (temporary_count o (frame_method s base)) (omega arith)

      operands'' : part s' (base + 6 + temporary_count o (frame_method s' base)) (frame_depth s' base) ≡ part s (base + 6 + temporary_count o (frame_method s base)) (frame_depth s base)
      operands'' =
          ap₂ (λ (m d : ℕ). part s' (base + 6 + temporary_count o m) d) method' depth'
          ∙ part_same (base + 6 + temporary_count o (frame_method s base)) (frame_depth s base) (omega arith)

-- Laying frames keeps the stack's length.
pub length_laid : (stack : List ℕ) (base : ℕ) (fs : List Frame) → length (laid stack base fs) ≡ length stack
unfolding laid
length_laid stack base [] = refl
length_laid stack base (f ∷ rest) = length-sets (laid stack f.sender rest) base (frame_image f) ∙ length_laid stack f.sender rest

module _ (e : ℕ) (o : Objects) (n : ℕ) (stack : List ℕ) (long : length stack ≡ n) where
  image_length : (is_top : Bool) (f : Frame) → FrameRight e o is_top f → length (frame_image f) ≤ frame_size o f.method
  image_length is_top f r =
      let w = depth_within o is_top f r in
      let a = r.temporaries in
      let b = r.depth in
      omega (arith, length-append f.temporaries f.operands)

  -- a right frame is read back where it is laid, from every stack that agrees with it up to its end
  module _ (is_top : Bool) (base : ℕ) (f : Frame) (rest : List Frame) (r : FrameRight e o is_top f) (fit : Fits n base (frame_size o f.method))
      (s' : List ℕ) (same : take (base + frame_size o f.method) s' ≡ take (base + frame_size o f.method) (laid stack base (f ∷ rest))) where
    abbrev under : List ℕ
    under = laid stack f.sender rest

    inside' : base + length (frame_image f) ≤ length under
    inside' =
        let l = length_laid stack f.sender rest in
        let i = image_length is_top f r in
        let h = fit.inside in
        omega (arith, long)

    here : frame_at o (laid stack base (f ∷ rest)) base ≡ f
    unfolding laid
    here = read_back o f r.temporaries r.depth under base (frame_image f) refl inside'

    top_frame : frame_at o s' base ≡ f
    top_frame =
        let w = depth_within o is_top f r in
        let m : frame_method (laid stack base (f ∷ rest)) base ≡ f.method = unfold frame_at in ap (λ (g : Frame). g.method) here in
        let d : frame_depth (laid stack base (f ∷ rest)) base ≡ f.depth = unfold frame_at in ap (λ (g : Frame). g.depth) here in
        frame_same (laid stack base (f ∷ rest)) s' (base + frame_size o f.method) same o base
        (subst (λ (k : ℕ). base + (6 + (temporary_count o k + frame_depth (laid stack base (f ∷ rest)) base)) ≤ base + frame_size o f.method) (sym m)
        (subst (λ (k : ℕ). base + (6 + (temporary_count o f.method + k)) ≤ base + frame_size o f.method) (sym d) (omega arith)))
        ∙ here

    under_same : (k : ℕ) → k ≤ base → take k s' ≡ take k under
    unfolding laid
    under_same k h =
        sym (take-take k (base + frame_size o f.method) s' (omega arith)) ∙ ap (take k) same
        ∙ take-take k (base + frame_size o f.method) (laid stack base (f ∷ rest)) (omega arith)
        ∙ below_base under base (frame_image f) inside' k h

  -- stacks that agree with the laid frames up to the end of the uppermost
  abbrev pub SameTo : ℕ → List Frame → List ℕ → Type 0
  SameTo base [] s' = Unit {0}
  SameTo base (f ∷ rest) s' = take (base + frame_size o f.method) s' ≡ take (base + frame_size o f.method) (laid stack base (f ∷ rest))

  at_bottom : (base : ℕ) (fs : List Frame) → base ≡ 0 → unless_bottom base fs ≡ []
  at_bottom zero fs z = refl
  at_bottom (suc base) fs z = absurd (omega arith)

  not_bottom : (base : ℕ) (fs : List Frame) → 0 < base → unless_bottom base fs ≡ fs
  not_bottom zero fs h = absurd (omega arith)
  not_bottom (suc base) fs h = refl

  pub frames_back : (fs : List Frame) (is_top : Bool) (base left : ℕ) → FramesRight e o n is_top base fs → base < left
      → (s' : List ℕ) → SameTo base fs s' → frames_from left o s' base ≡ fs
  unfolding frames_from
  frames_back [] is_top base left r h s' same = absurd r
  frames_back (f ∷ []) is_top base zero r h s' same = absurd (omega arith)
  frames_back (f ∷ []) is_top base (suc left) r h s' same =
      ap₂ (λ (x : Frame) (xs : List Frame). x ∷ xs) (top_frame is_top base f [] r.0 r.1 s' same)
      (at_bottom base (frames_from left o s' (frame_sender s' base)) r.2)
  frames_back (f ∷ g ∷ rest) is_top base zero r h s' same = absurd (omega arith)
  frames_back (f ∷ g ∷ rest) is_top base (suc left) r h s' same =
      let above : base ≡ f.sender + frame_size o g.method = r.2 in
      let t = top_frame is_top base f (g ∷ rest) r.0 r.1 s' same in
      let s : frame_sender s' base ≡ f.sender = unfold frame_at in ap (λ (x : Frame). x.sender) t in
      ap₂ (λ (x : Frame) (xs : List Frame). x ∷ xs) t
      (not_bottom base (frames_from left o s' (frame_sender s' base)) (omega arith)
      ∙ ap (frames_from left o s') s
      ∙ frames_back (g ∷ rest) false f.sender left r.3 (omega arith) s'
      (under_same is_top base f (g ∷ rest) r.0 r.1 s' same (f.sender + frame_size o g.method) (omega arith)))

  -- the frames of a right state are read back from the stack in which they are laid
  pub laid_back : (fs : List Frame) (top : ℕ) → FramesRight e o n true top fs → frames_from (suc top) o (laid stack top fs) top ≡ fs
  laid_back [] top r = absurd r
  laid_back (f ∷ rest) top r = frames_back (f ∷ rest) true top (suc top) r (omega arith) (laid stack top (f ∷ rest)) refl
