-- The stack with frames laid into it, as the few words that a bytecode writes.
use Prim.Native.Nat.{ℕ, zero, suc, ◌+◌, ◌-◌, ◌≤◌, ◌<◌}
use mathlib.Core.Path.{◌≡◌, refl, sym, ap, ◌∙◌, subst}
use mathlib.Core.Bool.{Bool, true, false}
use mathlib.Core.Logic.{◌⊎◌, inl, inr, ◌≢◌}
use mathlib.Core.List.{List, [], ◌∷◌, ◌++◌}
use native.Mathlib.Omega.{arith}
use native.Mathlib.Decide.{ℕ_discrete, dec_lt}
use lib.ListN.{length, get_or, take, drop, set, length-append, length-set, get_or-append}
use lib.Seq.{sets, length-sets, get_or-set_same, get_or-set_other, ext_get_or, get_or-append-add, length-take-le, get_or-take, get_or-drop}
use Rattle.model.specs.Objects.{Objects, part}
use Rattle.model.specs.Method.{temporary_count, frame_size}
use Rattle.plain.specs.State.{Frame, moved_to, with_temporaries}
use Rattle.plain.specs.Flat.{frame_sender, frame_depth, frame_method, frame_at, frames_from, unless_bottom}
use Rattle.plain.specs.FlatCalls.{frame_image, laid}
use Rattle.plain.proofs.FrameLaws.{FrameRight, FramesRight, depth_within}
use Rattle.plain.proofs.CacheLaws.{sets_other, sets_at}

-- ---- words written over a list

-- A list that has the words where they are written, and is as before elsewhere
pub written : (stack s : List ℕ) (t : ℕ) (ws : List ℕ) → length s ≡ length stack → t + length ws ≤ length stack
    → ((j : ℕ) → j < length ws → get_or s (t + j) 0 ≡ get_or ws j 0) → ((i : ℕ) → (i < t) ⊎ (t + length ws ≤ i) → get_or s i 0 ≡ get_or stack i 0) → sets stack t ws ≡ s
written stack s t ws l h inner outer =
    ext_get_or 0 (sets stack t ws) s (length-sets stack t ws ∙ sym l) (λ i k. go i (dec_lt i t) (dec_lt i (t + length ws)))
  where
    go : (i : ℕ) → Dec (i < t) → Dec (i < t + length ws) → get_or (sets stack t ws) i 0 ≡ get_or s i 0
    go i (yes a) b = sets_other ws stack t i (inl a) ∙ sym (outer i (inl a))
    go i (no a) (yes b) =
        let e : i ≡ t + (i - t) = omega arith in
        ap (λ (x : ℕ). get_or (sets stack t ws) x 0) e ∙ sets_at ws stack t (i - t) h (omega arith) ∙ sym (inner (i - t) (omega arith)) ∙ ap (λ (x : ℕ). get_or s x 0) (sym e)
    go i (no a) (no b) = sets_other ws stack t i (inr (omega arith)) ∙ sym (outer i (inr (omega arith)))

-- ---- the words of a frame

-- a word of the image of a frame, by its place
pub body_word : (f : Frame) (j : ℕ) → get_or (frame_image f) (6 + j) 0 ≡ get_or (f.temporaries ++ f.operands) j 0
body_word f j = ap (λ (x : ℕ). get_or (frame_image f) x 0) (six j)
  where
    six : (j : ℕ) → 6 + j ≡ suc (suc (suc (suc (suc (suc j)))))
    six j = omega arith

pub temporary_word : (f : Frame) (j : ℕ) → j < length f.temporaries → get_or (frame_image f) (6 + j) 0 ≡ get_or f.temporaries j 0
temporary_word f j h = body_word f j ∙ get_or-append f.temporaries f.operands 0 j h

pub operand_word : (f : Frame) (j : ℕ) → get_or (frame_image f) (6 + (length f.temporaries + j)) 0 ≡ get_or f.operands j 0
operand_word f j = body_word f (length f.temporaries + j) ∙ get_or-append-add f.temporaries f.operands j 0

pub image_length : (f : Frame) → length (frame_image f) ≡ 6 + (length f.temporaries + length f.operands)
image_length f = let l = length-append f.temporaries f.operands in omega arith

part_word : (l : List ℕ) (a n j : ℕ) → j < n → get_or (part l a n) j 0 ≡ get_or l (a + j) 0
part_word l a n j h = get_or-take n (drop a l) j 0 h ∙ get_or-drop a l j 0

-- A frame that is read from the stack: its image's words are the stack's.
module _ {e : ℕ} (o : Objects) (stack : List ℕ) (t : ℕ) (f : Frame) (is_top : Bool) (here : frame_at o stack t ≡ f) (r : FrameRight e o is_top f) where
  sender_here : get_or stack t 0 ≡ f.sender
  sender_here = unfold frame_at in ap (λ (x : Frame). x.sender) here

  position_here : get_or stack (t + 1) 0 ≡ f.position
  position_here = unfold frame_at in ap (λ (x : Frame). x.position) here

  depth_here : get_or stack (t + 2) 0 ≡ f.depth
  depth_here = unfold frame_at in ap (λ (x : Frame). x.depth) here

  method_here : get_or stack (t + 3) 0 ≡ f.method
  method_here = unfold frame_at in ap (λ (x : Frame). x.method) here

  mark_here : get_or stack (t + 4) 0 ≡ f.mark
  mark_here = unfold frame_at in ap (λ (x : Frame). x.mark) here

  receiver_here : get_or stack (t + 5) 0 ≡ f.receiver
  receiver_here = unfold frame_at in ap (λ (x : Frame). x.receiver) here

  abbrev temps : ℕ
  temps = temporary_count o f.method

  pub temporary_here : (j : ℕ) → j < temps → get_or stack (t + (6 + j)) 0 ≡ get_or f.temporaries j 0
  temporary_here j h =
      let e : part stack (t + 6) (temporary_count o (frame_method stack t)) ≡ f.temporaries = unfold frame_at in ap (λ (x : Frame). x.temporaries) here in
      ap (λ (x : ℕ). get_or stack x 0) (assoc t j) ∙ sym (part_word stack (t + 6) (temporary_count o (frame_method stack t)) j
      (subst (λ (m : ℕ). j < temporary_count o m) (sym method_here) h)) ∙ ap (λ (l : List ℕ). get_or l j 0) e
    where
      assoc : (a b : ℕ) → a + (6 + b) ≡ a + 6 + b
      assoc a b = omega arith

  pub operand_here : (j : ℕ) → j < f.depth → get_or stack (t + (6 + (temps + j))) 0 ≡ get_or f.operands j 0
  operand_here j h =
      let e : part stack (t + 6 + temporary_count o (frame_method stack t)) (frame_depth stack t) ≡ f.operands = unfold frame_at in ap (λ (x : Frame). x.operands) here in
      ap (λ (x : ℕ). get_or stack x 0) (assoc t temps j)
      ∙ ap (λ (m : ℕ). get_or stack (t + 6 + temporary_count o m + j) 0) (sym method_here)
      ∙ sym (part_word stack (t + 6 + temporary_count o (frame_method stack t)) (frame_depth stack t) j (subst (λ (d : ℕ). j < d) (sym depth_here) h))
      ∙ ap (λ (l : List ℕ). get_or l j 0) e
    where
      assoc : (a b c : ℕ) → a + (6 + (b + c)) ≡ a + 6 + b + c
      assoc a b c = omega arith

  -- Writing another frame of the same sender, method, mark and receiver over it: a list that has the new position, depth, temporaries and
  -- operands, and the old words elsewhere
  pub frame_written : (f' : Frame) (s : List ℕ) → f'.sender ≡ f.sender → f'.method ≡ f.method → f'.mark ≡ f.mark → f'.receiver ≡ f.receiver
      → length s ≡ length stack → t + (6 + (length f'.temporaries + length f'.operands)) ≤ length stack
      → ((i : ℕ) → (i ≤ t) ⊎ ((t + 3 ≤ i) × (i < t + 6)) → get_or s i 0 ≡ get_or stack i 0) → get_or s (t + 1) 0 ≡ f'.position → get_or s (t + 2) 0 ≡ f'.depth
      → ((j : ℕ) → j < length f'.temporaries → get_or s (t + (6 + j)) 0 ≡ get_or f'.temporaries j 0)
      → ((j : ℕ) → j < length f'.operands → get_or s (t + (6 + (length f'.temporaries + j))) 0 ≡ get_or f'.operands j 0)
      → ((i : ℕ) → t + (6 + (length f'.temporaries + length f'.operands)) ≤ i → get_or s i 0 ≡ get_or stack i 0)
      → sets stack t (frame_image f') ≡ s
  frame_written f' s es em ek er l h head pos dep tmp ops above =
      let n = image_length f' in
      written stack s t (frame_image f') l (omega arith) (λ j k. inner j (subst (λ (x : ℕ). j < x) n k)) outer
    where
      outer : (i : ℕ) → (i < t) ⊎ (t + length (frame_image f') ≤ i) → get_or s i 0 ≡ get_or stack i 0
      outer i (inl a) = head i (inl (omega arith))
      outer i (inr a) = above i (let n = image_length f' in omega arith)

      at_0 : get_or s (t + 0) 0 ≡ f'.sender
      at_0 = ap (λ (x : ℕ). get_or s x 0) (plus_zero t) ∙ head t (inl (omega arith)) ∙ sender_here ∙ sym es
        where
          plus_zero : (x : ℕ) → x + 0 ≡ x
          plus_zero x = omega arith

      body : (j : ℕ) → j < length f'.temporaries + length f'.operands → Dec (j < length f'.temporaries) → get_or s (t + (6 + j)) 0 ≡ get_or (frame_image f') (6 + j) 0
      body j k (yes a) = tmp j a ∙ sym (temporary_word f' j a)
      body j k (no a) =
          let e : j ≡ length f'.temporaries + (j - length f'.temporaries) = omega arith in
          ap (λ (x : ℕ). get_or s (t + (6 + x)) 0) e ∙ ops (j - length f'.temporaries) (omega arith) ∙ sym (operand_word f' (j - length f'.temporaries))
          ∙ ap (λ (x : ℕ). get_or (frame_image f') (6 + x) 0) (sym e)

      inner : (j : ℕ) → j < 6 + (length f'.temporaries + length f'.operands) → get_or s (t + j) 0 ≡ get_or (frame_image f') j 0
      inner zero k = at_0
      inner (suc zero) k = pos
      inner (suc (suc zero)) k = dep
      inner (suc (suc (suc zero))) k = head (t + 3) (inr (omega arith, omega arith)) ∙ method_here ∙ sym em
      inner (suc (suc (suc (suc zero)))) k = head (t + 4) (inr (omega arith, omega arith)) ∙ mark_here ∙ sym ek
      inner (suc (suc (suc (suc (suc zero))))) k = head (t + 5) (inr (omega arith, omega arith)) ∙ receiver_here ∙ sym er
      inner (suc (suc (suc (suc (suc (suc j)))))) k =
          let e : suc (suc (suc (suc (suc (suc j))))) ≡ 6 + j = omega arith in
          ap (λ (x : ℕ). get_or s (t + x) 0) e ∙ body j (omega arith) (dec_lt j (length f'.temporaries)) ∙ ap (λ (x : ℕ). get_or (frame_image f') x 0) (sym e)

  -- its own words over it change nothing
  pub frame_same_words : t + frame_size o f.method ≤ length stack → sets stack t (frame_image f) ≡ stack
  frame_same_words h =
      let w = depth_within o is_top f r in
      let a = r.temporaries in
      let b = r.depth in
      frame_written f stack refl refl refl refl refl (omega arith) (λ i x. refl) position_here depth_here
      (λ j k. temporary_here j (omega arith))
      (λ j k. subst (λ (x : ℕ). get_or stack (t + (6 + (x + j))) 0 ≡ get_or f.operands j 0) (sym a) (operand_here j (omega arith)))
      (λ i k. refl)

-- Frames that stand in the stack are laid there already.
stands_tail : (o : Objects) (stack : List ℕ) (base left : ℕ) (f : Frame) (fs : List Frame) → frames_from (suc left) o stack base ≡ f ∷ fs
    → (frame_at o stack base ≡ f) × (unless_bottom base (frames_from left o stack (frame_sender stack base)) ≡ fs)
unfolding frames_from
stands_tail o stack base left f fs e = (ap (head_or f) e, ap tail_of e)
  where
    head_or : Frame → List Frame → Frame
    head_or d [] = d
    head_or d (x ∷ xs) = x

    tail_of : List Frame → List Frame
    tail_of [] = []
    tail_of (x ∷ xs) = xs

pub laid_same : (e : ℕ) (o : Objects) (stack : List ℕ) (is_top : Bool) (base left : ℕ) (fs : List Frame) → FramesRight e o (length stack) is_top base fs → frames_from left o stack base ≡ fs
    → laid stack base fs ≡ stack
unfolding laid
laid_same e o stack is_top base left [] r q = absurd r
laid_same e o stack is_top base zero (f ∷ fs) r q = absurd (nil_cons q)
  where
    nil_cons : frames_from zero o stack base ≡ f ∷ fs → ⊥
    nil_cons q = unfold frames_from in subst is_nil q tt
      where
        is_nil : List Frame → Type 0
        is_nil [] = Unit {0}
        is_nil (x ∷ xs) = ⊥
laid_same e o stack is_top base (suc left) (f ∷ []) r h =
    frame_same_words o stack base f is_top (stands_tail o stack base left f [] h).0 r.0 r.1.inside
laid_same e o stack is_top base (suc left) (f ∷ g ∷ rest) r h =
    let s = stands_tail o stack base left f (g ∷ rest) h in
    let q : frame_sender stack base ≡ f.sender = unfold frame_at in ap (λ (x : Frame). x.sender) s.0 in
    let below = laid_same e o stack false f.sender left (g ∷ rest) r.3 (ap (frames_from left o stack) (sym q) ∙ sym (not_bottom base _ (let z = r.2 in omega arith)) ∙ s.1) in
    ap (λ (l : List ℕ). sets l base (frame_image f)) below ∙ frame_same_words o stack base f is_top s.0 r.0 r.1.inside
  where
    not_bottom : (b : ℕ) (fs : List Frame) → 0 < b → unless_bottom b fs ≡ fs
    not_bottom zero fs h = absurd (omega arith)
    not_bottom (suc b) fs h = refl

-- ---- frames f ∷ rest that stand in the stack, f at t, on top or below it

module _ (e : ℕ) (is_top : Bool) (o : Objects) (stack : List ℕ) (t left : ℕ) (f : Frame) (rest : List Frame) (fr : FramesRight e o (length stack) is_top t (f ∷ rest)) (stood : frames_from left o stack t ≡ f ∷ rest) where
  head_right : (fs : List Frame) → FramesRight e o (length stack) is_top t (f ∷ fs) → FrameRight e o is_top f
  head_right [] x = x.0
  head_right (g ∷ fs) x = x.0

  pub frame_right_at : FrameRight e o is_top f
  frame_right_at = head_right rest fr

  fits_here : (fs : List Frame) → FramesRight e o (length stack) is_top t (f ∷ fs) → t + frame_size o f.method ≤ length stack
  fits_here [] x = x.1.inside
  fits_here (g ∷ fs) x = x.1.inside

  pub frame_here_at : frame_at o stack t ≡ f
  frame_here_at = go left stood
    where
      go : (n : ℕ) → frames_from n o stack t ≡ f ∷ rest → frame_at o stack t ≡ f
      go zero e = absurd (bad e)
        where
          bad : frames_from zero o stack t ≡ f ∷ rest → ⊥
          bad q = unfold frames_from in subst is_nil q tt
            where
              is_nil : List Frame → Type 0
              is_nil [] = Unit {0}
              is_nil (x ∷ xs) = ⊥
      go (suc n) e = (stands_tail o stack t n f rest e).0

  -- the frames below are laid there already
  pub rest_same_at : laid stack f.sender rest ≡ stack
  rest_same_at = go left rest fr stood
    where
      go : (n : ℕ) (fs : List Frame) → FramesRight e o (length stack) is_top t (f ∷ fs) → frames_from n o stack t ≡ f ∷ fs → laid stack f.sender fs ≡ stack
      go n [] x y = unfold laid in refl
      go zero (g ∷ fs) x y = absurd (bad y)
        where
          bad : frames_from zero o stack t ≡ f ∷ g ∷ fs → ⊥
          bad q = unfold frames_from in subst is_nil q tt
            where
              is_nil : List Frame → Type 0
              is_nil [] = Unit {0}
              is_nil (x ∷ xs) = ⊥
      go (suc n) (g ∷ fs) x y =
          let s = stands_tail o stack t n f (g ∷ fs) y in
          let q : frame_sender stack t ≡ f.sender = unfold frame_at in ap (λ (h : Frame). h.sender) s.0 in
          laid_same e o stack false f.sender n (g ∷ fs) x.3 (ap (frames_from n o stack) (sym q) ∙ sym (not_bottom t _ (let z = x.2 in omega arith)) ∙ s.1)
        where
          not_bottom : (b : ℕ) (ys : List Frame) → 0 < b → unless_bottom b ys ≡ ys
          not_bottom zero ys h = absurd (omega arith)
          not_bottom (suc b) ys h = refl

  -- so another top frame with the same sender is the one that is written
  pub laid_at : (f' : Frame) → f'.sender ≡ f.sender → laid stack t (f' ∷ rest) ≡ sets stack t (frame_image f')
  unfolding laid
  laid_at f' e = ap (λ (l : List ℕ). sets l t (frame_image f')) (ap (λ (b : ℕ). laid stack b rest) e ∙ rest_same_at)

  abbrev tc : ℕ
  tc = temporary_count o f.method

  -- the sender, method, mark and receiver are apart from the other words of a frame
  header_apart : (i a : ℕ) → (i ≤ t) ⊎ ((t + 3 ≤ i) × (i < t + 6)) → ((t < a) × (a < t + 3)) ⊎ (t + 6 ≤ a) → i ≢ a
  header_apart i a (inl x) (inl y) e = omega arith
  header_apart i a (inl x) (inr y) e = omega arith
  header_apart i a (inr x) (inl y) e = omega arith
  header_apart i a (inr x) (inr y) e = omega arith

  -- a word outside two writes
  other_two : (l : List ℕ) (a b i v w : ℕ) → i ≢ a → i ≢ b → get_or (set (set l a v) b w) i 0 ≡ get_or l i 0
  other_two l a b i v w x y = get_or-set_other (set l a v) b i w 0 y ∙ get_or-set_other l a i v 0 x

  other_three : (l : List ℕ) (a b c i u v w : ℕ) → i ≢ a → i ≢ b → i ≢ c → get_or (set (set (set l a u) b v) c w) i 0 ≡ get_or l i 0
  other_three l a b c i u v w x y z = get_or-set_other (set (set l a u) b v) c i w 0 z ∙ other_two l a b i u v x y

  -- The frame moves on with the first k operands: two words.
  pub moved_at : (q k : ℕ) → k ≤ f.depth → laid stack t (moved_to f q (take k f.operands) ∷ rest) ≡ set (set stack (t + 1) q) (t + 2) k
  moved_at q k h =
      let r = frame_right_at in
      let w = depth_within o is_top f r in
      let z = fits_here rest fr in
      let a = r.temporaries in
      let lk : length (take k f.operands) ≡ k = length-take-le k f.operands (let b = r.depth in omega arith) in
      laid_at (moved_to f q (take k f.operands)) refl
      ∙ frame_written o stack t f is_top frame_here_at r (moved_to f q (take k f.operands)) (set (set stack (t + 1) q) (t + 2) k) refl refl refl refl
      (length-set (set stack (t + 1) q) (t + 2) k ∙ length-set stack (t + 1) q) (omega arith)
      (λ i x. other_two stack (t + 1) (t + 2) i q k (header_apart i (t + 1) x (inl (omega arith, omega arith))) (header_apart i (t + 2) x (inl (omega arith, omega arith))))
      (get_or-set_other (set stack (t + 1) q) (t + 2) (t + 1) k 0 (λ e. omega arith) ∙ get_or-set_same stack (t + 1) q 0 (omega arith))
      (get_or-set_same (set stack (t + 1) q) (t + 2) k 0 (subst (λ (n : ℕ). t + 2 < n) (sym (length-set stack (t + 1) q)) (omega arith)) ∙ sym lk)
      (λ j y. other_two stack (t + 1) (t + 2) (t + (6 + j)) q k (λ e. omega arith) (λ e. omega arith) ∙ temporary_here o stack t f is_top frame_here_at r j (omega arith))
      (λ j y. other_two stack (t + 1) (t + 2) (t + (6 + (length f.temporaries + j))) q k (λ e. omega arith) (λ e. omega arith)
      ∙ subst (λ (x : ℕ). get_or stack (t + (6 + (x + j))) 0 ≡ get_or f.operands j 0) (sym a) (operand_here o stack t f is_top frame_here_at r j (omega arith))
      ∙ sym (get_or-take k f.operands j 0 (omega arith)))
      (λ i y. other_two stack (t + 1) (t + 2) i q k (λ e. omega arith) (λ e. omega arith))

  -- One operand is written above the first k: three words.
  pub pushed_at : (q k w : ℕ) → k ≤ f.depth → tc + k < Rattle.model.specs.Method.frame_words o f.method
      → laid stack t (moved_to f q (take k f.operands ++ (w ∷ [])) ∷ rest) ≡ set (set (set stack (t + (6 + (tc + k))) w) (t + 1) q) (t + 2) (suc k)
  pushed_at q k w h room =
      let r = frame_right_at in
      let z = fits_here rest fr in
      let a = r.temporaries in
      let lk : length (take k f.operands) ≡ k = length-take-le k f.operands (let b = r.depth in omega arith) in
      let ln : length (take k f.operands ++ (w ∷ [])) ≡ suc k = length-append (take k f.operands) (w ∷ []) ∙ omega arith in
      let p : ℕ = t + (6 + (tc + k)) in
      let s : List ℕ = set (set (set stack (t + (6 + (tc + k))) w) (t + 1) q) (t + 2) (suc k) in
      laid_at (moved_to f q (take k f.operands ++ (w ∷ []))) refl
      ∙ frame_written o stack t f is_top frame_here_at r (moved_to f q (take k f.operands ++ (w ∷ []))) s refl refl refl refl
      (length-set (set (set stack (t + (6 + (tc + k))) w) (t + 1) q) (t + 2) (suc k) ∙ length-set (set stack (t + (6 + (tc + k))) w) (t + 1) q ∙ length-set stack (t + (6 + (tc + k))) w) (omega arith)
      (λ i x. other_three stack (t + (6 + (tc + k))) (t + 1) (t + 2) i w q (suc k) (header_apart i (t + (6 + (tc + k))) x (inr (omega arith)))
      (header_apart i (t + 1) x (inl (omega arith, omega arith))) (header_apart i (t + 2) x (inl (omega arith, omega arith))))
      (get_or-set_other (set (set stack (t + (6 + (tc + k))) w) (t + 1) q) (t + 2) (t + 1) (suc k) 0 (λ e. omega arith)
      ∙ get_or-set_same (set stack (t + (6 + (tc + k))) w) (t + 1) q 0 (subst (λ (n : ℕ). t + 1 < n) (sym (length-set stack (t + (6 + (tc + k))) w)) (omega arith)))
      (get_or-set_same (set (set stack (t + (6 + (tc + k))) w) (t + 1) q) (t + 2) (suc k) 0
      (subst (λ (n : ℕ). t + 2 < n) (sym (length-set (set stack (t + (6 + (tc + k))) w) (t + 1) q ∙ length-set stack (t + (6 + (tc + k))) w)) (omega arith)) ∙ sym ln)
      (λ j y. other_three stack (t + (6 + (tc + k))) (t + 1) (t + 2) (t + (6 + j)) w q (suc k) (λ e. omega arith) (λ e. omega arith) (λ e. omega arith)
      ∙ temporary_here o stack t f is_top frame_here_at r j (omega arith))
      (λ j y. subst (λ (x : ℕ). get_or s (t + (6 + (x + j))) 0 ≡ get_or (take k f.operands ++ (w ∷ [])) j 0) (sym a) (ops j (subst (λ (n : ℕ). j < n) ln y) lk (ℕ_discrete j k)))
      (λ i y. other_three stack (t + (6 + (tc + k))) (t + 1) (t + 2) i w q (suc k) (λ e. omega arith) (λ e. omega arith) (λ e. omega arith))
    where
      ops : (j : ℕ) → j < suc k → length (take k f.operands) ≡ k → Dec (j ≡ k)
          → get_or (set (set (set stack (t + (6 + (tc + k))) w) (t + 1) q) (t + 2) (suc k)) (t + (6 + (tc + j))) 0 ≡ get_or (take k f.operands ++ (w ∷ [])) j 0
      ops j y lk (yes e) =
          let z = fits_here rest fr in
          ap (λ (x : ℕ). get_or (set (set (set stack (t + (6 + (tc + k))) w) (t + 1) q) (t + 2) (suc k)) (t + (6 + (tc + x))) 0) e
          ∙ other_two (set stack (t + (6 + (tc + k))) w) (t + 1) (t + 2) (t + (6 + (tc + k))) q (suc k) (λ x. omega arith) (λ x. omega arith)
          ∙ get_or-set_same stack (t + (6 + (tc + k))) w 0 (omega arith)
          ∙ sym (ap (λ (x : ℕ). get_or (take k f.operands ++ (w ∷ [])) x 0) (e ∙ sym lk) ∙ lib.Seq.get_or-append_seam (take k f.operands) w [] 0)
      ops j y lk (no d) =
          other_three stack (t + (6 + (tc + k))) (t + 1) (t + 2) (t + (6 + (tc + j))) w q (suc k) (λ x. d (omega arith)) (λ x. omega arith) (λ x. omega arith)
          ∙ operand_here o stack t f is_top frame_here_at frame_right_at j (omega arith)
          ∙ sym (get_or-append (take k f.operands) (w ∷ []) 0 j (omega arith) ∙ get_or-take k f.operands j 0 (omega arith))

  -- The frame moves on with the first k operands and another temporary: three words.
  pub temporary_at : (q k i w : ℕ) → k ≤ f.depth → i < tc
      → laid stack t (with_temporaries (moved_to f q (take k f.operands)) (set f.temporaries i w) ∷ rest) ≡ set (set (set stack (t + (6 + i)) w) (t + 1) q) (t + 2) k
  temporary_at q k i w h ht =
      let r = frame_right_at in
      let dw = depth_within o is_top f r in
      let z = fits_here rest fr in
      let a = r.temporaries in
      let lt : length (set f.temporaries i w) ≡ tc = length-set f.temporaries i w ∙ a in
      let lk : length (take k f.operands) ≡ k = length-take-le k f.operands (let b = r.depth in omega arith) in
      let s : List ℕ = set (set (set stack (t + (6 + i)) w) (t + 1) q) (t + 2) k in
      let f' : Frame = with_temporaries (moved_to f q (take k f.operands)) (set f.temporaries i w) in
      laid_at f' refl
      ∙ frame_written o stack t f is_top frame_here_at r f' s refl refl refl refl
      (length-set (set (set stack (t + (6 + i)) w) (t + 1) q) (t + 2) k ∙ length-set (set stack (t + (6 + i)) w) (t + 1) q ∙ length-set stack (t + (6 + i)) w) (omega arith)
      (λ j x. other_three stack (t + (6 + i)) (t + 1) (t + 2) j w q k (header_apart j (t + (6 + i)) x (inr (omega arith)))
      (header_apart j (t + 1) x (inl (omega arith, omega arith))) (header_apart j (t + 2) x (inl (omega arith, omega arith))))
      (get_or-set_other (set (set stack (t + (6 + i)) w) (t + 1) q) (t + 2) (t + 1) k 0 (λ e. omega arith) ∙ get_or-set_same (set stack (t + (6 + i)) w) (t + 1) q
      0 (subst (λ (n : ℕ). t + 1 < n) (sym (length-set stack (t + (6 + i)) w)) (omega arith)))
      (get_or-set_same (set (set stack (t + (6 + i)) w) (t + 1) q) (t + 2) k 0
      (subst (λ (n : ℕ). t + 2 < n) (sym (length-set (set stack (t + (6 + i)) w) (t + 1) q ∙ length-set stack (t + (6 + i)) w)) (omega arith)) ∙ sym lk)
      (λ j y. tmp j (subst (λ (n : ℕ). j < n) lt y) (ℕ_discrete j i))
      (λ j y. subst (λ (x : ℕ). get_or s (t + (6 + (x + j))) 0 ≡ get_or (take k f.operands) j 0) (sym lt) (ops j (subst (λ (n : ℕ). j < n) lk y)))
      (λ j y. other_three stack (t + (6 + i)) (t + 1) (t + 2) j w q k (λ e. omega arith) (λ e. omega arith) (λ e. omega arith))
    where
      tmp : (j : ℕ) → j < tc → Dec (j ≡ i) → get_or (set (set (set stack (t + (6 + i)) w) (t + 1) q) (t + 2) k) (t + (6 + j)) 0 ≡ get_or (set f.temporaries i w) j 0
      tmp j y (yes e) =
          let z = fits_here rest fr in
          let dw = depth_within o is_top f frame_right_at in
          let a = frame_right_at.temporaries in
          ap (λ (x : ℕ). get_or (set (set (set stack (t + (6 + i)) w) (t + 1) q) (t + 2) k) (t + (6 + x)) 0) e
          ∙ other_two (set stack (t + (6 + i)) w) (t + 1) (t + 2) (t + (6 + i)) q k (λ x. omega arith) (λ x. omega arith) ∙ get_or-set_same stack (t + (6 + i)) w 0 (omega arith)
          ∙ sym (ap (λ (x : ℕ). get_or (set f.temporaries i w) x 0) e ∙ get_or-set_same f.temporaries i w 0 (omega arith))
      tmp j y (no d) =
          other_three stack (t + (6 + i)) (t + 1) (t + 2) (t + (6 + j)) w q k (λ x. d (omega arith)) (λ x. omega arith) (λ x. omega arith)
          ∙ temporary_here o stack t f is_top frame_here_at frame_right_at j y ∙ sym (get_or-set_other f.temporaries i j w 0 d)

      ops : (j : ℕ) → j < k → get_or (set (set (set stack (t + (6 + i)) w) (t + 1) q) (t + 2) k) (t + (6 + (tc + j))) 0 ≡ get_or (take k f.operands) j 0
      ops j y =
          other_three stack (t + (6 + i)) (t + 1) (t + 2) (t + (6 + (tc + j))) w q k (λ x. omega arith) (λ x. omega arith) (λ x. omega arith)
          ∙ operand_here o stack t f is_top frame_here_at frame_right_at j (omega arith) ∙ sym (get_or-take k f.operands j 0 y)

-- The same of the top frame
module _ (e : ℕ) (o : Objects) (stack : List ℕ) (t left : ℕ) (f : Frame) (rest : List Frame) (fr : FramesRight e o (length stack) true t (f ∷ rest)) (stood : frames_from left o stack t ≡ f ∷ rest) where
  pub moved_writes : (q k : ℕ) → k ≤ f.depth → laid stack t (moved_to f q (take k f.operands) ∷ rest) ≡ set (set stack (t + 1) q) (t + 2) k
  moved_writes = moved_at e true o stack t left f rest fr stood

  pub pushed_writes : (q k w : ℕ) → k ≤ f.depth → temporary_count o f.method + k < Rattle.model.specs.Method.frame_words o f.method
      → laid stack t (moved_to f q (take k f.operands ++ (w ∷ [])) ∷ rest) ≡ set (set (set stack (t + (6 + (temporary_count o f.method + k))) w) (t + 1) q) (t + 2) (suc k)
  pushed_writes = pushed_at e true o stack t left f rest fr stood

  pub temporary_writes : (q k i w : ℕ) → k ≤ f.depth → i < temporary_count o f.method
      → laid stack t (with_temporaries (moved_to f q (take k f.operands)) (set f.temporaries i w) ∷ rest) ≡ set (set (set stack (t + (6 + i)) w) (t + 1) q) (t + 2) k
  temporary_writes = temporary_at e true o stack t left f rest fr stood
