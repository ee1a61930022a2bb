-- From a frame to its sender: what the frames from here on say.
use Prim.Native.Nat.{ℕ, zero, suc, ◌+◌, ◌-◌, ◌≤◌, ◌<◌}
use mathlib.Core.Path.{◌≡◌, refl, sym, ap, ◌∙◌, subst}
use mathlib.Core.Bool.{Bool, true, false, not, ◌&&◌}
use mathlib.Core.List.{List, [], ◌∷◌}
use native.Mathlib.Omega.{arith}
use borrow.Author.Tests.{eq-eqb, not-true, not-false}
use lib.Dec.{T, eqb, eqb→eq}
use lib.ListN.{length, get_or}
use Rattle.bytecode.specs.Test.{all_of}
use Rattle.bytecode.proofs.TestLaws.{T→true, and_left, and_right, never}
use Rattle.model.specs.Limits.{method_kind}
use Rattle.model.specs.Objects.{Objects, is_kind}
use Rattle.model.specs.Method.{frame_size}
use Rattle.readers.proofs.Loops.{failed, pass}
use Rattle.plain.specs.State.{Frame, fits_stack}
use Rattle.plain.specs.Flat.{frame_at, frame_method, frame_sender, frames_from, unless_bottom}
use Rattle.plain.specs.Check.{frame_rules, frames_fine}
use Rattle.plain.proofs.FrameLaws.{frame_right, fits}
use Rattle.checks.specs.Frame.{stands_at_of, EndsAt}
use Rattle.checks.proofs.Standing.{positive, stands, frame_least}

-- the first frame keeps its rules and fits
first : (edition : ℕ) (o : Objects) (stack : ℕ) (is_top : Bool) (base : ℕ) (f : Frame) (fs : List Frame) → T (frames_fine edition o stack is_top base (f ∷ fs))
    → T (all_of (frame_rules edition o is_top f)) × T (fits_stack stack base (frame_size o f.method))
unfolding frames_fine
first edition o stack is_top base f [] t =
    let a = all_of (frame_rules edition o is_top f) in
    let b = fits_stack stack base (frame_size o f.method) in
    let c = eqb base 0 && eqb f.sender 0 in
    (and_left a (b && c) t, and_left b c (and_right a (b && c) t))
first edition o stack is_top base f (g ∷ rest) t =
    let a = all_of (frame_rules edition o is_top f) in
    let b = fits_stack stack base (frame_size o f.method) in
    let c = eqb base (f.sender + frame_size o g.method) && frames_fine edition o stack false f.sender (g ∷ rest) in
    (and_left a (b && c) t, and_left b c (and_right a (b && c) t))

module _ (edition : ℕ) (o : Objects) (stack : List ℕ) where
  -- the frames from one on, at most so many below it
  abbrev pub fineFrom : Bool → ℕ → ℕ → Bool
  fineFrom is_top left base = frames_fine edition o (length stack) is_top base (frames_from (suc left) o stack base)

  standing_by : (is_top : Bool) (base : ℕ) → T (all_of (frame_rules edition o is_top (frame_at o stack base)))
      → T (fits_stack (length stack) base (frame_size o (frame_at o stack base).method)) → T (stands_at_of o stack base)
  unfolding frame_at
  standing_by is_top base r f =
      stands o stack base (frame_right edition o is_top (frame_at o stack base) r).is_method (fits (length stack) base (frame_size o (frame_method stack base)) f)

  from_first : (is_top : Bool) (left base : ℕ) → T (fineFrom is_top left base) → T (all_of (frame_rules edition o is_top (frame_at o stack base))) × T (stands_at_of o stack base)
  unfolding frames_from
  from_first is_top left base t =
      let k = first edition o (length stack) is_top base (frame_at o stack base) (unless_bottom base (frames_from left o stack (frame_sender stack base))) t in
      (k.0, standing_by is_top base k.0 k.1)

  pub from_unstood : (is_top : Bool) (left base : ℕ) → stands_at_of o stack base ≡ false → false ≡ fineFrom is_top left base
  from_unstood is_top left base e = sym (never (fineFrom is_top left base) (λ t. failed e (from_first is_top left base t).1))

  pub from_wrong : (is_top : Bool) (left base : ℕ) → all_of (frame_rules edition o is_top (frame_at o stack base)) ≡ false → false ≡ fineFrom is_top left base
  from_wrong is_top left base e = sym (never (fineFrom is_top left base) (λ t. failed e (from_first is_top left base t).0))

  fits_there : (base : ℕ) → T (stands_at_of o stack base) → fits_stack (length stack) base (frame_size o (frame_method stack base)) ≡ true
  unfolding stands_at_of
  fits_there base t =
      let f = fits_stack (length stack) base (frame_size o (frame_method stack base)) in T→true f (and_right (is_kind o method_kind (frame_method stack base)) f t)

  -- the frame at 0
  bottom_is : (is_top : Bool) (left : ℕ) → fineFrom is_top left 0
      ≡ (all_of (frame_rules edition o is_top (frame_at o stack 0)) && (fits_stack (length stack) 0 (frame_size o (frame_method stack 0)) && eqb (frame_sender stack 0) 0))
  unfolding frames_fine frames_from frame_at
  bottom_is is_top left = refl

  pub from_bottom : (is_top : Bool) (left base : ℕ) → base ≡ 0 → T (stands_at_of o stack base) → all_of (frame_rules edition o is_top (frame_at o stack base)) ≡ true
      → eqb (get_or stack base 0) 0 ≡ fineFrom is_top left base
  from_bottom is_top left base z s r = subst (λ (x : ℕ). T (stands_at_of o stack x) → all_of (frame_rules edition o is_top (frame_at o stack x)) ≡ true → eqb (get_or stack x 0) 0 ≡ fineFrom is_top left x)
      (sym z) go s r
    where
      go : T (stands_at_of o stack 0) → all_of (frame_rules edition o is_top (frame_at o stack 0)) ≡ true → eqb (get_or stack 0 0) 0 ≡ fineFrom is_top left 0
      go s r =
          sym (bottom_is is_top left ∙ pass (all_of (frame_rules edition o is_top (frame_at o stack 0))) (fits_stack (length stack) 0 (frame_size o (frame_method stack 0)) && eqb (frame_sender stack 0) 0) r
          ∙ pass (fits_stack (length stack) 0 (frame_size o (frame_method stack 0))) (eqb (frame_sender stack 0) 0) (fits_there 0 s))

  -- a frame above 0
  above_is : (is_top : Bool) (left base : ℕ) → fineFrom is_top (suc left) (suc base)
      ≡ (all_of (frame_rules edition o is_top (frame_at o stack (suc base))) && (fits_stack (length stack) (suc base) (frame_size o (frame_method stack (suc base)))
      && (eqb (suc base) (frame_sender stack (suc base) + frame_size o (frame_method stack (frame_sender stack (suc base)))) && fineFrom false left (frame_sender stack (suc base)))))
  unfolding frames_fine frames_from frame_at
  above_is is_top left base = refl

  above : (is_top : Bool) (left base : ℕ) → 0 < base → base ≤ left → T (stands_at_of o stack base) → all_of (frame_rules edition o is_top (frame_at o stack base)) ≡ true
      → fineFrom is_top left base ≡ (eqb base (frame_sender stack base + frame_size o (frame_method stack (frame_sender stack base))) && fineFrom false (left - 1) (frame_sender stack base))
  above is_top zero base h l s r = absurd (omega arith)
  above is_top (suc left) zero h l s r = absurd (omega arith)
  above is_top (suc left) (suc base) h l s r =
      let x = eqb (suc base) (frame_sender stack (suc base) + frame_size o (frame_method stack (frame_sender stack (suc base)))) && fineFrom false left (frame_sender stack (suc base)) in
      above_is is_top left base
      ∙ pass (all_of (frame_rules edition o is_top (frame_at o stack (suc base)))) (fits_stack (length stack) (suc base) (frame_size o (frame_method stack (suc base))) && x) r
      ∙ pass (fits_stack (length stack) (suc base) (frame_size o (frame_method stack (suc base)))) x (fits_there (suc base) s)
      ∙ ap (λ (k : ℕ). eqb (suc base) (frame_sender stack (suc base) + frame_size o (frame_method stack (frame_sender stack (suc base)))) && fineFrom false k (frame_sender stack (suc base))) (less left)
    where
      less : (left : ℕ) → left ≡ suc left - 1
      less left = omega arith

  -- before a turn: what holds from here holds from the top
  pub record Going (top base : ℕ) (is_top : Bool) : Type 0 where
    pub left : ℕ
    pub enough : base ≤ left
    pub stands : T (stands_at_of o stack base)
    pub rest : fineFrom is_top left base ≡ fineFrom true top top

  pub going_first : (top : ℕ) → T (stands_at_of o stack top) → Going top top true
  going_first top s = record { left = top; enough = omega arith; stands = s; rest = refl }

  module _ {top base : ℕ} {is_top : Bool} (g : Going top base is_top) where
    pub going_wrong : (x : Bool) → x ≡ all_of (frame_rules edition o is_top (frame_at o stack base)) → not x ≡ true → false ≡ fineFrom true top top
    going_wrong x f q = from_wrong is_top g.left base (sym f ∙ not-true x q) ∙ g.rest

    pub going_bottom : (x : Bool) → x ≡ all_of (frame_rules edition o is_top (frame_at o stack base)) → not x ≡ false → base ≡ 0 → eqb (get_or stack base 0) 0 ≡ fineFrom true top top
    going_bottom x f q z = from_bottom is_top g.left base z g.stands (sym f ∙ not-false x q) ∙ g.rest

    module _ (x : Bool) (f : x ≡ all_of (frame_rules edition o is_top (frame_at o stack base))) (n : not x ≡ false) (z : base ≡ 0 → ⊥)
      where
        h : 0 < base
        h = positive base z

        r : all_of (frame_rules edition o is_top (frame_at o stack base)) ≡ true
        r = sym f ∙ not-false x n

        abbrev sender : ℕ
        sender = get_or stack base 0

        -- no frame below ends where this one begins
        apart : (T (stands_at_of o stack sender) → base ≡ sender + frame_size o (frame_method stack sender) → ⊥) → false ≡ fineFrom true top top
        apart d =
            sym (above is_top g.left base h g.enough g.stands r ∙ never (eqb base (sender + frame_size o (frame_method stack sender)) && fineFrom false (g.left - 1) sender) go) ∙ g.rest
          where
            go : T (eqb base (sender + frame_size o (frame_method stack sender)) && fineFrom false (g.left - 1) sender) → ⊥
            go t =
                let a = and_left (eqb base (sender + frame_size o (frame_method stack sender))) (fineFrom false (g.left - 1) sender) t in
                let s = (from_first false (g.left - 1) sender (and_right (eqb base (sender + frame_size o (frame_method stack sender))) (fineFrom false (g.left - 1) sender) t)).1 in
                d s (eqb→eq base (sender + frame_size o (frame_method stack sender)) a)

        pub going_alone : stands_at_of o stack sender ≡ false → false ≡ fineFrom true top top
        going_alone q = apart (λ s e. failed q s)

        pub going_apart : {end : ℕ} → EndsAt o stack sender end → (end ≡ base → ⊥) → false ≡ fineFrom true top top
        going_apart at d = apart (λ s e. d (at.ends ∙ sym e))

        below_ends : {end : ℕ} → EndsAt o stack sender end → end ≡ base → base ≡ sender + frame_size o (frame_method stack sender)
        below_ends at q = sym q ∙ at.ends

        pub going_lower : {end : ℕ} → EndsAt o stack sender end → end ≡ base → sender < base
        going_lower at q = let z = below_ends at q in let w = frame_least o (frame_method stack sender) in omega arith

        pub going_down : {end : ℕ} → EndsAt o stack sender end → end ≡ base → Going top sender false
        going_down at q =
            let z = going_lower at q in
            let l = g.enough in
            record {
              left = g.left - 1;
              enough = omega arith;
              stands = at.stands;
              rest =
                  sym (above is_top g.left base h g.enough g.stands r
                  ∙ pass (eqb base (sender + frame_size o (frame_method stack sender))) (fineFrom false (g.left - 1) sender)
                  (eq-eqb base (sender + frame_size o (frame_method stack sender)) (below_ends at q)))
                  ∙ g.rest;
            }
