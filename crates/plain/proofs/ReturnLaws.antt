-- A return, as the two words that it writes in the sender's frame.
use Prim.Native.Nat.{ℕ, zero, suc, ◌+◌, ◌*◌, ◌≤◌, ◌<◌}
use mathlib.Core.Path.{◌≡◌, refl, sym, ap, ◌∙◌, subst}
use mathlib.Core.Bool.{Bool, true, false}
use mathlib.Core.List.{List, [], ◌∷◌, ◌++◌}
use native.Mathlib.Omega.{arith}
use borrow.Author.Tests.{lt-ltb}
use lib.Dec.{T, ltb}
use lib.ListN.{length, take, set}
use lib.Seq.{set-get_or, get_or-set_other}
use Rattle.model.specs.Limits.{entry_words, method_kind}
use Rattle.model.specs.Objects.{Objects, objects_at, is_kind}
use Rattle.model.specs.Method.{temporary_count, code_words, code_size, frame_words, frame_size}
use Rattle.model.specs.Depth.{fineAt}
use Rattle.model.specs.Rules.{allowed}
use Rattle.model.proofs.DepthLaws.{fine_inside}
use Rattle.model.proofs.Lent.{contents_room, bodies_room, front_same}
use Rattle.plain.specs.Registers.{Registers, finished}
use Rattle.plain.specs.State.{Frame, moved_to, with_frames}
use Rattle.plain.specs.Step.{Stepped, no_lookup, provided, returned}
use Rattle.plain.specs.Flat.{frame_sender, frame_position, frame_depth, frame_method, frame_at, frames_from, unless_bottom}
use Rattle.plain.specs.FlatCalls.{laid}
use Rattle.plain.specs.Cache.{filled}
use Rattle.plain.specs.Running.{Runs, running_with, running_at, finished_with, top_frame, rest_frames, Made}
use Rattle.plain.proofs.FrameLaws.{FrameRight, FramesRight, Fits, within, frame_spot}
use Rattle.plain.proofs.WriteLaws.{frame_right_at, frame_here_at, pushed_at}
use Rattle.plain.proofs.RunningLaws.{all_right, words_cases}

-- Numbers of the frame below the top one
pub record SenderBounds (o : Objects) (top sender : ℕ) (stack : List ℕ) : Type 0 where
  pub below : sender + (6 + frame_words o (frame_method stack sender)) ≡ top
  pub inside : sender + (6 + frame_words o (frame_method stack sender)) ≤ length stack
  pub most : sender + (6 + frame_words o (frame_method stack sender)) ≤ 65536
  pub holds : temporary_count o (frame_method stack sender) + suc (frame_depth stack sender) ≤ frame_words o (frame_method stack sender)
  pub limit : frame_words o (frame_method stack sender) ≤ 32
  pub is_method : T (is_kind o method_kind (frame_method stack sender))
  pub position : frame_position stack sender < code_size o (frame_method stack sender)

module _ {n b top : ℕ} {contents bodies stack : List ℕ} (r : Runs n b top contents bodies stack) where
  abbrev o : Objects
  o = objects_at n b contents bodies

  abbrev s : ℕ
  s = frame_sender stack top

  abbrev f : Frame
  f = top_frame n b top contents bodies stack

  -- From the bottom frame: finished with the value
  pub bottom_returns : (e receiver selector w : ℕ) (cache : List ℕ) → top ≡ 0
      → Made (returned (running_at e receiver selector n b top contents bodies stack) f (rest_frames n b top contents bodies stack) w) 0
      (finished_with e receiver selector n b w) contents bodies stack cache contents bodies stack cache
  unfolding returned laid filled
  bottom_returns e receiver selector w cache z =
      record {
        state = with_frames (running_at e receiver selector n b top contents bodies stack) [] finished 0 w;
        lookup = no_lookup;
        steps = ap
            (λ (t : ℕ). returned (running_at e receiver selector n b top contents bodies stack) f (unless_bottom t (frames_from top o stack s)) w) z;
        reads = refl;
        registers = refl;
        entries = sym (front_same (entry_words * n) contents (contents_room n b contents bodies r.right));
        words = sym
            (front_same b bodies (bodies_room n b contents bodies r.right));
        frames = refl;
        cached = refl;
      }

  module _ (above : 0 < top) where
    -- the frame below, and those below it
    record Below : Type 0 where
      g : Frame
      gs : List Frame
      are : rest_frames n b top contents bodies stack ≡ g ∷ gs
      stood : frames_from top o stack s ≡ g ∷ gs
      base : top ≡ s + frame_size o g.method
      fits : Fits (length stack) s (frame_size o g.method)
      rights : FramesRight r.edition o (length stack) false s (g ∷ gs)

    not_bottom : (t : ℕ) (fs : List Frame) → 0 < t → unless_bottom t fs ≡ fs
    not_bottom zero fs h = absurd (omega arith)
    not_bottom (suc t) fs h = refl

    sender_is : f.sender ≡ s
    unfolding frame_at
    sender_is = refl

    below : Below
    below = go (rest_frames n b top contents bodies stack) refl (all_right r)
      where
        fits_of : (g : Frame) (gs : List Frame) → FramesRight r.edition o (length stack) false s (g ∷ gs) → Fits (length stack) s (frame_size o g.method)
        fits_of g [] x = x.1
        fits_of g (h ∷ gs) x = x.1

        go : (fs : List Frame) → rest_frames n b top contents bodies stack ≡ fs → FramesRight r.edition o (length stack) true top (f ∷ fs) → Below
        go [] e x = absurd (let z = x.2 in omega arith)
        go (g ∷ gs) e x =
            let y : FramesRight r.edition o (length stack) false s (g ∷ gs) = subst (λ (k : ℕ). FramesRight r.edition o (length stack) false k (g ∷ gs)) sender_is x.3 in
            record {
              g = g;
              gs = gs;
              are = e;
              stood = sym (not_bottom top (frames_from top o stack s) above) ∙ e;
              base = x.2
                  ∙ ap (λ (k : ℕ). k + frame_size o g.method) sender_is;
              fits = fits_of g gs y;
              rights = y;
            }

    g_here : frame_at o stack s ≡ below.g
    g_here = frame_here_at r.edition false o stack s top below.g below.gs below.rights below.stood

    g_right : FrameRight r.edition o false below.g
    g_right = frame_right_at r.edition false o stack s top below.g below.gs below.rights below.stood

    method_g : frame_method stack s ≡ below.g.method
    method_g = unfold frame_at in ap (λ (x : Frame). x.method) g_here

    depth_g : frame_depth stack s ≡ below.g.depth
    depth_g = unfold frame_at in ap (λ (x : Frame). x.depth) g_here

    position_g : frame_position stack s ≡ below.g.position
    position_g = unfold frame_at in ap (λ (x : Frame). x.position) g_here

    abbrev Limits : ℕ → ℕ → Type 0
    Limits m d = (s + (6 + frame_words o m) ≡ top) × (s + (6 + frame_words o m) ≤ length stack) × (s + (6 + frame_words o m) ≤ 65536)
        × (temporary_count o m + suc d ≤ frame_words o m) × (frame_words o m ≤ 32) × T (is_kind o method_kind m)

    limits : Limits below.g.method below.g.depth
    limits = (sym below.base, below.fits.inside, below.fits.most, within o false below.g g_right, (words_cases o below.g.method).1, g_right.is_method)

    position_inside : below.g.position < code_size o below.g.method
    unfolding fineAt
    position_inside =
        let m = below.g.method in
        fine_inside (code_words o m) (code_size o m) (temporary_count o m) (frame_words o m) (allowed r.edition o m) below.g.position _ (frame_spot o false below.g g_right).kept

    pub sender_bounds : SenderBounds o top s stack
    sender_bounds =
        let x = subst (λ (m : ℕ). Limits m (frame_depth stack s)) (sym method_g) (subst (Limits below.g.method) (sym depth_g) limits) in
        record { below = x.0; inside = x.1; most = x.2; holds = x.3; limit = x.4; is_method = x.5; position = inside_there }
      where
        inside_there : frame_position stack s < code_size o (frame_method stack s)
        inside_there =
            subst (λ (m : ℕ). frame_position stack s < code_size o m) (sym method_g) (subst (λ (p : ℕ). p < code_size o below.g.method) (sym position_g) position_inside)

    -- Above the bottom: one operand and the depth of the sender's frame
    abbrev after : ℕ → List ℕ
    after w = set (set stack (s + (6 + (temporary_count o (frame_method stack s) + frame_depth stack s))) w) (s + 2) (suc (frame_depth stack s))

    abbrev three : ℕ → ℕ → ℕ → ℕ → List ℕ
    three m d p w = set (set (set stack (s + (6 + (temporary_count o m + d))) w) (s + 1) p) (s + 2) (suc d)

    -- the position that is written stands there
    two_words : (w : ℕ) → three (frame_method stack s) (frame_depth stack s) (frame_position stack s) w ≡ after w
    two_words w =
        ap (λ (l : List ℕ). set l (s + 2) (suc (frame_depth stack s)))
        (ap (λ (p : ℕ). set (set stack (s + (6 + (temporary_count o (frame_method stack s) + frame_depth stack s))) w) (s + 1) p)
        (sym (get_or-set_other stack (s + (6 + (temporary_count o (frame_method stack s) + frame_depth stack s))) (s + 1) w 0 (λ e. omega arith)))
        ∙ set-get_or (set stack (s + (6 + (temporary_count o (frame_method stack s) + frame_depth stack s))) w) (s + 1) 0)

    laid_is : (w : ℕ) → laid stack s (moved_to below.g below.g.position (below.g.operands ++ (w ∷ [])) ∷ below.gs) ≡ after w
    laid_is w =
        let x = limits in
        ap (λ (l : List ℕ). laid stack s (moved_to below.g below.g.position (l ++ (w ∷ [])) ∷ below.gs)) (sym (all_taken below.g.depth below.g.operands g_right.depth))
        ∙ pushed_at r.edition false o stack s top below.g below.gs below.rights below.stood below.g.position below.g.depth w (omega arith) (let y = x.3 in omega arith)
        ∙ ap (λ (m : ℕ). three m below.g.depth below.g.position w) (sym method_g)
        ∙ ap (λ (d : ℕ). three (frame_method stack s) d below.g.position w) (sym depth_g)
        ∙ ap (λ (p : ℕ). three (frame_method stack s) (frame_depth stack s) p w) (sym position_g)
        ∙ two_words w
      where
        all_taken : (d : ℕ) (l : List ℕ) → length l ≡ d → take d l ≡ l
        all_taken d [] e = ap (λ (k : ℕ). take k []) (sym e)
        all_taken d (x ∷ l) e = ap (λ (k : ℕ). take k (x ∷ l)) (sym e) ∙ ap (λ (ys : List ℕ). x ∷ ys) (all_taken (length l) l refl)

    provided_yes : (t : Bool) (x : Stepped) → t ≡ true → provided t x ≡ x
    provided_yes t x e = ap (λ (c : Bool). provided c x) e

    pub sender_returns : (e receiver selector w : ℕ) (cache : List ℕ)
        → Made (returned (running_at e receiver selector n b top contents bodies stack) f (rest_frames n b top contents bodies stack) w) 0
        (running_with e receiver selector n b s) contents bodies stack cache contents bodies (after w) cache
    unfolding returned filled frame_at
    sender_returns e receiver selector w cache =
        let p = running_at e receiver selector n b top contents bodies stack in
        record {
          state = with_frames p (moved_to below.g below.g.position (below.g.operands ++ (w ∷ [])) ∷ below.gs)
              Rattle.plain.specs.Registers.running s 0;
          lookup = no_lookup;
          steps = ap (λ (fs : List Frame). returned p f fs w) below.are
              ∙ provided_yes (ltb (temporary_count o below.g.method + below.g.depth) (frame_words o below.g.method)) _
              (lt-ltb (temporary_count o below.g.method + below.g.depth) (frame_words o below.g.method) (let x = limits.3 in omega arith));
          reads = refl;
          registers =
              refl;
          entries = sym (front_same (entry_words * n) contents (contents_room n b contents bodies r.right));
          words = sym
              (front_same b bodies (bodies_room n b contents bodies r.right));
          frames = sym (laid_is w);
          cached = refl;
        }
