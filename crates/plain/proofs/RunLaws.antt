-- A run from a right state: every step exists, and the state after it is right; its frames stand in the stack, and the cache is right.
use Prim.Native.Nat.{ℕ, zero, suc, ◌*◌, ◌≤◌, ◌<◌, max}
use mathlib.Core.Path.{◌≡◌, refl, sym, ap, ◌∙◌, subst}
use mathlib.Core.Bool.{Bool, true, false}
use mathlib.Core.List.{List, [], ◌∷◌}
use native.Mathlib.Omega.{arith}
use borrow.Author.Tests.{eqb-true, eqb-false}
use lib.Dec.{T, eqb}
use lib.ListN.{length}
use Rattle.bytecode.specs.Code.{next_at, decode_at}
use Rattle.model.specs.Limits.{entry_words, cache_words, longest_chain, most_stack_words}
use Rattle.model.specs.Objects.{Objects}
use Rattle.model.specs.Method.{code_words, code_size}
use Rattle.model.specs.Image.{Room}
use Rattle.model.proofs.Facts.{Right}
use Rattle.model.proofs.Extends.{Extends, extends_refl, extends_trans}
use Rattle.model.proofs.LookupLaws.{read_few}
use Rattle.model.proofs.Unchanged.{walk_same}
use Rattle.plain.specs.Registers.{idle, running, has_frames, Cause, not_understood, no_boolean, no_stack_room, phase_of}
use Rattle.plain.specs.State.{Frame, Plain, objects}
use Rattle.plain.specs.Step.{read_in, Looked, no_lookup, looked, Stepped, leads_to, halts, missing, step_frame, step}
use Rattle.plain.specs.Calls.{Taken, taken, Ran, ran, stuck, counted, halted, onward, if_running, steps, largest_end, standing_end, reach_of, dictionaries_of}
use Rattle.plain.specs.Flat.{frames_from}
use Rattle.plain.specs.Cache.{filled, cache_fine}
use Rattle.plain.specs.FlatCalls.{laid, stack_after, cache_after}
use Rattle.plain.specs.RunLoop.{first_end, top_end}
use Rattle.plain.proofs.FrameLaws.{FrameRight, FramesRight}
use Rattle.plain.proofs.LaidLaws.{laid_back, length_laid}
use Rattle.plain.proofs.NowLaws.{now}
use Rattle.plain.proofs.Preserve.{World, Shape, runs, ends, LookedRight, Goes, executes}
use Rattle.plain.proofs.StateLaws.{PlainRight, Stands, goes, rests, waits}
use Rattle.plain.proofs.CacheLaws.{cache_filled, cache_kept, length_filled}
use Rattle.plain.specs.CallLists.{Halted}
use Rattle.plain.proofs.After.{After, kept_right}
use Rattle.plain.proofs.HaltLaws.{halts_for}

-- The frames of a state stand in a stack.
abbrev pub Stood : Plain → List ℕ → Type 0
Stood p stack = has_frames p.registers.phase ≡ true → frames_from (suc p.registers.top) (objects p) stack p.registers.top ≡ p.frames

-- The frames stand one on another: the top frame's end is the largest.
top_largest : (e : ℕ) (o : Objects) (stack : ℕ) (b : Bool) (base : ℕ) (fs : List Frame) → FramesRight e o stack b base fs → largest_end o base fs ≡ first_end o base fs
unfolding largest_end
top_largest e o stack b base [] x = refl
top_largest e o stack b base (f ∷ []) x = omega arith
top_largest e o stack b base (f ∷ g ∷ rest) x =
    let below = top_largest e o stack false f.sender (g ∷ rest) x.3 in
    let under = x.2 in
    omega arith

-- It is inside the stack, and a number up to 65,536.
pub record Inside (room : Room) (end : ℕ) : Type 0 where
  pub stack : end ≤ room.stack
  pub most : end ≤ most_stack_words

nowhere : (room : Room) → Inside room 0
nowhere room = record { stack = omega arith; most = omega arith }

higher_inside : (room : Room) (a b : ℕ) → Inside room a → Inside room b → Inside room (max a b)
higher_inside room a b x y =
    record { stack = let s = x.stack in let t = y.stack in omega arith; most = let s = x.most in let t = y.most in omega arith }

top_inside : (e : ℕ) (o : Objects) (room : Room) (base : ℕ) (fs : List Frame) → FramesRight e o room.stack true base fs → Inside room (first_end o base fs)
top_inside e o room base [] x = absurd x
top_inside e o room base (f ∷ []) x = record { stack = x.1.inside; most = x.1.most }
top_inside e o room base (f ∷ g ∷ rest) x = record { stack = x.1.inside; most = x.1.most }

no_frames : (p : Plain) → p.frames ≡ [] → first_end (objects p) p.registers.top p.frames ≡ 0
no_frames p e = ap (first_end (objects p) p.registers.top) e

pub end_is_top : (room : Room) (p : Plain) → Stands room.stack p → standing_end p ≡ top_end p
unfolding standing_end largest_end top_end
end_is_top room p (goes (runs a b f)) = top_largest p.registers.edition (objects p) room.stack true p.registers.top p.frames f
end_is_top room p (goes (ends a b c f)) = ap (largest_end (objects p) p.registers.top) f ∙ sym (no_frames p f)
end_is_top room p (rests a b c f) = ap (largest_end (objects p) p.registers.top) f ∙ sym (no_frames p f)
end_is_top room p (waits a b c f) = top_largest p.registers.edition (objects p) room.stack true p.registers.top p.frames f

end_inside : (room : Room) (p : Plain) → Stands room.stack p → Inside room (standing_end p)
unfolding top_end
end_inside room p s = subst (Inside room) (sym (end_is_top room p s)) (go s)
  where
    go : Stands room.stack p → Inside room (first_end (objects p) p.registers.top p.frames)
    go (goes (runs a b f)) = top_inside p.registers.edition (objects p) room p.registers.top p.frames f
    go (goes (ends a b c f)) = subst (Inside room) (sym (no_frames p f)) (nowhere room)
    go (rests a b c f) = subst (Inside room) (sym (no_frames p f)) (nowhere room)
    go (waits a b c f) = top_inside p.registers.edition (objects p) room p.registers.top p.frames f

-- A step reads no more dictionaries than a chain has.
pub reads_within : (o : Objects) (l : Looked) → LookedRight o l → read_in l ≤ longest_chain
reads_within o no_lookup r = omega arith
reads_within o (looked s c m k) r = let a = r.1 in let b = read_few o s c in omega arith

-- What is needed of all objects that a run meets
abbrev pub Worlds : Room → Type 0
Worlds room = (e : ℕ) (o : Objects) → Right e o → entry_words * o.n ≤ room.contents → o.b ≤ room.bodies → World (After e room) e room o

module _ (room : Room) (worlds : Worlds room) where
  world : (p : Plain) → PlainRight room p → World (After p.registers.edition room) p.registers.edition room (objects p)
  world p r = worlds p.registers.edition (objects p) r.image r.contents r.bodies

  -- one step
  frame_step : (p : Plain) → PlainRight room p → FramesRight p.registers.edition (objects p) room.stack true p.registers.top p.frames
      → Goes (After p.registers.edition room) room p (step room p)
  unfolding step
  frame_step p r f = go p.frames refl f
    where
      head_right : (f : Frame) (rest : List Frame) → FramesRight p.registers.edition (objects p) room.stack true p.registers.top (f ∷ rest)
          → FrameRight p.registers.edition (objects p) true f
      head_right f [] x = x.0
      head_right f (g ∷ rest) x = x.0

      go : (fs : List Frame) → p.frames ≡ fs → FramesRight p.registers.edition (objects p) room.stack true p.registers.top fs
          → Goes (After p.registers.edition room) room p (elim fs as (λ _. Stepped) [ [] ↦ missing | f ∷ rest ↦ step_frame room p f rest ])
      go [] e x = absurd x
      go (f ∷ rest) e x =
          unfold step_frame in
          executes (After p.registers.edition room) room p (world p r) (λ o' a. worlds p.registers.edition o' a.right a.contents a.bodies) f rest (head_right f rest x) x e
          (next_at (code_words (objects p) f.method) f.position)
          (decode_at (code_words (objects p) f.method) (code_size (objects p) f.method) f.position)
          (now (objects p) f (head_right f rest x))

  pub step_goes : (p : Plain) → PlainRight room p → p.registers.phase ≡ running → Goes (After p.registers.edition room) room p (step room p)
  step_goes p r e = by_stands r.stands
    where
      by_stands : Stands room.stack p → Goes (After p.registers.edition room) room p (step room p)
      by_stands (goes (runs a b f)) = frame_step p r f
      by_stands (goes (ends a b c f)) = absurd (omega arith)
      by_stands (rests a b c f) = absurd (omega arith)
      by_stands (waits a b c f) = absurd (omega arith)

  -- a halt keeps all but the phase
  cause_least : (c : Cause) → 3 ≤ phase_of c
  cause_least not_understood = omega arith
  cause_least no_boolean = omega arith
  cause_least no_stack_room = omega arith

  cause_most : (c : Cause) → phase_of c ≤ 5
  cause_most not_understood = omega arith
  cause_most no_boolean = omega arith
  cause_most no_stack_room = omega arith

  halted_right : (p : Plain) → PlainRight room p → p.registers.phase ≡ running → (c : Cause) → PlainRight room (halted p c)
  halted_right p r e c =
      record { image = r.image; contents = r.contents; bodies = r.bodies; starts = r.starts; stands = by_stands r.stands }
    where
      by_stands : Stands room.stack p → Stands room.stack (halted p c)
      by_stands (goes (runs a b f)) = waits (cause_least c) (cause_most c) refl f
      by_stands (goes (ends a b d f)) = absurd (omega arith)
      by_stands (rests a b d f) = absurd (omega arith)
      by_stands (waits a b d f) = absurd (omega arith)

  -- What a run leaves: at most n steps, all of them where it still runs
  pub record RanRight (n : ℕ) (p : Plain) (stack cache : List ℕ) (k : ℕ) (p' : Plain) (ts : List Taken) : Type 0 where
    pub made : k ≤ n
    pub whole : p'.registers.phase ≡ running → k ≡ n
    pub halts : p.registers.phase < 3 → 3 ≤ p'.registers.phase → Halted room p' p'.registers.phase
    pub busy : (p.registers.phase ≡ idle → ⊥) → p'.registers.phase ≡ idle → ⊥
    pub right : PlainRight room p'
    pub extends : Extends (objects p) (objects p')
    pub stood : Stood p' (stack_after stack ts)
    pub cached : T (cache_fine (objects p') (cache_after cache ts))
    pub stack_length : length (stack_after stack ts) ≡ length stack
    pub cache_length : length (cache_after cache ts) ≡ length cache
    pub reach : Inside room (reach_of p ts)
    pub few : dictionaries_of ts ≤ longest_chain * k

  abbrev pub RunGoes : ℕ → Plain → List ℕ → List ℕ → Ran → Type 0
  RunGoes n p stack cache (ran k p' ts) = RanRight n p stack cache k p' ts
  RunGoes n p stack cache stuck = ⊥

  -- a run of no steps
  none : (n : ℕ) (p p' : Plain) (stack cache : List ℕ) → PlainRight room p → PlainRight room p' → objects p' ≡ objects p → Stood p' stack → T (cache_fine (objects p) cache)
      → (p'.registers.phase ≡ running → 0 ≡ n) → (p.registers.phase < 3 → 3 ≤ p'.registers.phase → Halted room p' p'.registers.phase)
      → ((p.registers.phase ≡ idle → ⊥) → p'.registers.phase ≡ idle → ⊥) → RanRight n p stack cache 0 p' []
  unfolding stack_after cache_after reach_of dictionaries_of
  none n p p' stack cache r r' e s c w h i =
      record {
        made = omega arith;
        whole = w;
        halts = h;
        busy = i;
        right = r';
        extends = subst (Extends (objects p)) (sym e) (extends_refl (objects p));
        stood = s;
        cached = subst (λ (o : Objects). T (cache_fine o cache)) (sym e) c;
        stack_length = refl;
        cache_length = refl;
        reach = end_inside room p r.stands;
        few = omega arith;
      }

  -- one step and a run
  more : (n : ℕ) (p p₁ : Plain) (l : Looked) (stack cache : List ℕ) → PlainRight room p → (p₁.registers.phase ≡ idle → ⊥) → p₁.registers.phase < 3
      → Extends (objects p) (objects p₁) → length (filled cache l) ≡ length cache
      → length (laid stack p₁.registers.top p₁.frames) ≡ length stack → read_in l ≤ longest_chain → (x : Ran)
      → RunGoes n p₁ (laid stack p₁.registers.top p₁.frames) (filled cache l) x → RunGoes (suc n) p stack cache (counted (taken l p₁) x)
  unfolding stack_after cache_after reach_of dictionaries_of
  more n p p₁ l stack cache r i b e lc ls lr (ran k p' ts) g =
      record {
        made = let m = g.made in omega arith;
        whole = λ q. ap suc (g.whole q);
        halts = λ q. g.halts b;
        busy = λ q. g.busy i;
        right = g.right;
        extends = extends_trans e g.extends;
        stood = g.stood;
        cached = g.cached;
        stack_length = g.stack_length ∙ ls;
        cache_length = g.cache_length
            ∙ lc;
        reach = higher_inside room (standing_end p) (reach_of p₁ ts) (end_inside room p r.stands) g.reach;
        few = let f = g.few in omega arith;
      }
  more n p p₁ l stack cache r i b e lc ls lr stuck g = g

  shape_busy : (p : Plain) → Shape room.stack p → p.registers.phase ≡ idle → ⊥
  shape_busy p (runs a b f) e = omega arith
  shape_busy p (ends a b c f) e = omega arith

  shape_goes : (p : Plain) → Shape room.stack p → p.registers.phase < 3
  shape_goes p (runs a b f) = omega arith
  shape_goes p (ends a b c f) = omega arith

  -- after a step the frames stand in the stack in which they were laid
  pub shape_stood : (p : Plain) (stack : List ℕ) → length stack ≡ room.stack → Shape room.stack p → Stood p (laid stack p.registers.top p.frames)
  shape_stood p stack h (runs a b f) q = laid_back p.registers.edition (objects p) room.stack stack h p.frames p.registers.top f
  shape_stood p stack h (ends a b c f) q = absurd (subst (λ (k : ℕ). T (Rattle.plain.specs.Registers.has_frames k)) a (subst T (sym q) tt))

  pub runs_right : (n : ℕ) (p : Plain) (stack cache : List ℕ) → PlainRight room p → length stack ≡ room.stack → length cache ≡ cache_words → Stood p stack → T (cache_fine (objects p) cache)
      → RunGoes n p stack cache (steps room n p)
  unfolding steps
  runs_right zero p stack cache r ls lc s c = none zero p p stack cache r r refl s c (λ q. refl) (λ a b. absurd (omega arith)) (λ i. i)
  runs_right (suc n) p stack cache r ls lc s c =
      by_phase (eqb p.registers.phase running) refl (λ p₁ stack₁ cache₁ r₁ a b d f. runs_right n p₁ stack₁ cache₁ r₁ a b d f)
    where
      Again : Type 0
      Again =
          (p₁ : Plain) (stack₁ cache₁ : List ℕ) → PlainRight room p₁ → length stack₁ ≡ room.stack → length cache₁ ≡ cache_words → Stood p₁ stack₁ → T (cache_fine (objects p₁) cache₁)
          → RunGoes n p₁ stack₁ cache₁ (steps room n p₁)

      after_step : (x : Stepped) → step room p ≡ x → Goes (After p.registers.edition room) room p x → p.registers.phase ≡ running → Again
          → RunGoes (suc n) p stack cache (onward (λ s'. steps room n s') p x)
      after_step (leads_to p₁ l) x g e again =
          let r₁ = kept_right room p p₁ r g.0 in
          let ls₁ = length_laid stack p₁.registers.top p₁.frames in
          let lc₁ = length_filled cache l in
          let d : Extends (objects p) (objects p₁) = g.0.after.extends in
          more n p p₁ l stack cache r (shape_busy p₁ g.0.shape) (shape_goes p₁ g.0.shape) d lc₁ ls₁ (reads_within (objects p) l g.1) (steps room n p₁)
          (again p₁ (laid stack p₁.registers.top p₁.frames) (filled cache l) r₁ (ls₁ ∙ ls) (lc₁ ∙ lc) (shape_stood p₁ stack ls g.0.shape)
          (cache_kept (objects p) (objects p₁) (walk_same d r.image) (filled cache l) (cache_filled (objects p) cache l lc g.1 c)))
      after_step (halts cause) x g e again =
          none (suc n) p (halted p cause) stack cache r (halted_right p r e cause) refl (λ q. s (ap has_frames e)) c
          (λ q. absurd (let h = cause_least cause in omega arith)) (λ a b. (cause, refl, halts_for room p cause x)) (λ i q. let h = cause_least cause in omega arith)
      after_step missing x g e again = absurd g

      by_phase : (b : Bool) → eqb p.registers.phase running ≡ b → Again → RunGoes (suc n) p stack cache (if_running (λ s'. steps room n s') room p b)
      by_phase true q again =
          let e = eqb-true p.registers.phase running q in
          after_step (step room p) refl (step_goes p r e) e again
      by_phase false q again = none (suc n) p p stack cache r r refl s c (λ e. absurd (eqb-false p.registers.phase running q e)) (λ a b. absurd (omega arith)) (λ i. i)
