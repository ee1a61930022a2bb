-- A right plain state laid into the buffers: the flat state stands for it, and check accepts it.
use Prim.Native.Nat.{ℕ, zero, suc, ◌*◌, ◌≤◌}
use mathlib.Core.Path.{◌≡◌, refl, sym, ap, ◌∙◌, subst}
use mathlib.Core.Bool.{Bool, true, false, ◌&&◌}
use mathlib.Core.List.{List, []}
use native.Mathlib.Omega.{arith}
use borrow.Author.Tests.{eq-eqb}
use lib.Dec.{T, leb, eqb, leb→le, le→leb, eqb→eq}
use lib.ListN.{length}
use lib.Seq.{length-take-le}
use Rattle.bytecode.proofs.TestLaws.{true→T, and_left, and_right, and_both}
use Rattle.model.specs.Limits.{entry_words, cache_words}
use Rattle.model.specs.Objects.{Objects}
use Rattle.model.specs.Image.{Room, Verdict, accepted, refused, unless, ◌then◌, buffers_fine}
use Rattle.model.proofs.Lent.{front_length, front_take}
use Rattle.plain.specs.Registers.{has_frames}
use Rattle.plain.specs.State.{Plain, objects}
use Rattle.plain.specs.Cache.{cache_fine}
use Rattle.plain.specs.Flat.{Flat, room_of, flat_objects, frames_from, if_frames, plain_of}
use Rattle.plain.specs.Check.{plain_fine, state_fine, check}
use Rattle.plain.specs.FlatCalls.{with_plain}
use Rattle.plain.proofs.Preserve.{runs, ends}
use Rattle.plain.proofs.StateLaws.{PlainRight, Stands, goes, rests, waits, image_right, right_image, plain_stands, plain_image, stands_plain}
use Rattle.plain.proofs.RunLaws.{Stood}

-- What check accepts
pub record FlatRight (s : Flat) : Type 0 where
  pub contents : entry_words * s.registers.n ≤ length s.contents
  pub bodies : s.registers.b ≤ length s.bodies
  pub cache_length : length s.cache ≡ cache_words
  pub plain : PlainRight (room_of s) (plain_of s)
  pub cached : T (cache_fine (flat_objects s) s.cache)

accepted_not : (k : ℕ) → refused k ≡ accepted → ⊥
accepted_not k e = subst is_refused e tt
  where
    is_refused : Verdict → Type 0
    is_refused accepted = ⊥
    is_refused (refused j) = Unit {0}

-- two tests that an accepting check passed
both_pass : (a b : Bool) (j k : ℕ) → (unless a j then unless b k) ≡ accepted → T a × T b
both_pass true true j k e = (tt, tt)
both_pass true false j k e = absurd (accepted_not k e)
both_pass false b j k e = absurd (accepted_not j e)

pass_both : (a b : Bool) (j k : ℕ) → T a → T b → (unless a j then unless b k) ≡ accepted
pass_both true true j k s t = refl
pass_both true false j k s t = absurd t
pass_both false b j k s t = absurd s

pub check_right : (s : Flat) → check s ≡ accepted → FlatRight s
unfolding check state_fine buffers_fine plain_of
check_right s e =
    let n = s.registers.n in
    let b = s.registers.b in
    let t = both_pass (leb (entry_words * n) (length s.contents) && (leb b (length s.bodies) && eqb (length s.cache) cache_words))
    (plain_fine (length s.stack) (plain_of s) && cache_fine (flat_objects s) s.cache) 3 11 e in
    let u = and_right (leb (entry_words * n) (length s.contents)) (leb b (length s.bodies) && eqb (length s.cache) cache_words) t.0 in
    let c = leb→le (entry_words * n) (length s.contents) (and_left (leb (entry_words * n) (length s.contents)) (leb b (length s.bodies) && eqb (length s.cache) cache_words) t.0) in
    let d = leb→le b (length s.bodies) (and_left (leb b (length s.bodies)) (eqb (length s.cache) cache_words) u) in
    let f = and_left (plain_fine (length s.stack) (plain_of s)) (cache_fine (flat_objects s) s.cache) t.1 in
    let i = image_right s.registers.edition (flat_objects s) s.registers.start_receiver s.registers.start_selector
    (length-take-le (entry_words * n) s.contents c) (length-take-le b s.bodies d) (plain_image (length s.stack) (plain_of s) f) in
    record {
      contents = c;
      bodies = d;
      cache_length = eqb→eq (length s.cache) cache_words
          (and_right (leb b (length s.bodies)) (eqb (length s.cache) cache_words) u);
      plain = record {
        image = i.0;
        contents = c;
        bodies = d;
        starts = i.1;
        stands = plain_stands (length s.stack) (plain_of s) f;
      };
      cached = and_right (plain_fine (length s.stack) (plain_of s)) (cache_fine (flat_objects s) s.cache) t.1;
    }

pub right_check : (s : Flat) → FlatRight s → check s ≡ accepted
unfolding check state_fine buffers_fine plain_of
right_check s r =
    let n = s.registers.n in
    let b = s.registers.b in
    pass_both (leb (entry_words * n) (length s.contents) && (leb b (length s.bodies) && eqb (length s.cache) cache_words))
    (plain_fine (length s.stack) (plain_of s) && cache_fine (flat_objects s) s.cache) 3 11
    (and_both (leb (entry_words * n) (length s.contents)) (leb b (length s.bodies) && eqb (length s.cache) cache_words) (le→leb (entry_words * n) (length s.contents) r.contents)
    (and_both (leb b (length s.bodies)) (eqb (length s.cache) cache_words) (le→leb b (length s.bodies) r.bodies) (true→T (eq-eqb (length s.cache) cache_words r.cache_length))))
    (and_both (plain_fine (length s.stack) (plain_of s)) (cache_fine (flat_objects s) s.cache)
    (stands_plain (length s.stack) (plain_of s) (right_image s.registers.edition (flat_objects s) s.registers.start_receiver
    s.registers.start_selector r.plain.image r.plain.starts) r.plain.stands)
    r.cached)

-- a state without frames has none
no_frames : (stack : ℕ) (p : Plain) → Stands stack p → has_frames p.registers.phase ≡ false → p.frames ≡ []
no_frames stack p (goes (runs a b f)) e = absurd (bad (subst (λ (k : ℕ). has_frames k ≡ false) a e))
  where
    bad : true ≡ false → ⊥
    bad q = subst T q tt
no_frames stack p (goes (ends a b c f)) e = f
no_frames stack p (rests a b c f) e = f
no_frames stack p (waits a b c f) e = absurd (subst T (sym (live p.registers.phase a) ∙ e) tt)
  where
    live : (k : ℕ) → 3 ≤ k → has_frames k ≡ true
    live zero h = absurd (omega arith)
    live (suc zero) h = absurd (omega arith)
    live (suc (suc zero)) h = absurd (omega arith)
    live (suc (suc (suc k))) h =
        ap (λ (x : Bool). mathlib.Core.Bool.not (mathlib.Core.Bool.◌||◌ x (eqb (suc (suc (suc k))) 2))) (borrow.Author.Tests.ne_eqb (suc (suc (suc k))) 0 (λ q. omega arith))
        ∙ ap mathlib.Core.Bool.not (borrow.Author.Tests.ne_eqb (suc (suc (suc k))) 2 (λ q. omega arith))

module _ (s : Flat) (p : Plain) (stack cache : List ℕ) (right : PlainRight (room_of s) p) (stood : Stood p stack) where
  abbrev s' : Flat
  s' = with_plain s p stack cache

  objects_back : flat_objects s' ≡ objects p
  objects_back =
      λ i. record {
        n = p.registers.n;
        b = p.registers.b;
        contents = front_take p.contents s.contents (entry_words * p.registers.n)
            right.image.contents i;
        bodies = front_take p.bodies s.bodies p.registers.b right.image.bodies i;
      }

  frames_back : if_frames (has_frames p.registers.phase) (frames_from (suc p.registers.top) (flat_objects s') stack p.registers.top) ≡ p.frames
  frames_back = go (has_frames p.registers.phase) refl
    where
      go : (b : Bool) → has_frames p.registers.phase ≡ b → if_frames b (frames_from (suc p.registers.top) (flat_objects s') stack p.registers.top) ≡ p.frames
      go true e = ap (λ (o : Objects). frames_from (suc p.registers.top) o stack p.registers.top) objects_back ∙ stood e
      go false e = sym (no_frames (length s.stack) p right.stands e)

  -- the flat state stands for the plain one
  pub plain_back : plain_of s' ≡ p
  unfolding plain_of
  plain_back =
      λ i. record {
        registers = p.registers;
        contents = front_take p.contents s.contents (entry_words * p.registers.n) right.image.contents i;
        bodies = front_take p.bodies s.bodies p.registers.b right.image.bodies i;
        frames = frames_back i;
      }

  module _ (stack_length : length stack ≡ length s.stack) (cache_length : length cache ≡ length s.cache) where
    -- in buffers of the same lengths
    pub room_back : room_of s' ≡ room_of s
    room_back =
        λ i. record {
          contents = front_length p.contents s.contents (let a = right.image.contents in let b = right.contents in omega arith) i;
          bodies = front_length p.bodies s.bodies (let a = right.image.bodies in let b = right.bodies in omega arith) i;
          stack = stack_length i;
          cache = cache_length i;
        }

    -- and check accepts it
    pub flat_back : length s.cache ≡ cache_words → T (cache_fine (objects p) cache) → FlatRight s'
    unfolding plain_of
    flat_back c t =
        let q : PlainRight (room_of s') (plain_of s') = subst (λ (x : Plain). PlainRight (room_of s') x) (sym plain_back) (subst (λ (x : Room). PlainRight x p) (sym room_back) right) in
        record { contents = q.contents; bodies = q.bodies; cache_length = cache_length ∙ c; plain = q; cached = subst (λ (o : Objects). T (cache_fine o cache)) (sym objects_back) t }
