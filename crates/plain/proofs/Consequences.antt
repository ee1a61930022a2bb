-- What follows from the theorem: consoles agree, handlers change no code, check accepts what calls leave, and lookups read few dictionaries. And what follows from the calls alone: who writes
-- the cache.
use Prim.Native.Nat.{ℕ, ◌+◌, ◌/◌, ◌≤◌, ◌<◌}
use mathlib.Core.Path.{◌≡◌, refl, sym, ap, ap₂, ◌∙◌, subst}
use mathlib.Core.Bool.{Bool, true, false}
use mathlib.Core.List.{List, [], ◌∷◌}
use native.Mathlib.Omega.{arith}
use lib.Dec.{eqb}
use Rattle.bytecode.specs.Test.{when◌then◌else◌}
use Rattle.model.specs.Limits.{class_kind}
use Rattle.model.specs.Objects.{Objects, body_words, sized_in_bytes}
use Rattle.model.specs.Image.{Room, Verdict, accepted, refused, load_verdict}
use Rattle.plain.specs.Registers.{running}
use Rattle.plain.specs.State.{Plain, objects}
use Rattle.plain.specs.Calls.{loaded, Begun, begun, declined, begin, Ran, ran, stuck, steps, dropped, Call, begin_call, run_call, drop_call, forget_call, Answer, done, Called, called, impossible, call}
use Rattle.plain.specs.Cache.{empty_cache}
use Rattle.plain.specs.Flat.{Flat, room_of, flat_objects, plain_of}
use Rattle.plain.specs.Check.{check}
use Rattle.plain.specs.FlatCalls as F
use Rattle.plain.specs.FlatCalls.{Given, gives, no_answer, checked, flat_begin, flat_run, flat_drop, flat_forget, flat_call}
use Rattle.plain.specs.CallLists.{Keeps, Together, Agrees, Alike, Same, Consoles, next_state, last_state, KeepsAll, LookupsReadFew, IsRefused, CacheKept}
use Rattle.plain.specs.Reach.{state_after}
use Rattle.model.proofs.LookupLaws.{reads_few}
use Rattle.plain.proofs.FlatLaws.{check_right}
use Rattle.plain.proofs.Theorem.{from_checked, from_load}

-- Two flat machines, in buffers of these lengths, that agree with plain machines whose calls are the same: while the calls are as P asks, they are alike.
module _ (room room' : Room) (P : List Call → Plain → Type 0)
    (goes : (c : Call) (cs : List Call) (p : Plain) → P (c ∷ cs) p → (call room' p c ≡ call room p c) × P cs (state_after p (call room p c))) where
  alike : (c : Call) (cs : List Call) (p : Plain) (g g' : Given) (h : Called) → ((s s' : Flat) (q : Plain) → P cs q → Agrees room cs s q → Agrees room' cs s' q → Same cs s s')
      → P cs (state_after p h) → Together room c p g h (Agrees room cs) → Together room' c p g' h (Agrees room' cs) → Alike g g' (Same cs)
  alike c cs p (gives a s) (gives a' s') (called x q) again n t t' =
      (t.0.answer ∙ sym t'.0.answer, t.0.state ∙ sym t'.0.state, again s s' q n t.1 t'.1)
  alike c cs p (gives a s) no_answer (called x q) again n t t' = absurd t'
  alike c cs p no_answer g' (called x q) again n t t' = absurd t
  alike c cs p (gives a s) g' impossible again n t t' = absurd t
  alike c cs p no_answer g' impossible again n t t' = absurd t

  pub same_calls : (cs : List Call) (s s' : Flat) (p : Plain) → P cs p → Agrees room cs s p → Agrees room' cs s' p → Same cs s s'
  unfolding Agrees Same
  same_calls [] s s' p n a b = tt
  same_calls (c ∷ cs) s s' p n a b =
      let g = goes c cs p n in
      alike c cs p (flat_call s c) (flat_call s' c) (call room p c) (λ t t' q m x y. same_calls cs t t' q m x y) g.1 a
      (subst (λ (h : Called). Together room' c p (flat_call s' c) h (Agrees room' cs)) g.0 b)

pub consoles : Consoles
consoles s s' image e a =
    let l = from_load s image a in
    let l' = from_load s' image (subst (λ (r : Room). load_verdict r image ≡ accepted) e a) in (
      l.0,
      l'.0,
      l.1.gave,
      l'.1.gave,
      λ cs. same_calls (room_of s) (room_of s) (λ ds p. Unit {0}) (λ c ds p u. (refl, tt)) cs l.0 l'.0 (loaded image) tt (l.1.agrees cs) (subst (λ (r : Room). Agrees r cs l'.0 (loaded image)) (sym e) (l'.1.agrees cs)),
    )

-- ---- what is kept

keeps_refl : (o : Objects) → Keeps o o
keeps_refl o = record { objects = omega arith; words = omega arith; entries = λ k i a b c. refl; bodies = λ k i a b c d. refl }

body_words_lem : (o o' : Objects) → Keeps o o' → (k : ℕ) → 1 ≤ k → k ≤ o.n → body_words o' k ≡ body_words o k
unfolding body_words
body_words_lem o o' x k a b =
    ap₂ (λ (kd sz : ℕ). when sized_in_bytes kd then (sz + 1) / 2 else sz) (x.entries k 1 a b (omega arith)) (x.entries k 3 a b (omega arith))

keeps_trans : (o o' o'' : Objects) → Keeps o o' → Keeps o' o'' → Keeps o o''
keeps_trans o o' o'' x y =
    record {
      objects = let a = x.objects in let b = y.objects in omega arith;
      words = let a = x.words in let b = y.words in omega arith;
      entries = λ k i a
          b c. y.entries k i a (let d = x.objects in omega arith) c ∙ x.entries k i a b c;
      bodies = λ k i a b c d. y.bodies k i a
          (let e = x.objects in omega arith) (subst (λ (z : ℕ). class_kind ≤ z) (sym (x.entries k 1 a b (omega arith))) c)
          (subst (λ (z : ℕ). i < z) (sym (body_words_lem o o' x k a b)) d) ∙ x.bodies k i a b c d;
    }

kept_next : (room : Room) (c : Call) (cs : List Call) (s : Flat) (g : Given) (h : Called)
    → ((s' : Flat) (p' : Plain) → plain_of s' ≡ p' → Agrees room cs s' p' → Keeps (flat_objects s') (flat_objects (last_state s' cs)))
    → Together room c (plain_of s) g h (Agrees room cs) → Keeps (flat_objects s) (flat_objects (last_state (next_state s g) cs))
unfolding plain_of
kept_next room c cs s (gives a s') (called x p') again t =
    keeps_trans (flat_objects s) (flat_objects s') (flat_objects (last_state s' cs))
    (subst (λ (q : Plain). Keeps (flat_objects s) (objects q)) (sym t.0.state) t.0.keeps) (again s' p' t.0.state t.1)
kept_next room c cs s (gives a s') impossible again t = absurd t
kept_next room c cs s no_answer (called x p') again t = absurd t
kept_next room c cs s no_answer impossible again t = absurd t

keeps_list : (room : Room) (cs : List Call) (s : Flat) (p : Plain) → plain_of s ≡ p → Agrees room cs s p → Keeps (flat_objects s) (flat_objects (last_state s cs))
unfolding Agrees last_state
keeps_list room [] s p e a = keeps_refl (flat_objects s)
keeps_list room (c ∷ cs) s p e a =
    kept_next room c cs s (flat_call s c) (call room (plain_of s) c) (λ s' p' q x. keeps_list room cs s' p' q x)
    (subst (λ (q : Plain). Together room c q (flat_call s c) (call room q c) (Agrees room cs)) (sym e) a)

pub keeps_all : KeepsAll
keeps_all s e cs = keeps_list (room_of s) cs s (plain_of s) refl (from_checked s e cs)

-- ---- the cache

-- a refused call changes nothing
unchanged : (s : Flat) (v : Verdict) (g : Given) → (IsRefused g → next_state s g ≡ s) → IsRefused (checked s v g) → next_state s (checked s v g) ≡ s
unchanged s accepted g h r = h r
unchanged s (refused k) g h r = refl

begin_keeps : (s : Flat) (v : Verdict) (x : Begun) → (next_state s (checked s v (F.flat_after_begin s x))).cache ≡ s.cache
begin_keeps s accepted (begun p) = refl
begin_keeps s accepted (declined k) = refl
begin_keeps s (refused k) x = refl

drop_keeps : (s : Flat) (v : Verdict) (p : Plain) → (next_state s (checked s v (gives done (F.with_plain s p s.stack s.cache)))).cache ≡ s.cache
drop_keeps s accepted p = refl
drop_keeps s (refused k) p = refl

run_refused : (s : Flat) (n : ℕ) (b : Bool) → IsRefused (F.flat_run_if s n b) → next_state s (F.flat_run_if s n b) ≡ s
run_refused s n true r = go (steps (room_of s) n (plain_of s)) r
  where
    go : (x : Ran) → IsRefused (F.flat_after_run s x) → next_state s (F.flat_after_run s x) ≡ s
    go (ran k p ts) r = absurd r
    go stuck r = absurd r
run_refused s n false r = refl

pub cache_kept : CacheKept
unfolding flat_call flat_begin flat_run flat_drop flat_forget
cache_kept s (begin_call receiver selector arguments) h = begin_keeps s (check s) (begin (room_of s) (plain_of s) receiver selector arguments)
cache_kept s (run_call n) h =
    ap (λ (x : Flat). x.cache) (unchanged s (check s) (F.flat_run_if s n (eqb s.registers.phase running)) (run_refused s n (eqb s.registers.phase running)) (h tt))
cache_kept s drop_call h = drop_keeps s (check s) (dropped (plain_of s))
cache_kept s forget_call h = ap (λ (x : Flat). x.cache)
    (unchanged s (check s) (gives done (record { registers = s.registers; contents = s.contents; bodies = s.bodies; stack = s.stack; cache = empty_cache }))
    (λ r. absurd r) (h tt))

-- ---- check, after a call and after a list of calls

pub call_checks : (s s' : Flat) (a : Answer) (c : Call) → check s ≡ accepted → gives a s' ≡ flat_call s c → check s' ≡ accepted
unfolding Agrees
call_checks s s' a c e g =
    go (call (room_of s) (plain_of s) c)
    (subst (λ (x : Given). Together (room_of s) c (plain_of s) x (call (room_of s) (plain_of s) c) (Agrees (room_of s) [])) (sym g) (from_checked s e (c ∷ [])))
  where
    go : (h : Called) → Together (room_of s) c (plain_of s) (gives a s') h (Agrees (room_of s) []) → check s' ≡ accepted
    go (called a' p') t = t.0.checks
    go impossible t = absurd t

last_by : (room : Room) (c : Call) (cs : List Call) (p : Plain) (s : Flat) (g : Given) (h : Called) → ((s' : Flat) (p' : Plain) → Agrees room cs s' p'
    → check s' ≡ accepted → check (last_state s' cs) ≡ accepted)
    → Together room c p g h (Agrees room cs) → check (last_state (next_state s g) cs) ≡ accepted
last_by room c cs p s (gives a s') (called a' p') again t = again s' p' t.1 t.0.checks
last_by room c cs p s (gives a s') impossible again t = absurd t
last_by room c cs p s no_answer (called a' p') again t = absurd t
last_by room c cs p s no_answer impossible again t = absurd t

pub last_checks : (room : Room) (cs : List Call) (s : Flat) (p : Plain) → Agrees room cs s p → check s ≡ accepted → check (last_state s cs) ≡ accepted
unfolding Agrees last_state
last_checks room [] s p a e = e
last_checks room (c ∷ cs) s p a e = last_by room c cs p s (flat_call s c) (call room p c) (λ s' p' x y. last_checks room cs s' p' x y) a

pub lookups_read_few : LookupsReadFew
unfolding plain_of
lookups_read_few s e cs selector class =
    reads_few (check_right (last_state s cs) (last_checks (room_of s) cs s (plain_of s) (from_checked s e cs) e)).plain.image selector class
