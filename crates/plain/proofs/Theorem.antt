-- The two machines agree on every list of calls: the statements are in specs/CallLists.antt.
use Prim.Native.Nat.{ℕ, suc, ◌*◌, ◌≤◌}
use mathlib.Core.Path.{◌≡◌, refl, sym, ap, ◌∙◌, subst}
use mathlib.Core.Logic.{inl, inr, ◌≢◌}
use mathlib.Core.Bool.{Bool, true, false}
use mathlib.Core.List.{List, [], ◌∷◌}
use native.Mathlib.Omega.{arith}
use borrow.Author.Tests.{eqb-true}
use lib.Dec.{T, eqb}
use lib.ListN.{length, length-replicate}
use Rattle.model.specs.Limits.{cache_words, longest_chain}
use Rattle.model.specs.Objects.{Objects}
use Rattle.model.specs.Image.{Room, Verdict}
use Rattle.model.proofs.Facts.{Right}
use Rattle.model.proofs.Extends.{Extends, extends_refl}
use Rattle.model.proofs.Unchanged.{walk_same}
use Rattle.plain.specs.Registers.{idle, running, has_frames}
use Rattle.plain.specs.State.{Plain, objects}
use Rattle.plain.specs.Calls.{loaded, Begun, begun, declined, begin, Ran, ran, stuck, steps, reach_of, dictionaries_of, dropped, Call, begin_call, run_call, drop_call, forget_call, Answer, done, refused_by, result, wrote, Called, called, impossible, call, after_begin, after_run, run_if}
use Rattle.plain.specs.Cache.{empty_cache, cache_fine}
use Rattle.plain.specs.Flat.{Flat, room_of, flat_objects, plain_of, frames_from}
use Rattle.plain.specs.Check.{check}
use Rattle.plain.specs.FlatCalls as F
use Rattle.plain.specs.FlatCalls.{Given, gives, no_answer, checked, with_plain, laid, stack_after, cache_after, flat_load, after_load, flat_begin, flat_run, flat_drop, flat_forget, flat_call}
use Rattle.plain.specs.CallLists.{Halted, RunEnds, Ends, Keeps, Together, Agrees, FromChecked, FromLoad}
use Rattle.plain.proofs.LaidLaws.{laid_back, length_laid}
use Rattle.plain.proofs.Preserve.{Shape, runs, ends}
use Rattle.plain.proofs.StateLaws.{PlainRight, Stands, goes, rests, waits}
use Rattle.plain.proofs.CacheLaws.{cache_kept, cache_empty}
use Rattle.plain.proofs.RunLaws.{Stood, Inside, RunGoes}
use Rattle.plain.proofs.BeginLaws.{dropped_right, OwnNumber, BegunRight, BeginGoes, begins}
use Rattle.plain.proofs.FlatLaws.{FlatRight, check_right, right_check, plain_back, room_back, flat_back}
use Rattle.plain.proofs.LoadLaws.{Accepted, accepts, loaded_right, loaded_stood}
use Rattle.plain.proofs.Worlds.{worlds}
use Rattle.plain.proofs.TurnLaws.{flat_runs}

-- ---- answers are told apart

number_of_lem : Answer → ℕ
number_of_lem done = 0
number_of_lem (refused_by k) = k
number_of_lem (result p k v h d) = 0
number_of_lem (wrote k) = 0

other_number : (a : Answer) (k : ℕ) → (number_of_lem a ≡ k → ⊥) → a ≢ refused_by k
unfolding number_of_lem
other_number a k h e = h (ap number_of_lem e)

-- ---- objects that are kept

keeps : {e e' : ℕ} (o o' : Objects) → Right e o → Right e' o' → Extends o o' → Keeps o o'
keeps o o' r r' x =
    record { objects = x.grows; words = let a = r.bodies in let b = r'.bodies in let c = x.longer in omega arith; entries = x.entries; bodies = x.bodies }

-- ---- how a run ends

run_ends : (room : Room) (n k reach read : ℕ) (p : Plain) → k ≤ n → (p.registers.phase ≡ running → k ≡ n) → (p.registers.phase ≡ idle → ⊥)
    → (3 ≤ p.registers.phase → Halted room p p.registers.phase) → Inside room reach → read ≤ longest_chain * k → Stands room.stack p
    → RunEnds room n p (result p.registers.phase k p.registers.value reach read)
run_ends room n k reach read p m w i h x few (goes (runs a b f)) = (m, x.stack, x.most, few, inl (a, w a))
run_ends room n k reach read p m w i h x few (goes (ends a b c f)) = (m, x.stack, x.most, few, inr (inl a))
run_ends room n k reach read p m w i h x few (rests a b c f) = absurd (i a)
run_ends room n k reach read p m w i h x few (waits a b c f) = (m, x.stack, x.most, few, inr (inr (h a)))

-- ---- one call

module _ (s : Flat) (right : FlatRight s) where
  abbrev room : Room
  room = room_of s

  abbrev p : Plain
  p = plain_of s

  -- what holds of the plain state that a call left, and of the flat one that stands for it
  abbrev Both : Call → Given → Called → Type 0
  Both c g h = Together room c p g h (λ s' p'. FlatRight s' × (plain_of s' ≡ p') × (room_of s' ≡ room))

  passes : (g : Given) → checked s (check s) g ≡ g
  passes g = ap (λ (v : Verdict). checked s v g) (right_check s right)

  cached : T (cache_fine (objects p) s.cache)
  unfolding plain_of
  cached = right.cached

  -- a refused call
  refuses : (c : Call) (k : ℕ) → OwnNumber k → Ends room c p (refused_by k) → Both c (gives (refused_by k) s) (called (refused_by k) p)
  unfolding number_of_lem
  refuses c k n e = (
    record {
      answer = refl;
      state = refl;
      checks = right_check s right;
      lengths = refl;
      never3 = other_number (refused_by k) 3 n.not_3;
      never11 =
          other_number (refused_by k) 11 n.not_11;
      ends = e;
      keeps = keeps (objects p) (objects p)
          right.plain.image right.plain.image (extends_refl (objects p));
    },
    (right, refl, refl),
  )

  -- a call that leads to a right plain state, laid into the buffers
  leads : (c : Call) (a : Answer) (p' : Plain) (stack cache : List ℕ) → PlainRight room p' → Extends (objects p) (objects p') → Stood p' stack
      → length stack ≡ length s.stack → length cache ≡ length s.cache → T (cache_fine (objects p') cache) → a ≢ refused_by 3 → a ≢ refused_by 11 → Ends room c p' a
      → Both c (gives a (with_plain s p' stack cache)) (called a p')
  leads c a p' stack cache r x st ls lc t n3 n11 e =
      let f = flat_back s p' stack cache r st ls lc right.cache_length t in (
        record {
          answer = refl;
          state = plain_back s p' stack cache r st;
          checks = right_check (with_plain s p' stack cache) f;
          lengths = room_back s p' stack
              cache r st ls lc;
          never3 = n3;
          never11 = n11;
          ends = e;
          keeps = keeps (objects p) (objects p') right.plain.image r.image x;
        },
        (f, plain_back s p' stack cache r st, room_back s p' stack cache r st ls lc),
      )

  -- begin
  begin_stood : (p' : Plain) → BegunRight room p p' → Stood p' (laid s.stack 0 p'.frames)
  begin_stood p' b e = by_shape b.shape
    where
      by_shape : Shape room.stack p' → frames_from (suc p'.registers.top) (objects p') (laid s.stack 0 p'.frames) p'.registers.top ≡ p'.frames
      by_shape (runs x y f) =
          ap (λ (k : ℕ). frames_from (suc p'.registers.top) (objects p') (laid s.stack k p'.frames) p'.registers.top) (sym b.bottom)
          ∙ laid_back p'.registers.edition (objects p') room.stack s.stack refl p'.frames p'.registers.top f
      by_shape (ends x y z f) = absurd (subst (λ (k : ℕ). T (has_frames k)) x (subst T (sym e) tt))

  begin_agrees : (receiver selector : ℕ) (arguments : List ℕ) (x : Begun) → BeginGoes room p x
      → Both (begin_call receiver selector arguments) (F.flat_after_begin s x) (after_begin p x)
  unfolding number_of_lem
  begin_agrees receiver selector arguments (begun p') g =
      leads (begin_call receiver selector arguments) done p' (laid s.stack 0 p'.frames) s.cache g.right g.extends (begin_stood p' g)
      (length_laid s.stack 0 p'.frames) refl (cache_kept (objects p) (objects p') (walk_same g.extends right.plain.image) s.cache cached)
      (other_number done 3 (λ e. omega arith)) (other_number done 11 (λ e. omega arith)) tt
  begin_agrees receiver selector arguments (declined k) g = refuses (begin_call receiver selector arguments) k g tt

  -- run
  run_agrees : (n : ℕ) → p.registers.phase ≡ running → (x : Ran) → RunGoes room (worlds room) n p s.stack s.cache x → Both (run_call n) (F.flat_after_run s x) (after_run p x)
  unfolding number_of_lem
  run_agrees n i (ran k p' ts) g =
      leads (run_call n) (result p'.registers.phase k p'.registers.value (reach_of p ts) (dictionaries_of ts)) p' (stack_after s.stack ts) (cache_after s.cache ts) g.right g.extends g.stood
      g.stack_length g.cache_length g.cached (other_number (result p'.registers.phase k p'.registers.value (reach_of p ts) (dictionaries_of ts)) 3 (λ e. omega arith))
      (other_number (result p'.registers.phase k p'.registers.value (reach_of p ts) (dictionaries_of ts)) 11 (λ e. omega arith))
      (run_ends room n k (reach_of p ts) (dictionaries_of ts) p' g.made g.whole (g.busy (λ e. omega arith)) (g.halts (omega arith)) g.reach g.few g.right.stands)
  run_agrees n i stuck g = absurd g

  run_by : (n : ℕ) (b : Bool) → eqb s.registers.phase running ≡ b → Both (run_call n) (F.flat_run_if s n b) (run_if room n p b)
  unfolding plain_of
  run_by n true e =
      run_agrees n (eqb-true s.registers.phase running e) (steps room n p) (flat_runs s right n)
  run_by n false e = refuses (run_call n) 12 (record { not_3 = λ z. omega arith; not_11 = λ z. omega arith }) refl

  -- forget
  forget_agrees : Both forget_call (gives done (record { registers = s.registers; contents = s.contents; bodies = s.bodies; stack = s.stack; cache = empty_cache })) (called done p)
  unfolding plain_of number_of_lem
  forget_agrees = (
    record {
      answer = refl;
      state = refl;
      checks = right_check s₁ right₁;
      lengths = lengths₁;
      never3 = other_number done 3 (λ e. omega arith);
      never11 =
          other_number done 11 (λ e. omega arith);
      ends = refl;
      keeps = keeps (objects p) (objects p)
          right.plain.image right.plain.image (extends_refl (objects p));
    },
    (right₁, refl, lengths₁),
  )
    where
      s₁ : Flat
      s₁ = record { registers = s.registers; contents = s.contents; bodies = s.bodies; stack = s.stack; cache = empty_cache }

      empty : length empty_cache ≡ cache_words
      empty = length-replicate {A = ℕ} cache_words 0

      lengths₁ : room_of s₁ ≡ room
      lengths₁ = λ i. record { contents = length s.contents; bodies = length s.bodies; stack = length s.stack; cache = (empty ∙ sym right.cache_length) i }

      right₁ : FlatRight s₁
      right₁ =
          record {
            contents = right.contents;
            bodies = right.bodies;
            cache_length = empty;
            plain = subst (λ (x : Room). PlainRight x p) (sym lengths₁)
                right.plain;
            cached = cache_empty (flat_objects s);
          }

  call_agrees : (c : Call) → Both c (flat_call s c) (call room p c)
  unfolding flat_call call flat_begin flat_run flat_drop flat_forget
  call_agrees (begin_call receiver selector arguments) =
      subst (λ (g : Given). Both (begin_call receiver selector arguments) g (after_begin p (begin room p receiver selector arguments)))
      (sym (passes (F.flat_after_begin s (begin room p receiver selector arguments))))
      (begin_agrees receiver selector arguments (begin room p receiver selector arguments) (begins room (worlds room) p right.plain receiver selector arguments))
  call_agrees (run_call n) =
      subst (λ (g : Given). Both (run_call n) g (run_if room n p (eqb p.registers.phase running))) (sym (passes (F.flat_run_if s n (eqb s.registers.phase running))))
      (unfold plain_of in run_by n (eqb s.registers.phase running) refl)
  call_agrees drop_call =
      subst (λ (g : Given). Both drop_call g (called done (dropped p))) (sym (passes (gives done (with_plain s (dropped p) s.stack s.cache)))) dropped_agrees
    where
      dropped_agrees : Both drop_call (gives done (with_plain s (dropped p) s.stack s.cache)) (called done (dropped p))
      dropped_agrees = unfold dropped number_of_lem in
          leads drop_call done (dropped p) s.stack s.cache (dropped_right room p right.plain) (extends_refl (objects p)) (λ e. absurd (subst T (sym e) tt)) refl refl cached
          (other_number done 3 (λ e. omega arith)) (other_number done 11 (λ e. omega arith)) refl
  call_agrees forget_call =
      subst (λ (g : Given). Both forget_call g (called done p))
      (sym (passes (gives done (record { registers = s.registers; contents = s.contents; bodies = s.bodies; stack = s.stack; cache = empty_cache })))) forget_agrees

-- ---- a list of calls

-- both machines answered and agree: what follows holds of the states that they left
onward : (room : Room) (c : Call) (p : Plain) (g : Given) (h : Called) (rest rest' : Flat → Plain → Type 0) → ((s' : Flat) (p' : Plain) → rest s' p' → rest' s' p')
    → Together room c p g h rest → Together room c p g h rest'
onward room c p (gives a s') (called a' p') rest rest' f t = (t.0, f s' p' t.1)
onward room c p (gives a s') impossible rest rest' f t = t
onward room c p no_answer (called a' p') rest rest' f t = t
onward room c p no_answer impossible rest rest' f t = t

pub agrees : (cs : List Call) (s : Flat) → FlatRight s → Agrees (room_of s) cs s (plain_of s)
unfolding Agrees
agrees [] s r = tt
agrees (c ∷ cs) s r =
    onward (room_of s) c (plain_of s) (flat_call s c) (call (room_of s) (plain_of s) c) (λ s' p'. FlatRight s' × (plain_of s' ≡ p') × (room_of s' ≡ room_of s)) (Agrees (room_of s) cs)
    (λ s' p' t. subst (λ (x : Room). Agrees x cs s' p') t.2 (subst (λ (x : Plain). Agrees (room_of s') cs s' x) t.1 (agrees cs s' t.0)))
    (call_agrees s r c)

-- THE THEOREM, from every state that check accepts
pub from_checked : FromChecked
from_checked s e cs = agrees cs s (check_right s e)

-- and from an accepted load
pub from_load : FromLoad
from_load s image e = (
  s₀,
  record {
    gave = gave';
    start = start';
    checks = right_check s₀ right₀;
    agrees = λ cs. subst (λ (x : Room). Agrees x cs s₀ (loaded image)) lengths'
        (subst (λ (x : Plain). Agrees (room_of s₀) cs s₀ x) start' (agrees cs s₀ right₀));
  },
)
  where
    a : Accepted (room_of s) image
    a = accepts (room_of s) image e

    s₀ : Flat
    s₀ = with_plain s (loaded image) s.stack empty_cache

    right' : PlainRight (room_of s) (loaded image)
    right' = loaded_right (room_of s) image a

    empty : length empty_cache ≡ length s.cache
    empty = length-replicate {A = ℕ} cache_words 0 ∙ sym a.cache

    start' : plain_of s₀ ≡ loaded image
    start' = plain_back s (loaded image) s.stack empty_cache right' (loaded_stood image s.stack)

    lengths' : room_of s₀ ≡ room_of s
    lengths' = room_back s (loaded image) s.stack empty_cache right' (loaded_stood image s.stack) refl empty

    right₀ : FlatRight s₀
    right₀ = flat_back s (loaded image) s.stack empty_cache right' (loaded_stood image s.stack) refl empty a.cache (cache_empty (objects (loaded image)))

    gave' : flat_load s image ≡ gives done s₀
    gave' = unfold flat_load in ap (after_load s image) e
