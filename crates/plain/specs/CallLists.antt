-- The statement about whole lists of calls. Its proof is proofs/Theorem.antt.
--
-- Two machines are fed the same list of begin, run, drop and forget calls, refused ones included: the flat one, which works on the lent
-- buffers and checks its state at each call, and the plain one of 01. After each call their answers are equal, the flat state stands for the
-- plain one, and check accepts it; no call meets a bytecode that pops an empty stack, pushes past a frame, leaves its code or touches what is
-- not there; a run does all its bytecodes, or finishes, or halts where a listed cause stands: a send that fails, for want of a method or by a super send
-- of one that can run on the receiver, and whose message is not sent; no boolean for a jump; no room for a frame.
use Rattle.std.specs.Prelude.{ℕ, ◌*◌, ◌≤◌, ◌<◌, ◌≡◌, ◌⊎◌, ◌≢◌, List, [], ◌∷◌}
use Rattle.model.specs.Limits.{entry_words, class_kind, longest_chain, most_stack_words}
use Rattle.model.specs.Objects.{Objects, entry_word, kind, body_words, body_word}
use Rattle.model.specs.Lookup.{ReadsFew}
use Rattle.model.specs.Image.{Room, accepted, load_verdict}
use Rattle.plain.specs.Registers.{running, finished, Cause, phase_of}
use Rattle.plain.specs.State.{Plain, objects}
use Rattle.plain.specs.Causes.{HaltsFor}
use Rattle.plain.specs.Calls.{loaded, Call, begin_call, run_call, drop_call, forget_call, Answer, done, refused_by, result, wrote, Called, called, impossible, call}
use Rattle.plain.specs.Flat.{Flat, room_of, flat_objects, plain_of}
use Rattle.plain.specs.Check.{check}
use Rattle.plain.specs.FlatCalls.{Given, gives, no_answer, flat_load, flat_call}

-- The statement is `FromLoad`: from an accepted load of an image, in buffers of any sufficient lengths and with any stack. `FromChecked` is the
-- same from every state that check accepts. What they speak of stands before them, what follows from them behind.

-- A run halted: its phase is that of a cause, and the cause stands at the top frame's position (specs/Causes.antt has what each of them asks).
abbrev pub Halted : Room → Plain → ℕ → Type 0
Halted room p phase = (cause : Cause) × (phase ≡ phase_of cause) × HaltsFor room p cause p.frames

-- How a run ended, and the state that it left: all n bytecodes made, or finished, or halted for a cause. It stayed inside the stack, and read at most 24
-- dictionaries for each bytecode, so that 64 bits hold their number.
abbrev pub RunEnds : Room → ℕ → Plain → Answer → Type 0
RunEnds room n p (result phase count value reach dictionaries) =
    (count ≤ n) × (reach ≤ room.stack) × (reach ≤ most_stack_words) × (dictionaries ≤ longest_chain * count) × (((phase ≡ running) × (count ≡ n)) ⊎ ((phase ≡ finished) ⊎ Halted room p phase))
RunEnds room n p done = ⊥
RunEnds room n p (refused_by k) = k ≡ 12
RunEnds room n p (wrote k) = ⊥

abbrev pub Ends : Room → Call → Plain → Answer → Type 0
Ends room (begin_call receiver selector arguments) p a = Unit {0}
Ends room (run_call n) p a = RunEnds room n p a
Ends room drop_call p a = a ≡ done
Ends room forget_call p a = a ≡ done

-- What calls leave of the objects: N and B never shrink, no entry changes, and no word of a class, list or method does.
pub record Keeps (o o' : Objects) : Type 0 where
  pub objects : o.n ≤ o'.n
  pub words : o.b ≤ o'.b
  pub entries : (k i : ℕ) → 1 ≤ k → k ≤ o.n → i < entry_words → entry_word o' k i ≡ entry_word o k i
  pub bodies : (k i : ℕ) → 1 ≤ k → k ≤ o.n → class_kind ≤ kind o k → i < body_words o k → body_word o' k i ≡ body_word o k i

-- One call, from a flat state that stands for p, in buffers of these lengths: a and s' are the flat machine's answer and state, a' and p' the
-- plain one's.
pub record Agreed (room : Room) (c : Call) (p : Plain) (a : Answer) (s' : Flat) (a' : Answer) (p' : Plain) : Type 0 where
  pub answer : a ≡ a'
  pub state : plain_of s' ≡ p'
  pub checks : check s' ≡ accepted
  pub lengths : room_of s' ≡ room
  pub never3 : a ≢ refused_by 3
  pub never11 : a ≢ refused_by 11
  pub ends : Ends room c p' a
  pub keeps : Keeps (objects p) (objects p')

-- Both machines answer, they agree, and so they do in what follows.
abbrev pub Together : Room → Call → Plain → Given → Called → (Flat → Plain → Type 0) → Type 0
Together room c p (gives a s') (called a' p') rest = Agreed room c p a s' a' p' × rest s' p'
Together room c p (gives a s') impossible rest = ⊥
Together room c p no_answer (called a' p') rest = ⊥
Together room c p no_answer impossible rest = ⊥

-- The two machines agree on a whole list, call by call.
unfoldable pub Agrees : Room → List Call → Flat → Plain → Type 0
Agrees room [] s p = Unit {0}
Agrees room (c ∷ cs) s p = Together room c p (flat_call s c) (call room p c) (λ s' p'. Agrees room cs s' p')

-- From every state that check accepts, the plain machine starting from the frames and objects that it holds
abbrev pub FromChecked : Type 0
FromChecked = (s : Flat) → check s ≡ accepted → (cs : List Call) → Agrees (room_of s) cs s (plain_of s)

-- From an accepted load, in any buffers and with any stack: load gives a state that stands for the plain machine's start, check accepts it, and
-- the machines agree on every list of calls.
pub record Loads (s : Flat) (image : List ℕ) (s₀ : Flat) : Type 0 where
  pub gave : flat_load s image ≡ gives done s₀
  pub start : plain_of s₀ ≡ loaded image
  pub checks : check s₀ ≡ accepted
  pub agrees : (cs : List Call) → Agrees (room_of s) cs s₀ (loaded image)

abbrev pub FromLoad : Type 0
FromLoad = (s : Flat) (image : List ℕ) → load_verdict (room_of s) image ≡ accepted → (s₀ : Flat) × Loads s image s₀

-- Consequences (proofs/Consequences.antt). Two flat machines: equal answers, and states that stand for the same plain state
abbrev pub Alike : Given → Given → (Flat → Flat → Type 0) → Type 0
Alike (gives a s) (gives a' s') rest = (a ≡ a') × (plain_of s ≡ plain_of s') × rest s s'
Alike (gives a s) no_answer rest = ⊥
Alike no_answer (gives a s) rest = ⊥
Alike no_answer no_answer rest = ⊥

unfoldable pub Same : List Call → Flat → Flat → Type 0
Same [] s s' = Unit {0}
Same (c ∷ cs) s s' = Alike (flat_call s c) (flat_call s' c) (λ t t'. Same cs t t')

-- Machines that load the same image into buffers of the same lengths give the same answers and come to the same states on the same
-- calls, whatever their buffers held before.
abbrev pub Consoles : Type 0
Consoles =
    (s s' : Flat) (image : List ℕ) → room_of s ≡ room_of s' → load_verdict (room_of s) image ≡ accepted
    → (t t' : Flat) × (flat_load s image ≡ gives done t) × (flat_load s' image ≡ gives done t') × ((cs : List Call) → Same cs t t')

-- Over a whole list of calls no word of a class, list or method changes, and N and B never shrink.
abbrev pub next_state : Flat → Given → Flat
next_state s (gives a s') = s'
next_state s no_answer = s

unfoldable pub last_state : Flat → List Call → Flat
last_state s [] = s
last_state s (c ∷ cs) = last_state (next_state s (flat_call s c)) cs

abbrev pub KeepsAll : Type 0
KeepsAll = (s : Flat) → check s ≡ accepted → (cs : List Call) → Keeps (flat_objects s) (flat_objects (last_state s cs))

-- A lookup reads at most 24 dictionaries, and of each the pairs that 02 says, there and after every list of calls (02, M-101, M-102).
abbrev pub LookupsReadFew : Type 0
LookupsReadFew = (s : Flat) → check s ≡ accepted → (cs : List Call) (selector class : ℕ) → ReadsFew (flat_objects (last_state s cs)) selector class

-- After load only run and forget write the cache: every other call leaves it, and so does every call that is refused.
abbrev pub WritesCache : Call → Type 0
WritesCache (begin_call receiver selector arguments) = ⊥
WritesCache (run_call n) = Unit {0}
WritesCache drop_call = ⊥
WritesCache forget_call = Unit {0}

abbrev pub IsRefused : Given → Type 0
IsRefused (gives done s) = ⊥
IsRefused (gives (refused_by k) s) = Unit {0}
IsRefused (gives (result phase count value reach dictionaries) s) = ⊥
IsRefused (gives (wrote k) s) = ⊥
IsRefused no_answer = ⊥

abbrev pub CacheKept : Type 0
CacheKept = (s : Flat) (c : Call) → (WritesCache c → IsRefused (flat_call s c)) → (next_state s (flat_call s c)).cache ≡ s.cache
