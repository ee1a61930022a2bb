-- What load, begin and run gave, one after the other, is the line that step80 is defined to print. The theorem about lists of calls says that
-- the flat states on the way stand for those of the plain machine.
use Prim.Native.Nat.{ℕ}
use mathlib.Core.Path.{◌≡◌, refl, sym, ap, ap₂, ◌∙◌, subst}
use mathlib.Core.Bool.{Bool}
use mathlib.Core.List.{List, [], ◌∷◌}
use borrow.Author.Tests.{eq-eqb, ne_eqb}
use Rattle.model.specs.Image.{Room, Verdict, accepted, refused, load_verdict}
use Rattle.plain.specs.Registers.{running}
use Rattle.plain.specs.State.{Plain}
use Rattle.plain.specs.Calls.{loaded, Begun, begun, declined, begin, after_begin, Ran, ran, stuck, if_running, steps, after_run, run_if, Answer, done, refused_by, result, wrote, Call, begin_call, run_call, call}
use Rattle.plain.specs.Flat.{Flat, room_of, plain_of}
use Rattle.plain.specs.FlatCalls.{Given, gives, no_answer, after_load, flat_load, flat_begin, flat_run, flat_call}
use Rattle.plain.specs.CallLists.{Together, Agrees}
use Rattle.plain.specs.Program.{Line, line, refusal, no_line, line_of_run, line_of_begun, line_of_load, step80_room, step80}
use Rattle.plain.proofs.Theorem.{from_load}

-- ---- an answer as a line, and what was refused

abbrev line_of : Answer → Line
line_of done = no_line
line_of (refused_by k) = refusal k
line_of (result phase count value reach dictionaries) = line phase count value
line_of (wrote k) = no_line

abbrev IsRefused : Answer → Type 0
IsRefused done = ⊥
IsRefused (refused_by k) = Unit {0}
IsRefused (result phase count value reach dictionaries) = ⊥
IsRefused (wrote k) = ⊥

abbrev answer_of : Given → Answer
answer_of (gives a s) = a
answer_of no_answer = done

abbrev state_of : Flat → Given → Flat
state_of s (gives a s') = s'
state_of s no_answer = s

-- ---- load

-- What an accepted load leaves
pub record Ready (image : List ℕ) (s : Flat) : Type 0 where
  pub verdict : load_verdict step80_room image ≡ accepted
  pub start : plain_of s ≡ loaded image
  pub agrees : (cs : List Call) → Agrees step80_room cs s (loaded image)

module _ (s : Flat) (image : List ℕ) (room : room_of s ≡ step80_room) where
  loads : (g : Given) → g ≡ flat_load s image → g ≡ after_load s image (load_verdict step80_room image)
  unfolding flat_load
  loads g e = e ∙ ap (λ (x : Room). after_load s image (load_verdict x image)) room

  pub load_refused : (k : ℕ) (s' : Flat) → gives (refused_by k) s' ≡ flat_load s image → refusal k ≡ step80 image
  unfolding step80
  load_refused k s' e = go (load_verdict step80_room image) (loads (gives (refused_by k) s') e)
    where
      go : (v : Verdict) → gives (refused_by k) s' ≡ after_load s image v → refusal k ≡ line_of_load step80_room (loaded image) v
      go accepted q = absurd (subst IsRefused (ap answer_of q) tt)
      go (refused j) q = ap (λ (g : Given). line_of (answer_of g)) q

  load_accepted : (s' : Flat) → gives done s' ≡ flat_load s image → load_verdict step80_room image ≡ accepted
  load_accepted s' e = go (load_verdict step80_room image) (loads (gives done s') e)
    where
      go : (v : Verdict) → gives done s' ≡ after_load s image v → v ≡ accepted
      go accepted q = refl
      go (refused j) q = absurd (subst IsRefused (sym (ap answer_of q)) tt)

  pub ready : (s₀ : Flat) → gives done s₀ ≡ flat_load s image → Ready image s₀
  ready s₀ e =
      let v = load_accepted s₀ e in
      let l = from_load s image (ap (λ (x : Room). load_verdict x image) room ∙ v) in
      subst (Ready image) (sym (ap (state_of s₀) (e ∙ l.1.gave)))
      (record { verdict = v; start = l.1.start; agrees = λ cs. subst (λ (x : Room). Agrees x cs l.0 (loaded image)) room (l.1.agrees cs) })

-- ---- begin

-- What a begin leaves that was not refused
pub record Began (image : List ℕ) (s : Flat) : Type 0 where
  pub plain : Plain
  pub prints : line_of_run (steps step80_room 1000 plain) ≡ step80 image
  pub stands : plain_of s ≡ plain
  pub agrees : Agrees step80_room (run_call 1000 ∷ []) s plain

module _ (image : List ℕ) (s : Flat) (r : Ready image s) where
  abbrev p : Plain
  p = loaded image

  abbrev start : Call
  start = begin_call p.registers.start_receiver p.registers.start_selector []

  abbrev begins : Begun
  begins = begin step80_room p p.registers.start_receiver p.registers.start_selector []

  prints_begun : line_of_begun step80_room begins ≡ step80 image
  unfolding step80
  prints_begun = sym (ap (line_of_load step80_room p) r.verdict)

  -- the start words are the image's
  abbrev given : Given
  given = flat_begin s s.registers.start_receiver s.registers.start_selector []

  words : given ≡ flat_call s start
  unfolding plain_of flat_call
  words =
      ap₂ (λ (x y : ℕ). flat_begin s x y []) (ap (λ (q : Plain). q.registers.start_receiver) r.start) (ap (λ (q : Plain). q.registers.start_selector) r.start)

  abbrev Both : Given → Begun → Type 0
  Both g x = Together step80_room start p g (after_begin p x) (λ s' p'. Agrees step80_room (run_call 1000 ∷ []) s' p')

  both : (g : Given) → g ≡ given → Both g begins
  both g e = subst (λ (y : Given). Both y begins) (sym (e ∙ words)) (unfold Agrees call in r.agrees (start ∷ run_call 1000 ∷ []))

  pub begin_refused : (k : ℕ) (s' : Flat) → gives (refused_by k) s' ≡ given → refusal k ≡ step80 image
  begin_refused k s' e = go begins (both (gives (refused_by k) s') e) ∙ prints_begun
    where
      go : (x : Begun) → Both (gives (refused_by k) s') x → refusal k ≡ line_of_begun step80_room x
      go (begun p') t = absurd (subst IsRefused t.0.answer tt)
      go (declined j) t = ap line_of t.0.answer

  pub began : (s' : Flat) → gives done s' ≡ given → Began image s'
  began s' e = go begins (both (gives done s') e) prints_begun
    where
      go : (x : Begun) → Both (gives done s') x → line_of_begun step80_room x ≡ step80 image → Began image s'
      go (begun p') t q = record { plain = p'; prints = q; stands = t.0.state; agrees = t.1 }
      go (declined j) t q = absurd (subst IsRefused (sym t.0.answer) tt)

-- ---- run

module _ (image : List ℕ) (s : Flat) (b : Began image s) where
  same_phase : s.registers.phase ≡ b.plain.registers.phase
  unfolding plain_of
  same_phase = ap (λ (q : Plain). q.registers.phase) b.stands

  same_value : s.registers.value ≡ b.plain.registers.value
  unfolding plain_of
  same_value = ap (λ (q : Plain). q.registers.value) b.stands

  -- a begin that answered at once
  pub run_none : (s.registers.phase ≡ 1 → ⊥) → line s.registers.phase 0 s.registers.value ≡ step80 image
  unfolding steps
  run_none n =
      ap₂ (λ (x y : ℕ). line x 0 y) same_phase same_value
      ∙ sym (ap (λ (x : Bool). line_of_run (if_running (λ q. steps step80_room 999 q) step80_room b.plain x)) (ne_eqb b.plain.registers.phase running (λ e. n (same_phase ∙ e))))
      ∙ b.prints

  module _ (e : s.registers.phase ≡ 1) where
    abbrev BothRun : Given → Ran → Type 0
    BothRun g x = Together step80_room (run_call 1000) b.plain g (after_run b.plain x) (λ s' p'. Agrees step80_room [] s' p')

    both_run : (g : Given) → g ≡ flat_run s 1000 → BothRun g (steps step80_room 1000 b.plain)
    both_run g q =
        subst (λ (y : Given). BothRun y (steps step80_room 1000 b.plain)) (sym q)
        (subst (λ (x : Bool). Together step80_room (run_call 1000) b.plain (flat_run s 1000) (run_if step80_room 1000 b.plain x)
        (λ s' p'. Agrees step80_room [] s' p')) (eq-eqb b.plain.registers.phase running (sym same_phase ∙ e))
        (unfold Agrees call flat_call in b.agrees))

    pub run_done : (phase count value reach dictionaries : ℕ) (s' : Flat) → gives (result phase count value reach dictionaries) s' ≡ flat_run s 1000 → line phase count value ≡ step80 image
    run_done phase count value reach dictionaries s' q = go (steps step80_room 1000 b.plain) (both_run (gives (result phase count value reach dictionaries) s') q) ∙ b.prints
      where
        go : (x : Ran) → BothRun (gives (result phase count value reach dictionaries) s') x → line phase count value ≡ line_of_run x
        go (ran k p' ts) t = ap line_of t.0.answer
        go stuck t = absurd t

    -- a refusal, which never comes
    pub run_refused : (k : ℕ) (s' : Flat) → gives (refused_by k) s' ≡ flat_run s 1000 → refusal k ≡ step80 image
    run_refused k s' q = go (steps step80_room 1000 b.plain) (both_run (gives (refused_by k) s') q) ∙ b.prints
      where
        go : (x : Ran) → BothRun (gives (refused_by k) s') x → refusal k ≡ line_of_run x
        go (ran k' p' ts) t = absurd (subst IsRefused t.0.answer tt)
        go stuck t = absurd t
