-- The machine's answers as C has them.
use Prim.Native.Nat.{ℕ, zero, suc}
use mathlib.Core.Path.{◌≡◌, refl, sym, ap, ◌∙◌}
use mathlib.Core.List.{List, [], ◌∷◌}
use lib.ListN.{get_or}
use Rattle.std.specs.Prelude.{Ok, Err}
use Rattle.model.specs.declared.numbers.Refusal.{Refusal}
use Rattle.model.specs.Numbers.{number_of}
use Rattle.model.specs.Image.{Verdict, refused}
use Rattle.store.proofs.Refusals.{number_some}
use Rattle.plain.specs.Registers as R
use Rattle.plain.specs.Flat.{Flat, flat}
use Rattle.plain.specs.Calls.{Answer, done, refused_by, result}
use Rattle.plain.specs.Check.{check}
use Rattle.plain.specs.FlatCalls.{Given, gives, saved, flat_load, flat_run, flat_save}
use Rattle.calls.specs.Plays.{played, unplayed, flat_play}
use Rattle.machine.specs.declared.Registers.{Registers}
use Rattle.machine.specs.declared.Ran.{Ran}
use Rattle.machine.specs.declared.Made.{Made}
use Rattle.machine.specs.State.{registers_of, state}
use Rattle.loads.specs.Answers.{loadGives, saveGives}
use Rattle.sofaduck.specs.Border.{registers_at, state_of, answer_of, verdict_of, KeptIfRefused, run_answer, save_answer, play_answer}

-- registers read from words, and written
pub registers_read : (l : List ℕ)
    → registers_of (record { n = get_or l 0 0; b = get_or l 1 0; receiver = get_or l 2 0; selector = get_or l 3 0; phase = get_or l 4 0; top = get_or l 5 0; value = get_or l 6 0; edition = get_or l 7 0 })
    ≡ registers_at l
unfolding registers_at
registers_read l = refl

pub registers_written : (r : Registers)
    → registers_at (r.n ∷ r.b ∷ r.receiver ∷ r.selector ∷ r.phase ∷ r.top ∷ r.value ∷ r.edition ∷ []) ≡ registers_of r
unfolding registers_at
registers_written r = refl

-- a refusal's number is not 0, so it is told from success
module _ (k : Refusal) where
  answered : (n : ℕ) → n ≡ number_of k → answer_of n ≡ refused_by (number_of k)
  answered zero e = absurd (number_some k (sym e))
  answered (suc j) e = ap refused_by e

  judged : (n : ℕ) → n ≡ number_of k → verdict_of n ≡ refused (number_of k)
  judged zero e = absurd (number_some k (sym e))
  judged (suc j) e = ap refused e

  ran : (n : ℕ) (r : R.Registers) (count reach dictionaries : ℕ) → n ≡ number_of k → run_answer n r count reach dictionaries ≡ refused_by (number_of k)
  ran zero r count reach dictionaries e = absurd (number_some k (sym e))
  ran (suc j) r count reach dictionaries e = ap refused_by e

  kept_image : (n before : ℕ) → n ≡ number_of k → save_answer n before ≡ refused_by (number_of k)
  kept_image zero before e = absurd (number_some k (sym e))
  kept_image (suc j) before e = ap refused_by e

  played_none : (n before : ℕ) (s : Flat) (answers : List ℕ) → n ≡ number_of k → play_answer n before s answers ≡ unplayed (number_of k) s answers
  played_none zero before s answers e = absurd (number_some k (sym e))
  played_none (suc j) before s answers e = ap (λ (i : ℕ). unplayed i s answers) e

  kept : (n before : ℕ) → n ≡ number_of k → KeptIfRefused n before before
  kept zero before e = absurd (number_some k (sym e))
  kept (suc j) before e = refl

-- the same registers, in a state
placed : {a : Answer} {q q' : R.Registers} (contents bodies stack cache : List ℕ) → q ≡ q' → gives a (flat q contents bodies stack cache) ≡ gives a (flat q' contents bodies stack cache)
placed {a} contents bodies stack cache e = λ i. gives a (flat (e i) contents bodies stack cache)

-- ---- load
module _ (image contents bodies cache contents' bodies' cache' words' : List ℕ) where
  pub load_done : (r : Registers) → ((g : R.Registers) (stack : List ℕ) → loadGives (Ok r) contents' bodies' stack cache' ≡ flat_load (flat g contents bodies stack cache) image) → registers_at words' ≡ registers_of r
      → (g : R.Registers) (stack : List ℕ) → gives (answer_of 0) (state_of words' contents' bodies' stack cache') ≡ flat_load (flat g contents bodies stack cache) image
  unfolding loadGives
  load_done r e p g stack = placed contents' bodies' stack cache' p ∙ e g stack

  pub load_refused : (k : Refusal) (n : ℕ) → n ≡ number_of k → ((g : R.Registers) (stack : List ℕ) → loadGives (Err k) contents' bodies' stack cache' ≡ flat_load (flat g contents bodies stack cache) image)
      → registers_at words' ≡ R.no_registers
      → (g : R.Registers) (stack : List ℕ) → gives (answer_of n) (state_of words' contents' bodies' stack cache') ≡ flat_load (flat g contents bodies stack cache) image
  unfolding loadGives
  load_refused k n z e p g stack =
      ap (λ (a : Answer). gives a (state_of words' contents' bodies' stack cache')) (answered k n z) ∙ placed contents' bodies' stack cache' p ∙ e g stack

-- ---- the other calls, from registers in words
module _ (words contents bodies stack cache : List ℕ) (b : Registers) (t : registers_of b ≡ registers_at words) where
  same : state b contents bodies stack cache ≡ state_of words contents bodies stack cache
  same = λ i. flat (t i) contents bodies stack cache

  -- begin, drop and forget
  module _ (call : Flat → Given) (contents' bodies' stack' cache' : List ℕ) where
    pub crossed : (r : Registers) (words' : List ℕ) → gives done (state r contents' bodies' stack' cache') ≡ call (state b contents bodies stack cache) → registers_at words' ≡ registers_of r
        → gives (answer_of 0) (state_of words' contents' bodies' stack' cache') ≡ call (state_of words contents bodies stack cache)
    crossed r words' e p = placed contents' bodies' stack' cache' p ∙ e ∙ ap call same

    pub crossed_refused : (k : Refusal) (n : ℕ) → n ≡ number_of k → gives (refused_by (number_of k)) (state b contents' bodies' stack' cache') ≡ call (state b contents bodies stack cache)
        → gives (answer_of n) (state_of words contents' bodies' stack' cache') ≡ call (state_of words contents bodies stack cache)
    crossed_refused k n z e =
        ap (λ (a : Answer). gives a (state_of words contents' bodies' stack' cache')) (answered k n z) ∙ placed contents' bodies' stack' cache' (sym t) ∙ e ∙ ap call same

  pub check_done : (v : Verdict) → v ≡ check (state b contents bodies stack cache) → v ≡ check (state_of words contents bodies stack cache)
  check_done v e = e ∙ ap check same

  pub check_refused : (k : Refusal) (n : ℕ) → n ≡ number_of k → refused (number_of k) ≡ check (state b contents bodies stack cache) → verdict_of n ≡ check (state_of words contents bodies stack cache)
  check_refused k n z e = judged k n z ∙ e ∙ ap check same

  module _ (output output' : List ℕ) (before : ℕ) where
    pub save_done : (k : ℕ) → saveGives (Ok k) output' ≡ flat_save (state b contents bodies stack cache) output
        → (saved (save_answer 0 k) output' ≡ flat_save (state_of words contents bodies stack cache) output) × KeptIfRefused 0 before k
    unfolding saveGives
    save_done k e = (e ∙ ap (λ (s : Flat). flat_save s output) same, tt)

    pub save_refused : (k : Refusal) (n : ℕ) → n ≡ number_of k → saveGives (Err k) output' ≡ flat_save (state b contents bodies stack cache) output
        → (saved (save_answer n before) output' ≡ flat_save (state_of words contents bodies stack cache) output) × KeptIfRefused n before before
    unfolding saveGives
    save_refused k n z e =
        (ap (λ (a : Answer). saved a output') (kept_image k n before z) ∙ e ∙ ap (λ (s : Flat). flat_save s output) same, kept k n before z)

  module _ (n : ℕ) (contents' bodies' stack' cache' : List ℕ) (count reach dictionaries : ℕ) where
    pub run_done : (x : Ran) (words' : List ℕ)
        → gives (result x.registers.phase x.count x.registers.value x.reach x.dictionaries) (state x.registers contents' bodies' stack' cache') ≡ flat_run (state b contents bodies stack cache) n
        → registers_at words' ≡ registers_of x.registers
        → (gives (run_answer 0 (registers_at words') x.count x.reach x.dictionaries) (state_of words' contents' bodies' stack' cache') ≡ flat_run (state_of words contents bodies stack cache) n)
        × KeptIfRefused 0 count x.count × KeptIfRefused 0 reach x.reach × KeptIfRefused 0 dictionaries x.dictionaries
    run_done x words' e p = (
      (λ i. gives (result (p i).phase x.count (p i).value x.reach x.dictionaries) (flat (p i) contents' bodies' stack' cache')) ∙ e ∙ ap (λ (s : Flat). flat_run s n) same,
      tt,
      tt,
      tt,
    )

    pub run_refused : (k : Refusal) (m : ℕ) → m ≡ number_of k → gives (refused_by (number_of k)) (state b contents' bodies' stack' cache') ≡ flat_run (state b contents bodies stack cache) n
        → (gives (run_answer m (registers_at words) count reach dictionaries) (state_of words contents' bodies' stack' cache') ≡ flat_run (state_of words contents bodies stack cache) n)
        × KeptIfRefused m count count × KeptIfRefused m reach reach × KeptIfRefused m dictionaries dictionaries
    run_refused k m z e = (
      ap (λ (a : Answer). gives a (state_of words contents' bodies' stack' cache')) (ran k m (registers_at words) count reach dictionaries z)
          ∙ placed contents' bodies' stack' cache' (sym t) ∙ e ∙ ap (λ (s : Flat). flat_run s n) same,
      kept k m count z,
      kept k m reach z,
      kept k m dictionaries z,
    )

  module _ (calls answers contents' bodies' stack' cache' answers' : List ℕ) (before : ℕ) where
    pub play_done : (m : Made) (words' : List ℕ) → played m.calls (state m.registers contents' bodies' stack' cache') answers' ≡ flat_play (state b contents bodies stack cache) calls answers
        → registers_at words' ≡ registers_of m.registers
        → (play_answer 0 m.calls (state_of words' contents' bodies' stack' cache') answers' ≡ flat_play (state_of words contents bodies stack cache) calls answers)
        × KeptIfRefused 0 before m.calls
    play_done m words' e p =
        ((λ i. played m.calls (flat (p i) contents' bodies' stack' cache') answers') ∙ e ∙ ap (λ (s : Flat). flat_play s calls answers) same, tt)

    pub play_refused : (k : Refusal) (n : ℕ) → n ≡ number_of k → unplayed (number_of k) (state b contents' bodies' stack' cache') answers' ≡ flat_play (state b contents bodies stack cache) calls answers
        → (play_answer n before (state_of words contents' bodies' stack' cache') answers' ≡ flat_play (state_of words contents bodies stack cache) calls answers)
        × KeptIfRefused n before before
    play_refused k n z e = (
      played_none k n before (state_of words contents' bodies' stack' cache') answers' z
          ∙ (λ i. unplayed (number_of k) (flat (sym t i) contents' bodies' stack' cache') answers') ∙ e ∙ ap (λ (s : Flat). flat_play s calls answers) same,
      kept k n before z,
    )
