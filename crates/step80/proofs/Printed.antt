-- From the promises of load, begin and run to the line that is written.
use Prim.Native.Nat.{ℕ}
use mathlib.Core.Path.{◌≡◌, subst}
use mathlib.Core.List.{List, [], ◌++◌}
use lib.ListN.{length, drop}
use Rattle.step80.specs.Counts.{IsPrefixLen}
use Rattle.plain.specs.Flat.{Flat, flat, room_of}
use Rattle.plain.specs.FlatCalls.{gives, flat_load, flat_begin, flat_run}
use Rattle.plain.specs.Program.{Line, line, refusal, step80_room, step80}
use Rattle.plain.specs.Text.{line_bytes}
use Rattle.machine.specs.declared.Registers.{Registers}
use Rattle.std.specs.Prelude.{Result, Ok, Err}
use Rattle.model.specs.declared.numbers.Refusal.{Refusal}
use Rattle.model.specs.Numbers.{number_of}
use Rattle.plain.specs.Calls.{done, refused_by}
use Rattle.step80.specs.Lines.{line_by}
use Rattle.machine.specs.declared.Ran.{Ran}
use Rattle.machine.specs.State.{state, run_gives}
use Rattle.loads.specs.Answers.{loadGives}
use Rattle.step80.proofs.Front.{front_counts}
use Rattle.step80.proofs.Reached.{load_refused, Ready, ready, begin_refused, Began, began, run_none, run_done, run_refused}
use Rattle.plain.specs.Registers as R

-- a line at the front of the buffer, and the count of its bytes
pub printed : (image out out' : List ℕ) (r : ℕ) (l : Line) → l ≡ step80 image → (r ≡ length (line_bytes l)) × (out' ≡ line_bytes l ++ drop r out)
    → IsPrefixLen r out' × ((r ≡ length (line_bytes (step80 image))) × (out' ≡ line_bytes (step80 image) ++ drop r out))
printed image out out' r l e w =
    (front_counts (line_bytes l) (drop r out) out' r w.0 w.1, subst (λ (x : Line). (r ≡ length (line_bytes x)) × (out' ≡ line_bytes x ++ drop r out)) e w)

module _ (image contents bodies stack cache : List ℕ) (lengths : (length contents ≡ 8188) × (length bodies ≡ 24000) × (length stack ≡ 1024) × (length cache ≡ 256)) where
  abbrev s : Flat
  s = flat R.no_registers contents bodies stack cache

  room : room_of s ≡ step80_room
  room = λ i. record { contents = lengths.0 i; bodies = lengths.1 i; stack = lengths.2 i; cache = lengths.3 i }

  module _ (contents₁ bodies₁ cache₁ : List ℕ) where
    pub of_load : (k : Refusal) → ((g : R.Registers) (stack : List ℕ) → loadGives (Err k) contents₁ bodies₁ stack cache₁ ≡ flat_load (flat g contents bodies stack cache) image)
        → refusal (number_of k) ≡ step80 image
    unfolding loadGives
    of_load k l = load_refused s image room (number_of k) (flat R.no_registers contents₁ bodies₁ stack cache₁) (l R.no_registers stack)

    module _ (r : Registers) (l : (g : R.Registers) (stack : List ℕ) → loadGives (Ok r) contents₁ bodies₁ stack cache₁ ≡ flat_load (flat g contents bodies stack cache) image) where
      abbrev s₁ : Flat
      s₁ = state r contents₁ bodies₁ stack cache₁

      starts : Ready image s₁
      unfolding loadGives
      starts = ready s image room s₁ (l R.no_registers stack)

      module _ (contents₂ bodies₂ stack₂ : List ℕ) where
        pub of_begin : (k : Refusal) → gives (refused_by (number_of k)) (state r contents₂ bodies₂ stack₂ cache₁) ≡ flat_begin s₁ r.receiver r.selector []
            → refusal (number_of k) ≡ step80 image
        of_begin k b = begin_refused image s₁ starts (number_of k) (state r contents₂ bodies₂ stack₂ cache₁) b

        module _ (r₂ : Registers) (b : gives done (state r₂ contents₂ bodies₂ stack₂ cache₁) ≡ flat_begin s₁ r.receiver r.selector []) where
          abbrev s₂ : Flat
          s₂ = state r₂ contents₂ bodies₂ stack₂ cache₁

          begins : Began image s₂
          begins = began image s₁ starts s₂ b

          pub of_none : (r₂.phase ≡ 1 → ⊥) → line r₂.phase 0 r₂.value ≡ step80 image
          of_none h = run_none image s₂ begins h

          -- a refusal never comes
          pub of_run : r₂.phase ≡ 1 → (z : Result Ran Refusal) (contents₃ bodies₃ stack₃ cache₃ : List ℕ) → run_gives r₂ z contents₃ bodies₃ stack₃ cache₃ ≡ flat_run s₂ 1000 → line_by z ≡ step80 image
          of_run h (Ok x) contents₃ bodies₃ stack₃ cache₃ n =
              run_done image s₂ begins h x.registers.phase x.count x.registers.value x.reach x.dictionaries (state x.registers contents₃ bodies₃ stack₃ cache₃) n
          of_run h (Err k) contents₃ bodies₃ stack₃ cache₃ n = run_refused image s₂ begins h (number_of k) (state r₂ contents₃ bodies₃ stack₃ cache₃) n
