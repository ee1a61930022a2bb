-- Bytecodes that were made, as turns of the flat state.
use Prim.Native.Nat.{ℕ, suc, ◌*◌}
use mathlib.Core.Path.{◌≡◌, refl, sym, ap, ◌∙◌}
use mathlib.Core.Bool.{true}
use mathlib.Core.List.{List}
use lib.Dec.{T}
use lib.ListN.{length}
use Rattle.model.specs.Limits.{entry_words}
use Rattle.model.specs.Objects.{objects_at}
use Rattle.model.specs.Image.{Room}
use Rattle.plain.specs.Registers.{Registers}
use Rattle.plain.specs.Step.{Stepped, no_lookup, step}
use Rattle.plain.specs.Cache.{filled}
use Rattle.plain.specs.Flat.{Flat, flat, plain_of}
use Rattle.plain.specs.FlatCalls.{at_front, laid, with_plain}
use Rattle.plain.specs.Running.{Runs, running_with, running_at, Moved, Made}
use Rattle.plain.proofs.FrameLaws.{right_frames}
use Rattle.plain.proofs.Preserve.{runs, ends}
use Rattle.plain.proofs.StateLaws.{Stands, goes, rests, waits}
use Rattle.plain.proofs.FlatLaws.{FlatRight}
use Rattle.model.proofs.Lent.{front_same, contents_room}
use native.Mathlib.Omega.{arith}

-- a bytecode that moves the top frame on, as one that was made
pub moved_made : (n b top : ℕ) (contents bodies stack cache bodies' stack' : List ℕ) → Runs n b top contents bodies stack → Moved n b top contents bodies stack bodies' stack'
    → (e receiver selector : ℕ) (room : Room)
    → Made (step room (running_at e receiver selector n b top contents bodies stack)) 0 (running_with e receiver selector n b top) contents bodies stack cache contents bodies' stack' cache
unfolding filled
moved_made n b top contents bodies stack cache bodies' stack' r m e receiver selector room =
    let x = m e receiver selector room in
    record {
      state = x.state;
      lookup = no_lookup;
      steps = x.steps;
      reads = refl;
      registers = x.registers;
      entries = sym (ap (λ (l : List ℕ). at_front l contents)
          x.contents ∙ front_same (entry_words * n) contents (contents_room n b contents bodies r.right));
      words = x.words;
      frames = x.frames
          ∙ ap (λ (t : ℕ). laid stack t x.state.frames) (sym (ap (λ (g : Registers). g.top) x.registers));
      cached = refl;
    }

-- the same step under another name
pub made_as : {x y : Stepped} {read : ℕ} {r : Registers} {contents bodies stack cache contents' bodies' stack' cache' : List ℕ} → x ≡ y
    → Made y read r contents bodies stack cache contents' bodies' stack' cache' → Made x read r contents bodies stack cache contents' bodies' stack' cache'
made_as e m =
    record { state = m.state; lookup = m.lookup; steps = e ∙ m.steps; reads = m.reads; registers = m.registers; entries = m.entries; words = m.words; frames = m.frames; cached = m.cached }

pub made_flat : (r₀ : Registers) {x : Stepped} {read : ℕ} {r : Registers} {contents bodies stack cache contents' bodies' stack' cache' : List ℕ}
    (m : Made x read r contents bodies stack cache contents' bodies' stack' cache')
    → flat r contents' bodies' stack' cache' ≡ with_plain (flat r₀ contents bodies stack cache) m.state (laid stack m.state.registers.top m.state.frames) (filled cache m.lookup)
made_flat r₀ m = λ i. flat (sym m.registers i) (m.entries i) (m.words i) (m.frames i) (m.cached i)

-- What check says of a running state, for the functions of the interpreter
module _ (e receiver selector n b top : ℕ) (contents bodies stack cache : List ℕ) where
  abbrev s : Flat
  s = flat (running_with e receiver selector n b top) contents bodies stack cache

  pub running_is : plain_of s ≡ running_at e receiver selector n b top contents bodies stack
  unfolding plain_of
  running_is = refl

  pub running_runs : FlatRight s → Runs n b top contents bodies stack
  unfolding plain_of
  running_runs r = record { edition = e; right = r.plain.image; frames = by_stands r.plain.stands }
    where
      by_stands : Stands (length stack) (plain_of s)
          → T (Rattle.plain.specs.Check.frames_fine e (objects_at n b contents bodies) (length stack) true top (Rattle.plain.specs.Flat.frames_from
          (suc top) (objects_at n b contents bodies) stack top))
      by_stands (goes (runs x y f)) = right_frames e (objects_at n b contents bodies) (length stack) true top (Rattle.plain.specs.Flat.frames_from (suc top)
          (objects_at n b contents bodies) stack top) f
      by_stands (goes (ends x y z f)) = absurd (omega arith)
      by_stands (rests x y z f) = absurd (omega arith)
      by_stands (waits x y z f) = absurd (omega arith)
