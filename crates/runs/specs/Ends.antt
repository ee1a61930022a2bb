-- How the run loop ends, from a state in phase 1 given by N, B, top and the lent words.
use Rattle.std.specs.Prelude.{ℕ, ◌*◌, ◌-◌, ◌/◌, ◌%◌, ◌≤◌, ◌<◌, ◌≡◌, List}
use Rattle.model.specs.Limits.{longest_chain}
use Rattle.model.specs.Image.{accepted}
use Rattle.plain.specs.Step.{step}
use Rattle.plain.specs.Flat.{Flat, flat}
use Rattle.plain.specs.Check.{check}
use Rattle.plain.specs.Calls.{result}
use Rattle.plain.specs.FlatCalls.{gives}
use Rattle.plain.specs.RunLoop.{runs_from, Turn}
use Rattle.plain.specs.Running.{running_with, running_at, room_at, Sending, failed_step}
use Rattle.plain.specs.Registers as R
use Rattle.frames.specs.declared.Message.{Message}
use Rattle.runs.specs.declared.Ended.{Ended}
use Rattle.runs.specs.declared.Stretched.{Stretched}
use Rattle.runs.specs.declared.Stretched.TheVariants.{Over}
use Rattle.runs.specs.declared.Stretched.TheVariants as S

abbrev pub start_of : (e receiver selector n b top : ℕ) → List ℕ → List ℕ → List ℕ → List ℕ → Flat
start_of e receiver selector n b top contents bodies stack cache = flat (running_with e receiver selector n b top) contents bodies stack cache

abbrev pub ended_with : (e receiver selector : ℕ) → Ended → R.Registers
ended_with e receiver selector r =
    record { n = r.n; b = r.b; start_receiver = receiver; start_selector = selector; phase = r.phase; top = r.top; value = r.value; edition = e }

-- The two numbers of the loop's tally
abbrev pub reach_in : ℕ → ℕ
reach_in tally = tally % 131072

abbrev pub dictionaries_in : ℕ → ℕ
dictionaries_in tally = tally / 131072

-- Check accepts the state, with some start words.
pub record Goes (e n b top : ℕ) (contents bodies stack cache : List ℕ) : Type 0 where
  pub receiver : ℕ
  pub selector : ℕ
  pub checks : check (start_of e receiver selector n b top contents bodies stack cache) ≡ accepted

-- The run from s ended so.
pub record RunsTo (s : Flat) (grant e receiver selector : ℕ) (contents bodies stack cache : List ℕ) (r : Ended) : Type 0 where
  pub gave : gives (result r.phase r.count r.value r.reach r.dictionaries) (flat (ended_with e receiver selector r) contents bodies stack cache) ≡ runs_from grant 0 0 0 s
  pub within : r.count ≤ grant
  pub small : r.reach ≤ 65536
  pub few : r.dictionaries ≤ longest_chain * r.count

-- The run from s came to a send that failed, with so many bytecodes left: its step is that of its message.
pub record RunsFail (s : Flat) (grant e receiver selector : ℕ) (contents bodies stack cache : List ℕ) (m : Message) (n b top left reach read : ℕ) : Type 0 where
  pub turn : Turn s grant (start_of e receiver selector n b top contents bodies stack cache) (grant - left) reach read
  pub sending : Sending n b top contents bodies stack m.selector m.count m.class.0 m.next.0 m.sure
  pub steps : step (room_at contents bodies stack cache) (running_at e receiver selector n b top contents bodies stack)
      ≡ failed_step (room_at contents bodies stack cache) e receiver selector n b top contents bodies stack m.selector m.count m.class.0 m.next.0
  pub more : 0 < left
  pub within : left ≤ grant
  pub small : reach ≤ 65536

abbrev pub StretchedIs : (s : Flat) (grant e receiver selector : ℕ) (contents bodies stack cache : List ℕ) → Stretched → Type 0
StretchedIs s grant e receiver selector contents bodies stack cache (Over r) = RunsTo s grant e receiver selector contents bodies stack cache r
StretchedIs s grant e receiver selector contents bodies stack cache (S.Failed f) =
    RunsFail s grant e receiver selector contents bodies stack cache f.message f.n f.b f.top.0 f.left f.reach f.dictionaries

-- With all start words that check accepts
abbrev pub StretchesOn : (e n b top : ℕ) (contents bodies stack cache : List ℕ) (grant : ℕ) (contents' bodies' stack' cache' : List ℕ) → Stretched → Type 0
StretchesOn e n b top contents bodies stack cache grant contents' bodies' stack' cache' r =
    (receiver selector : ℕ) → check (start_of e receiver selector n b top contents bodies stack cache) ≡ accepted
    → StretchedIs (start_of e receiver selector n b top contents bodies stack cache) grant e receiver selector contents' bodies' stack' cache' r
