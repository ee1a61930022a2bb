-- A run of a granted count of bytecodes, and what is left of it at a send that failed.
use Rattle.std.specs.Prelude.{ℕ, ◌<◌, ◌≡◌, List}
use Rattle.model.specs.Image.{accepted}
use Rattle.plain.specs.Flat.{Flat}
use Rattle.plain.specs.Check.{check}
use Rattle.runs.specs.declared.Ended.{Ended}
use Rattle.runs.specs.declared.Failed.{Failed}
use Rattle.runs.specs.declared.Stretched.{Stretched}
use Rattle.runs.specs.declared.Stretched.TheVariants.{Over}
use Rattle.runs.specs.declared.Stretched.TheVariants as S
use Rattle.runs.specs.Ends.{start_of, RunsTo, RunsFail}

-- The run from `start` came to the send.
abbrev pub FailsAt : (start : Flat) (grant e receiver selector : ℕ) (contents bodies stack cache : List ℕ) → Failed → Type 0
FailsAt start grant e receiver selector contents bodies stack cache f =
    RunsFail start grant e receiver selector contents bodies stack cache f.message f.n f.b f.top.0 f.left f.reach f.dictionaries

-- Some run came to it.
pub record Fails (grant e : ℕ) (contents bodies stack cache : List ℕ) (f : Failed) : Type 0 where
  pub start : Flat
  pub receiver : ℕ
  pub selector : ℕ
  pub run : FailsAt start grant e receiver selector contents bodies stack cache f

-- Every run that came to it ended so,
abbrev pub ResumesTo : (grant e : ℕ) (contents bodies stack cache : List ℕ) (f : Failed) (contents' bodies' stack' cache' : List ℕ) → Ended → Type 0
ResumesTo grant e contents bodies stack cache f contents' bodies' stack' cache' r =
    (start : Flat) (receiver selector : ℕ) → FailsAt start grant e receiver selector contents bodies stack cache f
    → RunsTo start grant e receiver selector contents' bodies' stack' cache' r

-- or came to the next one, with fewer bytecodes left.
abbrev pub AgainIs : (start : Flat) (grant e receiver selector left : ℕ) (contents bodies stack cache : List ℕ) → Stretched → Type 0
AgainIs start grant e receiver selector left contents bodies stack cache (Over r) = RunsTo start grant e receiver selector contents bodies stack cache r
AgainIs start grant e receiver selector left contents bodies stack cache (S.Failed f) =
    FailsAt start grant e receiver selector contents bodies stack cache f × (f.left < left)

abbrev pub AgainTo : (grant e : ℕ) (contents bodies stack cache : List ℕ) (f : Failed) (contents' bodies' stack' cache' : List ℕ) → Stretched → Type 0
AgainTo grant e contents bodies stack cache f contents' bodies' stack' cache' r =
    (start : Flat) (receiver selector : ℕ) → FailsAt start grant e receiver selector contents bodies stack cache f
    → AgainIs start grant e receiver selector f.left contents' bodies' stack' cache' r

-- The whole run, with all start words that check accepts
abbrev pub RunsOn : (e n b top : ℕ) (contents bodies stack cache : List ℕ) (grant : ℕ) (contents' bodies' stack' cache' : List ℕ) → Ended → Type 0
RunsOn e n b top contents bodies stack cache grant contents' bodies' stack' cache' r =
    (receiver selector : ℕ) → check (start_of e receiver selector n b top contents bodies stack cache) ≡ accepted
    → RunsTo (start_of e receiver selector n b top contents bodies stack cache) grant e receiver selector contents' bodies' stack' cache' r
