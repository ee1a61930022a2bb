use mathlib.Core.Path.{refl, sym, ◌∙◌}
use native.Mathlib.Omega.{arith}
use Rattle.flow.proofs.StepLaws.{goes_known}
use Rattle.flow.proofs.CodeWalk.{at_asks, at_fetch, at_here, turn_refused, turn_expanded}
use Rattle.code.proofs.TurnLaws.{queued, next_refused, next_fresh, next_known}
use Rattle.code.proofs.turn.Goals as goal

pub fetch-byte-requires : goal.fetch-byte-requires
fetch-byte-requires c =
    at_fetch c.requires.fact c.requires.walking_at

pub here_fine-requires : goal.here_fine-requires
here_fine-requires c =
    c.requires.asked

pub returns-then-not-here_fine : goal.returns-then-not-here_fine
returns-then-not-here_fine c =
    next_refused (turn_refused c.requires.fact c.requires.walking_at (sym c.here_fine.ensures ∙ c.if-not-here_fine.true)) refl

pub expand-requires : goal.expand-requires
expand-requires c =
    record { asks = at_asks c.requires.fact c.requires.walking_at; stands = at_here c.requires.fact c.requires.walking_at _ _ c.fetch-byte.ensures c.of-entry.ensures }

pub last_pending-requires : goal.last_pending-requires
last_pending-requires c =
    let T = turn_expanded c.requires.fact c.requires.walking_at (sym c.here_fine.ensures ∙ c.if-not-here_fine.false) c.expand.ensures in
    let n = c.expand.auto.notes in let p = c.expand.auto.pending in let l = c.requires.fact.long in
    queued (omega arith) (T.goes _ (goes_known c.in-Known.is)).0

pub returns-in-Fresh : goal.returns-in-Fresh
returns-in-Fresh c =
    let T = turn_expanded c.requires.fact c.requires.walking_at (sym c.here_fine.ensures ∙ c.if-not-here_fine.false) c.expand.ensures in
    next_fresh T c.in-Fresh.is

pub returns-in-Known : goal.returns-in-Known
returns-in-Known c =
    let T = turn_expanded c.requires.fact c.requires.walking_at (sym c.here_fine.ensures ∙ c.if-not-here_fine.false) c.expand.ensures in
    next_known T c.expand.auto.notes c.in-Known.is c.last_pending.ensures

pub returns-in-Stuck : goal.returns-in-Stuck
returns-in-Stuck c =
    let T = turn_expanded c.requires.fact c.requires.walking_at (sym c.here_fine.ensures ∙ c.if-not-here_fine.false) c.expand.ensures in
    next_refused T c.in-Stuck.is
