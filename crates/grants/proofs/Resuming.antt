-- A run behind a send that failed: its message, and the stretch behind that.
use Prim.Native.Nat.{ℕ, ◌+◌, ◌-◌, ◌≤◌, ◌<◌, max}
use mathlib.Core.Path.{◌≡◌, refl, sym, ap, ◌∙◌, subst}
use mathlib.Core.List.{List}
use native.Mathlib.Omega.{arith}
use lib.ListN.{length}
use Rattle.model.specs.declared.StackPosition.{StackPosition}
use Rattle.plain.specs.Calls.{result}
use Rattle.plain.specs.Flat.{Flat, flat}
use Rattle.plain.specs.FlatCalls.{gives}
use Rattle.plain.specs.RunLoop.{runs_from, Turn}
use Rattle.plain.proofs.LoopLaws.{turn_then, over_then}
use Rattle.plain.proofs.MadeLaws.{made_as}
use Rattle.frames.specs.declared.Message.{Message}
use Rattle.std.specs.Prelude.{Result, Ok, Err}
use Rattle.model.specs.Numbers.{phase_of}
use Rattle.model.specs.declared.numbers.Halt.{Halt}
use Rattle.messages.specs.declared.Resent.{Resent}
use Rattle.messages.specs.Resends.{Resends, ResentIs}
use Rattle.runs.specs.declared.Ended.{Ended}
use Rattle.runs.specs.declared.Failed.{Failed}
use Rattle.runs.specs.declared.Stretched.{Stretched}
use Rattle.runs.specs.declared.Stretched.TheVariants as S
use Rattle.runs.specs.Ends.{start_of, ended_with, Goes, RunsTo, RunsFail, StretchedIs}
use Rattle.runs.proofs.Looping.{LoopAt, loop_right, loop_caches, loop_small, loop_lengths, halted_at, other_at}
use Rattle.grants.specs.Grants.{FailsAt, AgainIs}

module _ {s₀ : Flat} {grant e receiver selector : ℕ} {contents bodies stack cache : List ℕ} {m : Message} {n b top left reach read : ℕ} (f : RunsFail s₀ grant e receiver selector contents bodies stack cache m n b top left reach read) where
  at : LoopAt s₀ grant e receiver selector n b top contents bodies stack cache (grant - left) reach read
  at = record { turn = f.turn; low = f.small }

  -- what the message asks for
  pub failed_resends : Resends e n b top contents bodies stack cache m
  failed_resends =
      record {
        right = loop_right s₀ grant e receiver selector n b top contents bodies stack cache (grant - left) reach read at;
        sending = f.sending;
        caches = loop_caches s₀ grant e receiver selector n b top contents bodies stack cache (grant - left) reach read at;
      }

  pub failed_small : (n ≤ 2047) × (b ≤ 24000) × (top < 65536)
  failed_small = loop_small s₀ grant e receiver selector n b top contents bodies stack cache (grant - left) reach read at

  pub failed_lengths : (length contents ≡ length s₀.contents) × (length bodies ≡ length s₀.bodies) × (length stack ≡ length s₀.stack) × (length cache ≡ length s₀.cache)
  failed_lengths = loop_lengths s₀ grant e receiver selector n b top contents bodies stack cache (grant - left) reach read at

  fewer : grant - left < grant
  fewer = let w = f.within in let k = f.more in omega arith

  -- one more is made
  one_less : grant - left + 1 ≡ grant - (left - 1)
  one_less = let w = f.within in let k = f.more in omega arith

  module _ (contents' bodies' stack' cache' : List ℕ) (y : Result Resent Halt) (z : ResentIs e receiver selector n b top m contents bodies stack cache contents' bodies' stack' cache' y) where
    resent : (y' : Result Resent Halt) → y ≡ y' → ResentIs e receiver selector n b top m contents bodies stack cache contents' bodies' stack' cache' y'
    resent y' d = subst (ResentIs e receiver selector n b top m contents bodies stack cache contents' bodies' stack' cache') d z

    pub resent_halted : (h : Halt) → y ≡ Err h
        → RunsTo s₀ grant e receiver selector contents' bodies' stack' cache' (record { n = n; b = b; phase = phase_of h; top = top; value = 0; count = grant - left; reach = reach; dictionaries = read })
    resent_halted h d =
        let x : ResentIs e receiver selector n b top m contents bodies stack cache contents' bodies' stack' cache' (Err h) = resent (Err h) d in
        halted_at s₀ grant e receiver selector n b top contents bodies stack cache (grant - left) reach read at fewer contents' bodies' stack' cache' (phase_of h)
        (record { cause = x.cause; steps = f.steps ∙ x.steps; phase = x.phase; stays = x.stays })

    -- The handler runs on, with one bytecode less to make.
    pub resent_at : (r : Resent) → y ≡ Ok r → (high : ℕ) → high ≡ max reach r.end
        → LoopAt s₀ grant e receiver selector r.n r.b r.top.0 contents' bodies' stack' cache' (grant - (left - 1)) high (read + r.dictionaries)
    resent_at r d high h =
        let x : ResentIs e receiver selector n b top m contents bodies stack cache contents' bodies' stack' cache' (Ok r) = resent (Ok r) d in
        subst (λ (k : ℕ). LoopAt s₀ grant e receiver selector r.n r.b r.top.0 contents' bodies' stack' cache' k high (read + r.dictionaries)) one_less
        (other_at s₀ grant e receiver selector n b top contents bodies stack cache (grant - left) reach read at fewer contents' bodies' stack' cache' r.n r.b r.top.0
        (made_as f.steps x.0) high (read + r.dictionaries) (h ∙ ap (max reach) x.1) refl)

    pub resent_goes : (r : Resent) → y ≡ Ok r → Goes e r.n r.b r.top.0 contents' bodies' stack' cache'
    resent_goes r d = record { receiver = receiver; selector = selector; checks = (resent_at r d (max reach r.end) (λ i. max reach r.end)).turn.checked }

-- ---- the stretch behind it, which is granted what is left

-- what a stretch says of each answer
module _ (s : Flat) (grant e receiver selector : ℕ) (contents bodies stack cache : List ℕ) (y : Stretched) (z : StretchedIs s grant e receiver selector contents bodies stack cache y) where
  pub stretched_over : (r : Ended) → y ≡ S.Over r → RunsTo s grant e receiver selector contents bodies stack cache r
  stretched_over r d = subst (StretchedIs s grant e receiver selector contents bodies stack cache) d z

  pub stretched_failed : (f : Failed) → y ≡ S.Failed f → FailsAt s grant e receiver selector contents bodies stack cache f
  stretched_failed f d = subst (StretchedIs s grant e receiver selector contents bodies stack cache) d z

module _ {s₀ : Flat} {grant e receiver selector n b top : ℕ} {contents bodies stack cache : List ℕ} {rest high read : ℕ} (l : LoopAt s₀ grant e receiver selector n b top contents bodies stack cache (grant - rest) high read) (within : rest ≤ grant) where
  abbrev s : Flat
  s = start_of e receiver selector n b top contents bodies stack cache

  left_is : rest ≡ grant - (grant - rest)
  left_is = omega arith

  module _ {contents' bodies' stack' cache' : List ℕ} where
    pub runs_then : {r : Ended} → RunsTo s rest e receiver selector contents' bodies' stack' cache' r → (highest : ℕ) → highest ≡ max high r.reach
        → RunsTo s₀ grant e receiver selector contents' bodies' stack' cache'
        (record { n = r.n; b = r.b; phase = r.phase; top = r.top; value = r.value; count = grant - rest + r.count; reach = highest; dictionaries = read + r.dictionaries })
    runs_then {r} x highest h =
        record {
          gave = (λ i. gives (result r.phase (grant - rest + r.count) r.value (h i) (read + r.dictionaries)) (flat (ended_with e receiver selector r) contents' bodies' stack' cache'))
              ∙ over_then l.turn (x.gave ∙ ap (λ (k : ℕ). runs_from k 0 0 0 s) left_is);
          within = let k = x.within in omega arith;
          small = let k = l.low in let j = x.small in omega arith;
          few = let k = l.turn.few in let j = x.few in omega arith;
        }

    pub fails_then : {m : Message} {n' b' t still reach more-read : ℕ} → RunsFail s rest e receiver selector contents' bodies' stack' cache' m n' b' t still reach more-read → (highest : ℕ) → highest ≡ max high reach
        → RunsFail s₀ grant e receiver selector contents' bodies' stack' cache' m n' b' t still highest (read + more-read)
    fails_then {m} {n'} {b'} {t} {still} {reach} {more-read} x highest h =
        let s' : Flat = start_of e receiver selector n' b' t contents' bodies' stack' cache' in
        let w = x.within in
        record {
          turn = subst (λ (k : ℕ). Turn s₀ grant s' k highest (read + more-read)) (counts w)
              (subst (λ (k : ℕ). Turn s₀ grant s' (grant - rest + (rest - still)) k (read + more-read)) (sym h)
              (turn_then l.turn (subst (λ (k : ℕ). Turn s k s' (rest - still) reach more-read) left_is x.turn)));
          sending = x.sending;
          steps = x.steps;
          more = x.more;
          within = omega arith;
          small = let k = l.low in let j = x.small in omega arith;
        }
      where
        counts : still ≤ rest → grant - rest + (rest - still) ≡ grant - still
        counts w = omega arith

-- what both together say of each answer
module _ (s : Flat) (grant e receiver selector left : ℕ) (contents bodies stack cache : List ℕ) (y : Stretched) (z : AgainIs s grant e receiver selector left contents bodies stack cache y) where
  pub again_over : (r : Ended) → y ≡ S.Over r → RunsTo s grant e receiver selector contents bodies stack cache r
  again_over r d = subst (AgainIs s grant e receiver selector left contents bodies stack cache) d z

  pub again_failed : (f : Failed) → y ≡ S.Failed f → FailsAt s grant e receiver selector contents bodies stack cache f × (f.left < left)
  again_failed f d = subst (AgainIs s grant e receiver selector left contents bodies stack cache) d z
