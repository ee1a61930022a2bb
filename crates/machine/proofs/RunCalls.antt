-- Run, from a checked state.
use Prim.Native.Nat.{ℕ, ◌≤◌}
use mathlib.Core.Path.{◌≡◌, sym, ap, ◌∙◌}
use mathlib.Core.Bool.{true, false}
use mathlib.Core.List.{List}
use borrow.Author.Tests.{eq-eqb, ne_eqb}
use native.Mathlib.Omega.{arith}
use lib.Dec.{eqb}
use lib.ListN.{length}
use Rattle.model.specs.Image.{Verdict, accepted, refused}
use Rattle.plain.specs.Registers as R
use Rattle.plain.specs.Registers.{running, with_phase, with_sizes}
use Rattle.plain.specs.Flat.{Flat, flat, plain_of}
use Rattle.plain.specs.Calls.{result, refused_by}
use Rattle.plain.specs.Check.{check}
use Rattle.plain.specs.FlatCalls.{gives, checked, flat_run_if, flat_run}
use Rattle.plain.specs.RunLoop.{runs_from}
use Rattle.plain.proofs.Preserve.{runs, ends}
use Rattle.plain.proofs.StateLaws.{Stands, goes, rests, waits}
use Rattle.plain.proofs.FlatLaws.{FlatRight, check_right}
use Rattle.plain.proofs.TurnLaws.{run_passes, whole_run}
use Rattle.machine.specs.declared.Registers.{Registers}
use Rattle.runs.specs.declared.Ended.{Ended}
use Rattle.runs.specs.Ends.{start_of, ended_with, Goes, RunsTo}
use Rattle.grants.specs.Grants.{RunsOn}
use Rattle.machine.specs.State.{registers_of, state, run_gives}
use Rattle.std.specs.Prelude.{Ok, Err}
use Rattle.model.specs.declared.numbers.Refusal.TheVariants as Refused

value_none : (s : Flat) → FlatRight s → s.registers.phase ≡ running → s.registers.value ≡ 0
unfolding plain_of
value_none s r e = go r.plain.stands
  where
    go : Stands (length s.stack) (plain_of s) → s.registers.value ≡ 0
    go (goes (runs a v f)) = v
    go (goes (ends a v t f)) = absurd (omega arith)
    go (rests a v t f) = absurd (omega arith)
    go (waits a c v f) = absurd (omega arith)

module _ (r : Registers) (contents bodies stack cache : List ℕ) (n : ℕ) where
  abbrev s : Flat
  s = state r contents bodies stack cache

  pub runs_not : (k : ℕ) → refused k ≡ check s → gives (refused_by k) s ≡ flat_run s n
  unfolding flat_run
  runs_not k q = ap (λ (v : Verdict). checked s v (flat_run_if s n (eqb r.phase running))) q

  module _ (yes : check s ≡ accepted) where
    pub runs_12 : (r.phase ≡ 1 → ⊥) → run_gives r (Err Refused.Phase) contents bodies stack cache ≡ flat_run s n
    runs_12 p = sym (run_passes s yes n false (ne_eqb r.phase running p))

    module _ (p : r.phase ≡ 1) where
      -- in phase 1 value is 0
      start_is : s ≡ start_of r.edition r.receiver r.selector r.n r.b r.top contents bodies stack cache
      start_is =
          let v = value_none s (check_right s yes) p in
          λ i. flat (record { n = r.n; b = r.b; start_receiver = r.receiver; start_selector = r.selector; phase = p i; top = r.top; value = v i; edition = r.edition }) contents bodies stack cache

      goes_checked : check (start_of r.edition r.receiver r.selector r.n r.b r.top contents bodies stack cache) ≡ accepted
      goes_checked = sym (ap check start_is) ∙ yes

      pub runs_goes : Goes r.edition r.n r.b r.top contents bodies stack cache
      runs_goes = record { receiver = r.receiver; selector = r.selector; checks = goes_checked }

      module _ (contents' bodies' stack' cache' : List ℕ) (z : Ended) (on : RunsOn r.edition r.n r.b r.top contents bodies stack cache n contents' bodies' stack' cache' z) where
        ran : RunsTo (start_of r.edition r.receiver r.selector r.n r.b r.top contents bodies stack cache) n r.edition r.receiver r.selector contents' bodies' stack' cache' z
        ran = on r.receiver r.selector goes_checked

        pub runs_small : z.reach ≤ 65536
        runs_small = ran.small

        pub runs_done : (r₁ r₂ : Registers) → registers_of r₁ ≡ with_sizes (registers_of r) z.n z.b → registers_of r₂ ≡ with_phase (registers_of r₁) z.phase z.top z.value
            → run_gives r (Ok (record { registers = r₂; count = z.count; reach = z.reach; dictionaries = z.dictionaries })) contents' bodies' stack' cache' ≡ flat_run s n
        runs_done r₁ r₂ d f =
            let e : registers_of r₂ ≡ ended_with r.edition r.receiver r.selector z = f ∙ ap (λ (x : R.Registers). with_phase x z.phase z.top z.value) d in
            (λ i. gives (result (e i).phase z.count (e i).value z.reach z.dictionaries) (flat (e i) contents' bodies' stack' cache')) ∙ ran.gave
            ∙ ap (runs_from n 0 0 0) (sym start_is) ∙ whole_run n s ∙ sym (run_passes s yes n true (eq-eqb r.phase running p))
