-- What a replay leaves: a load, then the calls.
use Prim.Native.Nat.{ℕ}
use mathlib.Core.Path.{◌≡◌, refl, sym, ap, ◌∙◌, subst}
use mathlib.Core.List.{List}
use Rattle.model.specs.Image.{Verdict, accepted, refused, load_verdict}
use Rattle.plain.specs.Registers as R
use Rattle.plain.specs.Calls.{loaded, done, refused_by, result, wrote}
use Rattle.plain.specs.Flat.{Flat, flat, room_of}
use Rattle.plain.specs.Check.{check}
use Rattle.plain.specs.FlatCalls.{Given, gives, no_answer, after_load, flat_load}
use Rattle.plain.specs.CallLists.{next_state, Loads}
use Rattle.plain.proofs.Theorem.{from_load}
use Rattle.calls.specs.Plays.{calls_made, Plays}
use Rattle.plain.proofs.Consequences.{last_checks}
use Rattle.machine.specs.declared.Registers.{Registers}
use Rattle.std.specs.Prelude.{Ok, Err}
use Rattle.model.specs.declared.numbers.Refusal.{Refusal}
use Rattle.model.specs.Numbers.{number_of}
use Rattle.machine.specs.State.{state}
use Rattle.loads.specs.Answers.{loadGives}
use Rattle.replay.specs.Replays.{Makes, Declines}

is_done : Given → Type 0
is_done (gives done s) = Unit {0}
is_done (gives (refused_by k) s) = ⊥
is_done (gives (result p k v h d) s) = ⊥
is_done (gives (wrote k) s) = ⊥
is_done no_answer = ⊥

verdict_of : (s : Flat) (image : List ℕ) (t : Flat) → flat_load s image ≡ gives done t → load_verdict (room_of s) image ≡ accepted
unfolding flat_load
verdict_of s image t e = go (load_verdict (room_of s) image) refl (sym e)
  where
    go : (v : Verdict) → load_verdict (room_of s) image ≡ v → gives done t ≡ after_load s image (load_verdict (room_of s) image) → load_verdict (room_of s) image ≡ accepted
    go accepted p q = p
    go (refused k) p q = absurd (unfold is_done in subst is_done (q ∙ ap (after_load s image) p) tt)

module _ (g : R.Registers) (image calls answers contents bodies stack cache contents₁ bodies₁ cache₁ : List ℕ) where
  abbrev s : Flat
  s = flat g contents bodies stack cache

  pub declines : (k : Refusal) → loadGives (Err k) contents₁ bodies₁ stack cache₁ ≡ flat_load s image
      → Declines s image answers (number_of k) (flat R.no_registers contents₁ bodies₁ stack cache₁) answers
  unfolding loadGives
  declines k e = record { load = sym e; unwritten = refl }

  module _ (r : Registers) (e : loadGives (Ok r) contents₁ bodies₁ stack cache₁ ≡ flat_load s image) where
    abbrev start : Flat
    start = state r contents₁ bodies₁ stack cache₁

    loads : flat_load s image ≡ gives done start
    unfolding loadGives
    loads = sym e

    from : Loads s image start
    from =
        let l = from_load s image (verdict_of s image start loads) in
        subst (Loads s image) (ap (next_state s) (sym l.1.gave ∙ loads)) l.1

    -- what load leaves was checked
    pub start_checks : check start ≡ accepted
    start_checks = from.checks

    pub makes : (k : ℕ) (s' : Flat) (answers' : List ℕ) → Plays calls answers start k s' answers' → Makes s image calls answers k s' answers'
    makes k s' answers' p =
        record {
          start = start;
          load = loads;
          plain = from.start;
          agrees = from.agrees (calls_made calls answers);
          last = p.last;
          made = p.made;
          written =
              p.written;
          checks = ap check p.last ∙ last_checks (room_of s) (calls_made calls answers) start (loaded image) (from.agrees (calls_made calls answers)) from.checks;
        }
