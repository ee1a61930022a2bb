-- Begin, from a checked state.
use Prim.Native.Nat.{ℕ, suc, ◌*◌, ◌≤◌}
use mathlib.Core.Path.{◌≡◌, sym, ap, ap₂, ◌∙◌, subst}
use mathlib.Core.List.{List, [], ◌∷◌}
use native.Mathlib.Omega.{arith}
use borrow.Author.Tests.{eq-eqb, ne_eqb}
use lib.ListN.{length}
use Rattle.bytecode.proofs.Choice.{if_yes}
use Rattle.model.specs.Limits.{entry_words}
use Rattle.model.specs.Image.{Verdict, accepted, refused}
use Rattle.model.proofs.Facts.{most, most_words}
use Rattle.plain.specs.Registers as R
use Rattle.plain.specs.Registers.{running, finished, has_frames, with_phase, with_sizes}
use Rattle.plain.specs.State.{with_objects, with_frames}
use Rattle.plain.specs.Flat.{Flat, flat, room_of, flat_objects, frames_from, if_frames, plain_of}
use Rattle.plain.specs.Check.{check}
use Rattle.plain.specs.Calls as P
use Rattle.plain.specs.FlatCalls.{Given, gives, checked, laid, flat_after_begin, flat_begin}
use Rattle.plain.proofs.FlatLaws.{FlatRight, check_right}
use Rattle.plain.proofs.BeginLaws.{BegunRight, BeginGoes, begins}
use Rattle.plain.proofs.Worlds.{worlds}
use Rattle.model.proofs.Lent.{front_same}
use Rattle.begins.specs.Begins.{Starts, Answers, BeginIs, Begins}
use Rattle.std.specs.Prelude.{Result, Ok, Err}
use Rattle.model.specs.declared.numbers.Refusal.{Refusal}
use Rattle.model.specs.declared.numbers.Refusal.TheVariants as Refused
use Rattle.model.specs.Numbers.{number_of}
use Rattle.begins.specs.declared.Beginning.{Beginning}
use Rattle.machine.specs.declared.Registers.{Registers}
use Rattle.machine.specs.State.{registers_of, state, call_gives}

module _ (r : Registers) (contents bodies stack cache : List ℕ) (w selector : ℕ) (arguments : List ℕ) where
  abbrev s : Flat
  s = state r contents bodies stack cache

  passes : (g : Given) → accepted ≡ check s → g ≡ checked s (check s) g
  passes g e = ap (λ (v : Verdict). checked s v g) e

  pub begins_not : (k : ℕ) → refused k ≡ check s → gives (P.refused_by k) s ≡ flat_begin s w selector arguments
  unfolding flat_begin
  begins_not k q = ap (λ (v : Verdict). checked s v (flat_after_begin s (P.begin (room_of s) (plain_of s) w selector arguments))) q

  module _ (yes : check s ≡ accepted) where
    right : FlatRight s
    right = check_right s yes

    pub begins_right : Starts r.edition r.n r.b contents bodies stack w selector arguments
    unfolding plain_of
    begins_right = record { right = right.plain.image }

    begun_is : (y : P.Begun) → P.begin (room_of s) (plain_of s) w selector arguments ≡ y → flat_after_begin s y ≡ flat_begin s w selector arguments
    unfolding flat_begin
    begun_is y p = ap (flat_after_begin s) (sym p) ∙ passes (flat_after_begin s (P.begin (room_of s) (plain_of s) w selector arguments)) (sym yes)

    pub begins_12 : r.phase ≡ 1 → call_gives r (Err Refused.Phase) contents bodies stack cache ≡ flat_begin s w selector arguments
    begins_12 p = begun_is (P.declined 12) busy
      where
        busy : P.begin (room_of s) (plain_of s) w selector arguments ≡ P.declined 12
        busy = unfold P.begin plain_of in if_yes _ _ (eq-eqb r.phase running p)

    module _ (idle : (r.phase ≡ 1 → ⊥)) (contents' bodies' stack' : List ℕ) (y : Result Beginning Refusal) (z : Begins r.edition r.n r.b contents bodies stack w selector arguments contents' bodies' stack' y) where
      -- the plain state is one over these objects
      own : (y' : Result Beginning Refusal) → y ≡ y' → BeginIs (P.begin (room_of s) (plain_of s) w selector arguments) (plain_of s) contents bodies stack contents' bodies' stack' y'
      unfolding plain_of
      own y' p =
          subst (BeginIs (P.begin (room_of s) (plain_of s) w selector arguments) (plain_of s) contents bodies stack contents' bodies' stack') p
          (z r.receiver r.selector r.phase r.top r.value (length cache)
          (if_frames (has_frames r.phase) (frames_from (suc r.top) (flat_objects s) stack r.top)) (ne_eqb r.phase running idle))

      pub begins_refused : (k : Refusal) → y ≡ Err k → call_gives r (Err k) contents' bodies' stack' cache ≡ flat_begin s w selector arguments
      begins_refused k p =
          let v = own (Err k) p in
          (λ i. gives (P.refused_by (number_of k)) (state r (v.entries i) (v.words i) (v.frames i) cache)) ∙ begun_is (P.declined (number_of k)) v.leads

      pub begins_entered : (r' : Registers) → registers_of r' ≡ with_phase (registers_of r) 1 0 0 → y ≡ Ok Rattle.begins.specs.declared.Beginning.TheVariants.Entered
          → call_gives r (Ok r') contents' bodies' stack' cache ≡ flat_begin s w selector arguments
      unfolding plain_of
      begins_entered r' e p =
          let v = own (Ok Rattle.begins.specs.declared.Beginning.TheVariants.Entered) p in
          (λ i. gives P.done (flat (e i) ((v.entries ∙ sym (front_same (entry_words * r.n) contents right.contents)) i)
          ((v.words ∙ sym (front_same r.b bodies right.bodies)) i) (v.frames i) cache))
          ∙ begun_is (P.begun (with_frames (plain_of s) (v.first ∷ []) running 0 0)) v.leads

      module _ (u n b : ℕ) (p : y ≡ Ok (Rattle.begins.specs.declared.Beginning.TheVariants.Answered u n b)) where
        v : Answers (P.begin (room_of s) (plain_of s) w selector arguments) (plain_of s) u n b contents bodies stack contents' bodies' stack'
        v = own (Ok (Rattle.begins.specs.declared.Beginning.TheVariants.Answered u n b)) p

        -- N and B of the state that began are in range
        pub begins_small : (n ≤ 2047) × (b ≤ 24000)
        begins_small =
            let g : BegunRight (room_of s) (plain_of s) (with_frames (with_objects (plain_of s) v.after) [] finished 0 u) =
            subst (BeginGoes (room_of s) (plain_of s)) v.leads (begins (room_of s) (worlds (room_of s)) (plain_of s) right.plain w selector arguments) in
            let a = most g.right.image in
            let c = most_words g.right.image in
            let e = v.count in
            let f = v.size in
            (omega arith, omega arith)

        pub begins_answered : (r₁ r₂ : Registers) → registers_of r₁ ≡ with_sizes (registers_of r) n b → registers_of r₂ ≡ with_phase (registers_of r₁) 2 0 u
            → call_gives r (Ok r₂) contents' bodies' stack' cache ≡ flat_begin s w selector arguments
        unfolding laid plain_of
        begins_answered r₁ r₂ d e =
            let z : registers_of r₂ ≡ with_phase (with_sizes (registers_of r) v.after.n v.after.b) 2 0 u =
            e ∙ ap (λ (x : R.Registers). with_phase x 2 0 u) (d ∙ ap₂ (with_sizes (registers_of r)) (sym v.count) (sym v.size)) in
            (λ i. gives P.done (flat (z i) (v.entries i) (v.words i) (v.frames i) cache))
            ∙ begun_is (P.begun (with_frames (with_objects (plain_of s) v.after) [] finished 0 u)) v.leads
