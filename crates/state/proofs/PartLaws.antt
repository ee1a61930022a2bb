-- The parts of check's test, as the code goes through them.
use Prim.Native.Nat.{ℕ, suc, ◌*◌, ◌≤◌, ◌<◌}
use mathlib.Core.Path.{◌≡◌, refl, sym, ap, ap₂, ◌∙◌, subst}
use mathlib.Core.Logic.{◌≢◌, ◌⊎◌, inl, inr}
use mathlib.Core.Bool.{Bool, true, false, ◌&&◌, ◌||◌, not}
use mathlib.Core.List.{List}
use native.Mathlib.Omega.{arith}
use borrow.Author.Tests.{eq-eqb, ne_eqb, le-leb, lt-leb}
use lib.Dec.{T, leb, eqb, eqb→eq}
use lib.ListN.{length}
use lib.Seq.{length-take-le}
use Rattle.bytecode.specs.Test.{when◌then◌else◌, all_of}
use Rattle.bytecode.proofs.Choice.{if_yes, if_no}
use Rattle.bytecode.proofs.TestLaws.{true→T, T→true, and_right, and_both, never}
use Rattle.model.specs.Limits.{entry_words, cache_words}
use Rattle.model.specs.Word.{is_valid}
use Rattle.model.specs.Objects.{Objects, objects_at}
use Rattle.model.specs.Rules.{Right, header_fine}
use Rattle.model.specs.Image.{Verdict, accepted, refused, in_order, tests_of, buffers_fine, object_tests, objects_verdict}
use Rattle.model.proofs.OrderLaws.{accepted→all, all→accepted}
use Rattle.rules.specs.Lent.{Lent}
use Rattle.store.specs.Answer.{number_of, room_for}
use Rattle.store.specs.Judged.{Judged}
use Rattle.store.proofs.Verdicts.{Late, late}
use Rattle.store.proofs.Settled.{lent_by}
use Rattle.checks.specs.Frame.{Noted}
use Rattle.plain.specs.Registers.{Registers, finished, idle, last_phase, has_frames}
use Rattle.plain.specs.Cache.{cache_fine}
use Rattle.plain.specs.Flat.{Flat, flat, frames_from}
use Rattle.plain.specs.Check.{image_rules, frames_fine, state_fine}
use Rattle.plain.specs.Running.{room_at}
use Rattle.plain.proofs.StateLaws.{image_right}
use Rattle.plain.proofs.CheckParts.{imagePart, phasePart, valuePart, framesPart, cachePart, state_parts}
use Rattle.state.specs.Parts.{registers_fine, standing_fine}

-- ---- phase and value
pub late_phase : (n phase value : ℕ) → 5 < phase → false ≡ registers_fine n phase value
unfolding registers_fine
late_phase n phase value h = sym (ap (λ (x : Bool). x && (when eqb phase finished then is_valid n value else eqb value 0)) (lt-leb phase last_phase h))

pub finished_value : (n phase value : ℕ) (r : Bool) → phase ≤ 5 → phase ≡ 2 → r ≡ is_valid n value → r ≡ registers_fine n phase value
unfolding registers_fine
finished_value n phase value r h e q = q ∙ sym (ap₂ ◌&&◌ (le-leb phase last_phase h) (if_yes _ _ (eq-eqb phase finished e)))

pub other_value : (n phase value : ℕ) → phase ≤ 5 → (phase ≡ 2 → ⊥) → eqb value 0 ≡ registers_fine n phase value
unfolding registers_fine
other_value n phase value h e = sym (ap₂ ◌&&◌ (le-leb phase last_phase h) (if_no _ _ (ne_eqb phase finished e)))

-- ---- frames
no_frames : (phase : ℕ) → (phase ≡ 0) ⊎ (phase ≡ 2) → has_frames phase ≡ false
no_frames phase (inl e) = ap has_frames e
no_frames phase (inr e) = ap has_frames e

pub none_standing : (e : ℕ) (o : Objects) (stack : List ℕ) (phase top : ℕ) → (phase ≡ 0) ⊎ (phase ≡ 2) → eqb top 0 ≡ standing_fine e o stack phase top
unfolding standing_fine
none_standing e o stack phase top p = sym (if_no _ _ (no_frames phase p))

pub all_standing : (e : ℕ) (o : Objects) (stack : List ℕ) (phase top : ℕ) (r : Bool) → (phase ≡ 0 → ⊥) → (phase ≡ 2 → ⊥) → r ≡ frames_fine e o (length stack) true top (frames_from (suc top) o stack top)
    → r ≡ standing_fine e o stack phase top
unfolding standing_fine
all_standing e o stack phase top r a b q =
    q ∙ sym (if_yes _ _ (ap₂ (λ (x y : Bool). not (x || y)) (ne_eqb phase idle a) (ne_eqb phase finished b)))

-- ---- the whole
module _ (r : Registers) (contents bodies stack cache : List ℕ) where
  abbrev s : Flat
  s = flat r contents bodies stack cache

  abbrev o : Objects
  o = objects_at r.n r.b contents bodies

  abbrev edition : ℕ
  edition = r.edition

  parts : state_fine s ≡ (imagePart s && (phasePart s && (valuePart s && (framesPart s && cachePart s))))
  parts = state_parts s

  -- a part that fails
  image_no : imagePart s ≡ false → false ≡ state_fine s
  image_no e = sym (parts ∙ ap (λ (x : Bool). x && (phasePart s && (valuePart s && (framesPart s && cachePart s)))) e)

  pub registers_no : registers_fine r.n r.phase r.value ≡ false → false ≡ state_fine s
  unfolding registers_fine
  registers_no e = sym (parts ∙ regroup (imagePart s) (phasePart s) (valuePart s) (framesPart s && cachePart s) e)
    where
      regroup : (a b c d : Bool) → (b && c) ≡ false → (a && (b && (c && d))) ≡ false
      regroup true true true d q = absurd (subst T q tt)
      regroup true true false d q = refl
      regroup true false c d q = refl
      regroup false b c d q = refl

  -- the image's part is rule 2 and the verdict on the objects
  abbrev tests : List (Bool × ℕ)
  tests = object_tests edition o r.start_receiver r.start_selector

  edition_no : header_fine edition r.n r.b ≡ false → imagePart s ≡ false
  unfolding image_rules
  edition_no e = ap (λ (x : Bool). x && all_of (tests_of tests)) e

  verdict_no : number_of (objects_verdict edition o r.start_receiver r.start_selector) ≢ 0 → imagePart s ≡ false
  unfolding image_rules objects_verdict number_of
  verdict_no h =
      never (imagePart s) (λ t. h (ap number_of (all→accepted tests (and_right (header_fine edition r.n r.b) (all_of (tests_of tests)) t))))

  verdict_yes : header_fine edition r.n r.b ≡ true → number_of (objects_verdict edition o r.start_receiver r.start_selector) ≡ 0 → imagePart s ≡ true
  unfolding image_rules objects_verdict number_of
  verdict_yes z h =
      T→true (imagePart s) (and_both (header_fine edition r.n r.b) (all_of (tests_of tests)) (true→T z) (accepted→all tests
      (go (in_order tests) (late edition o r.start_receiver r.start_selector) h)))
    where
      go : (v : Verdict) → Late v → number_of v ≡ 0 → v ≡ accepted
      go accepted p e = refl
      go (refused k) p e = absurd (omega arith)

  pub header_no : header_fine edition r.n r.b ≡ false → false ≡ state_fine s
  header_no e = image_no (edition_no e)

  pub judged_no : (notes : List ℕ) (k : ℕ) → Judged edition o r.start_receiver r.start_selector notes k → (k ≡ 0 → ⊥) → false ≡ state_fine s
  judged_no notes k j h = image_no (verdict_no (λ e. h (j.answer ∙ e)))

  module _ (two : header_fine edition r.n r.b ≡ true) (three : T (buffers_fine (room_at contents bodies stack cache) r.n r.b)) where
    pub lent : Lent edition r.n r.b contents bodies
    unfolding buffers_fine
    lent = lent_by edition r.n r.b (length cache) contents bodies two (T→true (buffers_fine (room_for (length contents) (length bodies) (length cache)) r.n r.b) three)

    pub cache_long : length cache ≡ cache_words
    unfolding buffers_fine
    cache_long = eqb→eq (length cache) cache_words (and_right (leb r.b (length bodies)) (eqb (length cache) cache_words)
        (and_right (leb (entry_words * r.n) (length contents)) (leb r.b (length bodies) && eqb (length cache) cache_words) three))

    pub notes_room : 2 * r.b ≤ 48000
    notes_room = let h = lent.most_words in omega arith

    module _ (notes : List ℕ) (k : ℕ) (j : Judged edition o r.start_receiver r.start_selector notes k) (zero : k ≡ 0) where
      yes : imagePart s ≡ true
      yes = verdict_yes two (sym j.answer ∙ zero)

      pub rights : Right edition o
      rights = (image_right edition o r.start_receiver r.start_selector (length-take-le (entry_words * r.n) contents lent.entries) (length-take-le r.b bodies lent.words) (true→T yes)).0

      pub all_noted : 2 * r.b ≤ length notes → Noted edition r.n r.b contents bodies notes
      all_noted h = record { right = rights; noted = j.noted zero; room = h }

      module _ (regs : registers_fine r.n r.phase r.value ≡ true) where
        unpack : (a b c d : Bool) → a ≡ true → (b && c) ≡ true → (a && (b && (c && d))) ≡ d
        unpack true true true d p q = refl
        unpack true true false d p q = absurd (subst T (sym q) tt)
        unpack true false c d p q = absurd (subst T (sym q) tt)
        unpack false b c d p q = absurd (subst T (sym p) tt)

        left : state_fine s ≡ (framesPart s && cachePart s)
        unfolding registers_fine
        left = parts ∙ unpack (imagePart s) (phasePart s) (valuePart s) (framesPart s && cachePart s) yes regs

        pub standing_no : standing_fine edition o stack r.phase r.top ≡ false → false ≡ state_fine s
        unfolding standing_fine
        standing_no e = sym (left ∙ ap (λ (y : Bool). y && cachePart s) e)

        pub cache_left : (x : Bool) → standing_fine edition o stack r.phase r.top ≡ true → x ≡ cache_fine o cache → x ≡ state_fine s
        unfolding standing_fine
        cache_left x e q = q ∙ sym (left ∙ ap (λ (y : Bool). y && cachePart s) e)
