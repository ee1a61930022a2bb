-- A lookup in a state that C holds.
use Prim.Native.Nat.{ℕ, zero, suc, ◌*◌, ◌≤◌}
use mathlib.Core.Path.{◌≡◌, refl, sym, ap, ap₂, ◌∙◌}
use mathlib.Core.Bool.{Bool, true, false, not, ◌&&◌}
use mathlib.Core.List.{List}
use borrow.Author.Tests.{not-true, not-false}
use lib.Dec.{T, eqb}
use lib.ListN.{length, get_or}
use Rattle.bytecode.specs.Test.{when◌then◌else◌}
use Rattle.bytecode.specs.Constant.{nil_word}
use Rattle.bytecode.proofs.TestLaws.{true→T}
use Rattle.std.specs.Prelude.{Option}
use Rattle.model.specs.declared.Pointer.{Pointer}
use Rattle.model.specs.Limits.{entry_words, class_kind}
use Rattle.model.specs.Objects.{Objects, objects_at, is_kind, is_nil_or}
use Rattle.model.specs.Lookup.{lookup, dictionaries_read, pairs_read}
use Rattle.model.specs.Rules.{IsRight}
use Rattle.model.specs.Image.{Verdict, accepted}
use Rattle.model.proofs.Parts.{or_right}
use Rattle.plain.specs.Flat.{Flat, flat_objects, plain_of}
use Rattle.plain.specs.Check.{check}
use Rattle.plain.proofs.FlatLaws.{check_right}
use Rattle.sofaduck.specs.Border.{registers_at, state_of, verdict_of}
use Rattle.benchmark.specs.Lookups.{is_accepted, word_found, LookupIs}

module _ (words contents bodies stack cache : List ℕ) (selector class m p d : ℕ) where
  abbrev s : Flat
  s = state_of words contents bodies stack cache

  abbrev o : Objects
  o = objects_at (get_or words 0 0) (get_or words 1 0) contents bodies

  -- check refuses
  pub unchecked : (r : ℕ) → verdict_of r ≡ check s → (r ≡ 0 → ⊥) → LookupIs s selector class m p d m p d false
  unfolding when◌then◌else◌
  unchecked zero e h = absurd (h refl)
  unchecked (suc k) e h = record { made = ap (λ (v : Verdict). is_accepted v && is_kind (flat_objects s) class_kind class) e; found = refl; read = refl; walked = refl }

  module _ {r : ℕ} (e : verdict_of r ≡ check s) (h : r ≡ 0) where
    yes : check s ≡ accepted
    yes = sym e ∙ ap verdict_of h

    pub right : IsRight o
    unfolding registers_at plain_of
    right = (get_or words 7 0, (check_right s yes).plain.image)

    pub entries : entry_words * get_or words 0 0 ≤ length contents
    unfolding registers_at
    entries = (check_right s yes).contents

    module _ {x : Bool} (k : x ≡ is_kind o class_kind class) where
      pub no_class : not x ≡ true → LookupIs s selector class m p d m p d false
      unfolding registers_at when◌then◌else◌
      no_class q = record { made = sym (ap₂ (λ (v : Verdict) (b : Bool). is_accepted v && b) yes (sym k ∙ not-true x q)); found = refl; read = refl; walked = refl }

      is_class : not x ≡ false → is_kind o class_kind class ≡ true
      is_class q = sym k ∙ not-false x q

      pub starts : not x ≡ false → T (is_nil_or o class_kind class)
      starts q = or_right (eqb class nil_word) (is_kind o class_kind class) (true→T (is_class q))

      pub looked : {f g : Option Pointer} {j k : ℕ} → not x ≡ false → f ≡ lookup o selector class → j ≡ pairs_read o selector class → k ≡ dictionaries_read o selector class → f ≡ g
          → LookupIs s selector class m p d (word_found g) j k true
      unfolding registers_at when◌then◌else◌
      looked q a b w c =
          record { made = sym (ap₂ (λ (v : Verdict) (t : Bool). is_accepted v && t) yes (is_class q)); found = ap word_found (sym c ∙ a); read = b; walked = w }
