-- Which entries and words are inside, of objects that are right.
use Prim.Native.Nat.{ℕ, ◌+◌, ◌*◌, ◌%◌, ◌≤◌, ◌<◌}
use mathlib.Core.Path.{◌≡◌}
use mathlib.Core.List.{List}
use lib.Dec.{T}
use lib.ListN.{length}
use Rattle.model.specs.Limits.{entry_words, fields_kind, method_kind, selectors_object, special_selectors}
use Rattle.model.specs.Word.{is_valid, pointer, object_number}
use Rattle.model.specs.Objects.{objects_at, size}
use Rattle.model.specs.Method.{literal_count}
use Rattle.model.specs.Rules.{Right}
use Rattle.model.proofs.Facts.{Valid, odd, names, valid_cases, known_facts, method_facts}
use Rattle.readers.specs.Places.{Entry, Inside, Laid}
use Rattle.readers.proofs.InsideLaws as I
use Rattle.objects.specs.Lent.{Holds}

module _ {k n b : ℕ} {contents bodies : List ℕ} {w : ℕ} (h : Holds k n b contents bodies w) where
  pub holds_laid : Laid n b contents bodies
  holds_laid = I.right_laid h.right.1

  pub holds_entry : Entry n (object_number w) contents
  holds_entry = I.entry_here holds_laid k w h.kinds

module _ {n b : ℕ} {contents bodies : List ℕ} where
  pub method_inside : {m : ℕ} (i : ℕ) → i < 2 + literal_count (objects_at n b contents bodies) m → Holds method_kind n b contents bodies m → Inside n b contents bodies m i
  method_inside {m} i l h = I.method_inside (holds_laid h) (literal_count (objects_at n b contents bodies) m) h.kinds (method_facts h.right.1 m h.kinds).holds l

  pub field_inside : {w : ℕ} (i : ℕ) → i < size (objects_at n b contents bodies) (object_number w) → Holds fields_kind n b contents bodies w → Inside n b contents bodies w i
  field_inside i l h = I.word_inside (holds_laid h) fields_kind tt h.kinds l

-- the special selectors, by the word of object 5
pub special_inside : {e n b : ℕ} {contents bodies : List ℕ} (k : ℕ) → Right e (objects_at n b contents bodies) → k < special_selectors → Inside n b contents bodies (pointer selectors_object) k
special_inside k r l = let f = known_facts r in I.selectors_inside (I.right_laid r) f.selectors f.selectors_size l

pub valid_entry : (n : ℕ) (contents : List ℕ) (w : ℕ) → T (is_valid n w) → (w % 2 ≡ 1 → ⊥) → entry_words * n ≤ length contents → Entry n (object_number w) contents
valid_entry n contents w t d h = go (valid_cases n w t)
  where
    go : Valid n w → Entry n (object_number w) contents
    go (odd q) = absurd (d q)
    go (names a b c) = record { entries = h; least = b; most = c }
