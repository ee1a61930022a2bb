-- What a lookup that is compared from outside gives.
use Rattle.std.specs.Prelude.{ℕ, ◌≡◌, Bool, true, false, ◌&&◌, Option, Some, None}
use Rattle.bytecode.specs.Test.{when◌then◌else◌}
use Rattle.model.specs.declared.Pointer.{Pointer}
use Rattle.model.specs.Limits.{class_kind}
use Rattle.model.specs.Objects.{is_kind}
use Rattle.model.specs.Lookup.{lookup, dictionaries_read, pairs_read}
use Rattle.model.specs.Image.{Verdict, accepted, refused}
use Rattle.plain.specs.Flat.{Flat, flat_objects}
use Rattle.plain.specs.Check.{check}

abbrev pub is_accepted : Verdict → Bool
is_accepted accepted = true
is_accepted (refused k) = false

-- The word of a method, 0 for none
abbrev pub word_found : Option Pointer → ℕ
word_found (Some m) = m.0
word_found None = 0

-- A method, pairs and dictionaries that stood there are written over where a lookup was made.
pub record LookupIs (s : Flat) (selector class method pairs dictionaries method' pairs' dictionaries' : ℕ) (r : Bool) : Type 0 where
  pub made : r ≡ (is_accepted (check s) && is_kind (flat_objects s) class_kind class)
  pub found : method' ≡ (when r then word_found (lookup (flat_objects s) selector class) else method)
  pub read : pairs' ≡ (when r then pairs_read (flat_objects s) selector class else pairs)
  pub walked : dictionaries' ≡ (when r then dictionaries_read (flat_objects s) selector class else dictionaries)
