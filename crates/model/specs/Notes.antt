-- The depth notes of all methods in one table, a byte for each byte of the bodies.
use Rattle.std.specs.Prelude.{ℕ, ◌+◌, ◌*◌, ◌≤◌, ◌<◌, ◌≡◌, List, get_or}
use Rattle.model.specs.Limits.{method_kind}
use Rattle.model.specs.Word.{pointer, object_number}
use Rattle.model.specs.Objects.{Objects, start, kind}
use Rattle.model.specs.Method.{literal_count, code_size}
use Rattle.model.specs.Depth.{note_at}
use Rattle.model.specs.Rules.{method_table}

-- where the notes of a method's code stand
abbrev pub notes_from : Objects → ℕ → ℕ
notes_from o m = 2 * (start o (object_number m) + (2 + literal_count o m))

-- the notes of method m are those of its depth table, 0 where there is none
abbrev pub MethodNoted : ℕ → Objects → List ℕ → ℕ → Type 0
MethodNoted e o notes m = (p : ℕ) → p < code_size o m → get_or notes (notes_from o m + p) 0 ≡ note_at (method_table e o m) p

-- the methods among the objects below k have their notes
abbrev pub NotedBefore : ℕ → Objects → List ℕ → ℕ → Type 0
NotedBefore e o notes k = (j : ℕ) → 1 ≤ j → j < k → kind o j ≡ method_kind → MethodNoted e o notes (pointer j)
