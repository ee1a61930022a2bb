-- The tests of one frame in the order in which the code makes them.
use Rattle.std.specs.Prelude.{ℕ, suc, ◌+◌, ◌*◌, ◌≤◌, ◌≡◌, Bool, ◌&&◌, List, T, eqb, length}
use Rattle.model.specs.Limits.{method_kind}
use Rattle.model.specs.Word.{is_valid}
use Rattle.model.specs.Objects.{Objects, objects_at, class_of, is_kind}
use Rattle.model.specs.Method.{home, frame_size}
use Rattle.model.specs.Depth.{note_at}
use Rattle.model.specs.Lookup.{in_chain}
use Rattle.model.specs.Rules.{method_table, Right}
use Rattle.model.specs.Notes.{NotedBefore}
use Rattle.plain.specs.State.{Frame, no_mark, fits_stack}
use Rattle.plain.specs.Flat.{frame_method}
use Rattle.plain.specs.Check.{note_of}

-- The frame at a base is a method's, and fits.
unfoldable pub stands_at_of : Objects → List ℕ → ℕ → Bool
stands_at_of o stack base =
    is_kind o method_kind (frame_method stack base) && fits_stack (length stack) base (frame_size o (frame_method stack base))

-- It stands there, up to an end.
pub record EndsAt (o : Objects) (stack : List ℕ) (base end : ℕ) : Type 0 where
  pub stands : T (stands_at_of o stack base)
  pub ends : end ≡ base + frame_size o (frame_method stack base)

-- Its words but for temporaries and operands
unfoldable pub six_words_fine : ℕ → Objects → Bool → Frame → Bool
six_words_fine e o is_top f =
    eqb f.mark no_mark
    && (is_valid o.n f.receiver
    && (in_chain o (home o f.method) (class_of o f.receiver)
    && eqb (note_at (method_table e o f.method) f.position) (note_of is_top f)))

-- Right objects with the notes of all methods
pub record Noted (e n b : ℕ) (contents bodies notes : List ℕ) : Type 0 where
  pub right : Right e (objects_at n b contents bodies)
  pub noted : NotedBefore e (objects_at n b contents bodies) notes (suc n)
  pub room : 2 * b ≤ length notes

-- and a frame in the stack
pub record Stands (e n b : ℕ) (contents bodies stack notes : List ℕ) (base : ℕ) : Type 0 where
  pub image : Noted e n b contents bodies notes
  pub frame : T (stands_at_of (objects_at n b contents bodies) stack base)
