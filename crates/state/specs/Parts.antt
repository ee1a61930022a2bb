-- Parts of check's test of a state.
use Rattle.std.specs.Prelude.{ℕ, suc, Bool, true, ◌&&◌, List, leb, eqb, length}
use Rattle.bytecode.specs.Test.{when◌then◌else◌}
use Rattle.model.specs.Word.{is_valid}
use Rattle.model.specs.Objects.{Objects}
use Rattle.plain.specs.Registers.{finished, last_phase, has_frames}
use Rattle.plain.specs.Flat.{frames_from}
use Rattle.plain.specs.Check.{frames_fine}

-- Phase and value
unfoldable pub registers_fine : ℕ → ℕ → ℕ → Bool
registers_fine n phase value = leb phase last_phase && (when eqb phase finished then is_valid n value else eqb value 0)

-- The frames in an edition, or top 0 where there are none
unfoldable pub standing_fine : ℕ → Objects → List ℕ → ℕ → ℕ → Bool
standing_fine e o stack phase top =
    when has_frames phase then frames_fine e o (length stack) true top (frames_from (suc top) o stack top) else eqb top 0
