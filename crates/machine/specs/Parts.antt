-- The first parts of check's test of a state.
use Rattle.std.specs.Prelude.{◌≡◌, true}
use Rattle.model.specs.Rules.{header_fine}
use Rattle.plain.specs.Registers.{Registers}
use Rattle.state.specs.Parts.{registers_fine}

-- edition, N and B are in range, phase and value are right
pub record FirstParts (r : Registers) : Type 0 where
  pub header : header_fine r.edition r.n r.b ≡ true
  pub registers : registers_fine r.n r.phase r.value ≡ true
