-- What is settled of the lent words before the image rules are asked (01, "From the input", 2 and 3), and where a body has to start.
use Rattle.std.specs.Prelude.{ℕ, ◌-◌, ◌*◌, ◌≤◌, List, eqb, length}
use Rattle.bytecode.specs.Test.{when◌then◌else◌}
use Rattle.model.specs.Limits.{entry_words, least_objects, most_objects, most_body_words}
use Rattle.model.specs.Objects.{Objects, body_end}

-- n objects and b body words, in the range of edition e, and the buffers hold them
pub record Lent (e n b : ℕ) (contents bodies : List ℕ) : Type 0 where
  pub entries : entry_words * n ≤ length contents
  pub words : b ≤ length bodies
  pub least : least_objects e ≤ n
  pub most : n ≤ most_objects
  pub most_words : b ≤ most_body_words

unfoldable pub start_of : Objects → ℕ → ℕ
start_of o k = when eqb k 1 then 0 else body_end o (k - 1)
