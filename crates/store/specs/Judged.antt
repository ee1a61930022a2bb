-- What judging the objects in the lent words promises.
use Rattle.std.specs.Prelude.{ℕ, suc, ◌≡◌, List}
use Rattle.model.specs.Objects.{Objects}
use Rattle.model.specs.Notes.{NotedBefore}
use Rattle.model.specs.Image.{objects_verdict}
use Rattle.store.specs.Answer.{number_of}

-- The number is that of the verdict. Where it is 0, all methods have their depth notes.
pub record Judged (e : ℕ) (o : Objects) (receiver selector : ℕ) (notes : List ℕ) (r : ℕ) : Type 0 where
  pub answer : r ≡ number_of (objects_verdict e o receiver selector)
  pub noted : r ≡ 0 → NotedBefore e o notes (suc o.n)
