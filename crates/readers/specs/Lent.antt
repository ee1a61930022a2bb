-- A memory that is lent: its objects, and what is said of its counts and words.
use Rattle.std.specs.Prelude.{ℕ, List}
use Rattle.model.specs.Objects.{Objects, objects_at}
use Rattle.readers.specs.declared.Memory.{Memory}

abbrev pub objects_in : Memory → Objects
objects_in m = objects_at m.n m.b m.contents.now m.bodies.now

abbrev pub In : {A : Type 1} → (ℕ → ℕ → List ℕ → List ℕ → A) → Memory → A
In P m = P m.n m.b m.contents.now m.bodies.now

-- with a place in the stack
abbrev pub On : {A : Type 1} → (ℕ → ℕ → ℕ → List ℕ → List ℕ → A) → Memory → ℕ → A
On P m top = P m.n m.b top m.contents.now m.bodies.now
