-- Objects in the lent buffers: what a function asks of them, and what it leaves there.
use Rattle.std.specs.Prelude.{ℕ, ◌+◌, ◌-◌, ◌≤◌, ◌≡◌, List, T, length, take, drop}
use Rattle.model.specs.Word.{object_number}
use Rattle.model.specs.Objects.{objects_at, start, body_words, is_kind}
use Rattle.model.specs.Method.{literal_count, code_words, code_size}
use Rattle.model.specs.Rules.{IsRight}
use Rattle.objects.specs.declared.Code.{Code}

-- w names an object of kind k.
pub record Holds (k n b : ℕ) (contents bodies : List ℕ) (w : ℕ) : Type 0 where
  pub right : IsRight (objects_at n b contents bodies)
  pub kinds : T (is_kind (objects_at n b contents bodies) k w)

-- Where the code of method m stands in bodies
pub record CodeAt (n b : ℕ) (contents bodies : List ℕ) (m : ℕ) (c : Code) : Type 0 where
  pub from : c.from ≡ start (objects_at n b contents bodies) (object_number m) + (2 + literal_count (objects_at n b contents bodies) m)
  pub end : c.end ≡ start (objects_at n b contents bodies) (object_number m) + body_words (objects_at n b contents bodies) (object_number m)
  pub size : c.size ≡ code_size (objects_at n b contents bodies) m
  pub ordered : c.from ≤ c.end
  pub inside : c.end ≤ length bodies
  pub words : take (c.end - c.from) (drop c.from bodies) ≡ code_words (objects_at n b contents bodies) m
