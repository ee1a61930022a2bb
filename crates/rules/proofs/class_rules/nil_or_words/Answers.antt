-- `nil_or_words` tests every word. What is nil or of a kind does not depend on the bodies.
use Prim.Native.Nat.{ℕ}
use Rattle.std.proofs.Common.{rules, tests}
use mathlib.Core.Bool.{Bool}
use mathlib.Core.List.{List, []}
use mathlib.Core.Path.{◌≡◌}
use Rattle.std.proofs.lemmas.Iterator.{YieldsList-from_slice}
use Rattle.std.proofs.lemmas.Iterator.Search.{all_from_yields_List}
use Rattle.model.specs.Objects.{objects_at, is_nil_or, entries_at}
use Rattle.rules.proofs.class_rules.nil_or_words.Goals as goal

alone : (r : Bool) (n of w : ℕ) (contents : List ℕ) → ((b : ℕ) (bodies : List ℕ) → r ≡ is_nil_or (objects_at n b contents bodies) of w)
    → r ≡ is_nil_or (entries_at n contents) of w
alone r n of w contents e = e 0 []

pub returns : goal.returns
returns c =
    let a = c.args in
    all_from_yields_List (is_nil_or (entries_at a.memory.now.n a.memory.now.contents.now) a.of) _ _ c.all.result c.all.ensures.ran (YieldsList-from_slice a.words.now cc)
    (λ x b q k. (search (rules, tests), alone b a.memory.now.n a.of x.now a.memory.now.contents.now (search (rules, tests))))
