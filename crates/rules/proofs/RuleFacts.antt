-- What rule 6 says of classes and the objects 1 to 5 before rule 7 is known: the same facts that a right image has.
use Prim.Native.Nat.{ℕ, ◌/◌, ◌≤◌}
use mathlib.Core.Path.{subst}
use borrow.Author.Tests.{eq-eqb}
use lib.Dec.{T, eqb}
use Rattle.bytecode.specs.Test.{up_to, implies, all_of}
use Rattle.bytecode.proofs.TestLaws.{true→T, and_left, and_right, implied, up_to_at}
use Rattle.model.specs.Limits.{class_kind}
use Rattle.model.specs.Word.{pointer}
use Rattle.model.specs.Objects.{Objects, kind, is_kind}
use Rattle.model.specs.Rules.{entry_fine, class_rules, known_object_rules, object_fine, rule6}
use Rattle.model.proofs.ChainLaws.{named}
use Rattle.model.proofs.Facts.{pointer_of, ClassFacts, class_facts_of, KnownFacts, known_facts_of}

module _ (e : ℕ) (o : Objects) (six : T (rule6 e o)) where
  object_at : (k : ℕ) → 1 ≤ k → k ≤ o.n → T (object_fine e o k)
  unfolding rule6
  object_at k h g = up_to_at o.n (object_fine e o) (and_right (all_of (known_object_rules e o)) (up_to o.n (object_fine e o)) six) k h g

  pub known_at : KnownFacts o
  unfolding rule6
  known_at = known_facts_of e o (and_left (all_of (known_object_rules e o)) (up_to o.n (object_fine e o)) six)

  pub class_at : (c : ℕ) → T (is_kind o class_kind c) → ClassFacts e o c
  unfolding object_fine
  class_at c t =
      let h = named o class_kind c t in
      let q = and_right (entry_fine e o (c / 2)) (implies (eqb (kind o (c / 2)) class_kind) (all_of (class_rules e o (pointer (c / 2))))) (object_at (c / 2) h.least h.most) in
      class_facts_of e o c
      (subst (λ (x : ℕ). T (all_of (class_rules e o x))) (pointer_of c h.even)
      (implied (eqb (kind o (c / 2)) class_kind) (all_of (class_rules e o (pointer (c / 2)))) q (true→T (eq-eqb (kind o (c / 2)) class_kind h.kinds))))
