-- `both` is two visits in turn.
use mathlib.Core.Path.{◌≡◌}
use mathlib.Core.Logic.{◌⊎◌, inl, inr}
use Prim.Native.Nat.{ℕ}
use Rattle.flow.specs.Walk.{Goes}
use Rattle.flow.specs.declared.Went.{Went}
use Rattle.flow.specs.declared.Went.TheVariants.{Fresh, Known}
use Rattle.flow.proofs.StepLaws.{goes_fresh, goes_known}
use Rattle.flow.proofs.VisitLaws.{asks_again, visits_one, visits_more, visits_stuck}
use Rattle.flow.proofs.both.Goals as goal

goes_on : {r : Went} {k : ℕ} → ((p : ℕ) × (d : ℕ) × (r ≡ Fresh k p d)) ⊎ ((p : ℕ) × (d : ℕ) × (r ≡ Known k p d)) → Goes r k
goes_on (inl (p, d, e)) = goes_fresh e
goes_on (inr (p, d, e)) = goes_known e

pub visit-requires-in-Fresh : goal.visit-requires-in-Fresh
visit-requires-in-Fresh c = asks_again c.requires (c.visit.ensures.goes _ (goes_on c.in-Fresh.is))

pub returns-in-Fresh : goal.returns-in-Fresh
returns-in-Fresh c =
    visits_more _ c.visit.ensures _ _ _ _ (goes_on c.in-Fresh.is) (visits_one _ c.visit-in-Fresh.ensures)

pub returns-in-Stuck : goal.returns-in-Stuck
returns-in-Stuck c =
    visits_stuck _ c.visit.ensures _ _ _ c.in-Stuck.is
