-- Selector and array are written, then entered.
use mathlib.Core.Path.{refl}
use mathlib.Core.List.{[], ◌∷◌}
use native.Mathlib.Omega.{arith}
use lib.ListN.{length-set}
use Rattle.primitives.proofs.Growing.{does_written, stand_of, two_words}
use Rattle.primitives.proofs.append_message.Goals as goal

pub bounds-bodies-b-2 : goal.bounds-bodies-b-2
bounds-bodies-b-2 c = simp length-set (omega arith)

pub returns : goal.returns
returns c =
    let a = c.args in
    stand_of (does_written _ _ _ (a.selector ∷ a.array ∷ []) refl c.requires.3 (two_words a.bodies.now a.b a.selector a.array)
    (c.append.ensures _ (simp length-set (omega arith))))
