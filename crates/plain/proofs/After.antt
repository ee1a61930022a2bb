-- What a step, a begin or a run does to the objects, and what a step needs of them.
use Prim.Native.Nat.{ℕ, ◌*◌, ◌≤◌}
use mathlib.Core.Path.{sym, subst}
use mathlib.Core.List.{[]}
use lib.Dec.{T}
use Rattle.model.specs.Limits.{entry_words}
use Rattle.model.specs.Objects.{Objects}
use Rattle.model.specs.Image.{Room}
use Rattle.model.proofs.Facts.{Right}
use Rattle.model.proofs.Extends.{Extends}
use Rattle.model.proofs.Unchanged.{start_same}
use Rattle.plain.specs.State.{Plain, objects}
use Rattle.plain.proofs.Preserve.{Kept}
use Rattle.plain.proofs.StateLaws.{PlainRight, goes}

-- Objects after others: right, with classes, lists and methods as they were, and within the buffers
pub record After (e : ℕ) (room : Room) (o o' : Objects) : Type 0 where
  pub extends : Extends o o'
  pub right : Right e o'
  pub contents : entry_words * o'.n ≤ room.contents
  pub bodies : o'.b ≤ room.bodies

-- a right state after a step
pub kept_right : (room : Room) (s s' : Plain) → PlainRight room s → Kept (After s.registers.edition room) room s s' → PlainRight room s'
kept_right room s s' r k =
    record {
      image = subst (λ (e : ℕ). Right e (objects s')) (sym k.edition) k.after.right;
      contents = k.after.contents;
      bodies = k.after.bodies;
      starts = starts';
      stands = goes
          k.shape;
    }
  where
    starts' : T (Rattle.model.specs.Rules.rule8 (objects s') s'.registers.start_receiver s'.registers.start_selector [])
    starts' =
        subst (λ (w : ℕ). T (Rattle.model.specs.Rules.rule8 (objects s') w s'.registers.start_selector [])) (sym k.receiver)
        (subst (λ (w : ℕ). T (Rattle.model.specs.Rules.rule8 (objects s') s.registers.start_receiver w [])) (sym k.selector)
        (start_same k.after.extends s.registers.start_receiver s.registers.start_selector r.starts))
