-- The table's rule, tested at every byte.
use Prim.Native.Nat.{ℕ}
use mathlib.Core.Bool.{Bool}
use mathlib.Core.List.{List, [], ◌∷◌}
use lib.Dec.{T, eqb, eqb→eq}
use lib.ListN.{get_or}
use Rattle.bytecode.specs.Test.{below, all_of}
use Rattle.bytecode.specs.Code.{length_of}
use Rattle.bytecode.specs.Effect.{need, leaves}
use Rattle.bytecode.specs.Table.{bound, index, alone, group_of, group_part, length_part, need_part, leaves_part, bound_part, index_part, Entry, IsTable}
use Rattle.bytecode.proofs.TestLaws.{rule, below_at}

abbrev pub entry_rules : ℕ → ℕ → List Bool
entry_rules b e =
    eqb (group_part e) (group_of b) ∷
    eqb (length_part e) (length_of b) ∷
    eqb (need_part e) (need (alone b)) ∷
    eqb (leaves_part e) (leaves (alone b)) ∷
    eqb (bound_part e) (bound (alone b)) ∷
    eqb (index_part e) (index (alone b)) ∷
    []

abbrev pub table_test : List ℕ → Bool
table_test t = below 256 (λ b. all_of (entry_rules b (get_or t b 0)))

right : (b e : ℕ) → T (all_of (entry_rules b e)) → Entry b e
right b e t =
    record {
      group = eqb→eq (group_part e) (group_of b) (rule (entry_rules b e) t 0);
      length = eqb→eq (length_part e) (length_of b) (rule (entry_rules b e) t 1);
      needs = eqb→eq (need_part e) (need (alone b)) (rule (entry_rules b e) t 2);
      leave = eqb→eq (leaves_part e) (leaves (alone b)) (rule (entry_rules b e) t 3);
      bounds = eqb→eq (bound_part e) (bound (alone b)) (rule (entry_rules b e) t 4);
      indexes = eqb→eq (index_part e) (index (alone b)) (rule (entry_rules b e) t 5);
    }

pub table_right : (t : List ℕ) → T (table_test t) → IsTable t
table_right t r = record { entry = λ b h. right b (get_or t b 0) (below_at 256 (λ k. all_of (entry_rules k (get_or t k 0))) r b h) }
