-- The depth table of code: computing it decides whether there is one, and its notes are those of the reached positions (01, "Code").
use Prim.Native.Nat.{ℕ, suc, pred, ◌+◌, ◌-◌, ◌≤◌, ◌<◌}
use mathlib.Core.Path.{◌≡◌, refl, ap, ◌∙◌, subst}
use mathlib.Core.Logic.{◌↔◌}
use mathlib.Core.Bool.{Bool, true, false}
use mathlib.Core.List.{List, [], ◌∷◌, Memᴰ}
use mathlib.Core.Option.{Option, none, some}
use native.Mathlib.Omega.{arith}
use native.Mathlib.Decide.{dec_lt}
use lib.Dec.{T, leb}
use lib.ListN.{length}
use Rattle.bytecode.specs.Test.{when◌then◌else◌, all_of}
use Rattle.bytecode.specs.Code.{next_at, decode_at}
use Rattle.bytecode.specs.Effect.{usable, successors}
use Rattle.bytecode.specs.declared.Instruction.{Instruction}
use Rattle.bytecode.specs.declared.Instruction.TheVariants.{Push, Store, PopStore, PushSelf, PushConstant, ReturnSelf, ReturnConstant, ReturnTop, Pop, Duplicate, Jump, JumpOn, Send, SuperSend, SpecialSend, Unused}
use Rattle.bytecode.proofs.Choice.{if_ge}
use Rattle.bytecode.proofs.TestLaws.{rule}
use Rattle.model.specs.Objects.{Objects}
use Rattle.model.specs.Method.{code_words, code_size, temporary_count, frame_words}
use Rattle.model.specs.Depth.{Reached, first, onward, note_at, successorsAt, depthAfterAt, rulesAt, fineAt, Sound, depthTable, is_some}
use Rattle.model.specs.Rules.{allowed, SoundMethod, method_table}
use Rattle.model.proofs.WalkLaws.{Notes, at_reached, found, decides_walk}

one_or_none : (b : Bool) (p : ℕ) → length (when b then p ∷ [] else []) ≤ 2
unfolding when◌then◌else◌
one_or_none true p = omega arith
one_or_none false p = omega arith

pub at_most_two : (next : ℕ) (i : Instruction) → length (successors next i) ≤ 2
unfolding successors
at_most_two next (Push p) = omega arith
at_most_two next (Store p) = omega arith
at_most_two next (PopStore p) = omega arith
at_most_two next PushSelf = omega arith
at_most_two next (PushConstant w) = omega arith
at_most_two next ReturnSelf = omega arith
at_most_two next (ReturnConstant w) = omega arith
at_most_two next ReturnTop = omega arith
at_most_two next Pop = omega arith
at_most_two next Duplicate = omega arith
at_most_two next (Jump a b) = one_or_none (leb b (next + a)) (next + a - b)
at_most_two next (JumpOn x a) = omega arith
at_most_two next (Send l n) = omega arith
at_most_two next (SuperSend l n) = omega arith
at_most_two next (SpecialSend k) = omega arith
at_most_two next Unused = omega arith

not_unused : (next : ℕ) (i : Instruction) → T (usable next i) → i ≡ Unused → ⊥
unfolding usable
not_unused next i t e = subst (λ (x : Instruction). T (usable next x)) e t

module _ (words : List ℕ) (size temporaries limit : ℕ) (rules : Instruction → Bool) where
  -- a position that keeps its rules is inside the code
  pub fine_inside : (p d : ℕ) → T (fineAt words size temporaries limit rules p d) → p < size
  unfolding fineAt rulesAt
  fine_inside p d t = go (dec_lt p size)
    where
      go : Dec (p < size) → p < size
      go (yes h) = h
      go (no h) =
          absurd (not_unused (next_at words p) (decode_at words size p) (rule (rulesAt words size temporaries limit rules p d) t 0)
          (unfold decode_at in if_ge p size _ Unused (omega arith)))

  two : (p : ℕ) → length (successorsAt words size p) ≤ 2
  unfolding successorsAt
  two p = at_most_two (next_at words p) (decode_at words size p)

  -- the computation decides whether the code is sound
  pub decides : Sound words size temporaries limit rules ↔ T (is_some (depthTable words size temporaries limit rules))
  unfolding depthTable
  decides = decides_walk (fineAt words size temporaries limit rules) (successorsAt words size) (depthAfterAt words size) size fine_inside two

  -- and its notes are a depth table of the reached positions
  pub table_notes : (t : List ℕ) → depthTable words size temporaries limit rules ≡ some t
      → Notes (fineAt words size temporaries limit rules) (successorsAt words size) (depthAfterAt words size) size t
  unfolding depthTable
  table_notes t e = found (fineAt words size temporaries limit rules) (successorsAt words size) (depthAfterAt words size) size fine_inside t e

-- the same for a method
pub decides_method : (e : ℕ) (o : Objects) (m : ℕ) → SoundMethod e o m ↔ T (is_some (method_table e o m))
unfolding method_table
decides_method e o m = decides (code_words o m) (code_size o m) (temporary_count o m) (frame_words o m) (allowed e o m)

-- What a note of a method's table says of its position: the instruction there keeps its rules, and each successor is noted with
-- the depth that it leaves it.
pub record Spot (e : ℕ) (o : Objects) (m p d : ℕ) : Type 0 where
  pub kept : T (all_of (rulesAt (code_words o m) (code_size o m) (temporary_count o m) (frame_words o m) (allowed e o m) p d))
  pub along : (q : ℕ) → Memᴰ q (successorsAt (code_words o m) (code_size o m) p)
      → note_at (method_table e o m) q ≡ suc (depthAfterAt (code_words o m) (code_size o m) p q d)

module _ (e : ℕ) (o : Objects) (m : ℕ) where
  method_notes : (t : List ℕ) → method_table e o m ≡ some t
      → Notes (fineAt (code_words o m) (code_size o m) (temporary_count o m) (frame_words o m) (allowed e o m)) (successorsAt (code_words o m) (code_size o m))
      (depthAfterAt (code_words o m) (code_size o m)) (code_size o m) t
  unfolding method_table
  method_notes t h = table_notes (code_words o m) (code_size o m) (temporary_count o m) (frame_words o m) (allowed e o m) t h

  pub spot : (p d : ℕ) → note_at (method_table e o m) p ≡ suc d → Spot e o m p d
  unfolding fineAt
  spot p d h = go (method_table e o m) refl h
    where
      go : (x : Option (List ℕ)) → method_table e o m ≡ x → note_at x p ≡ suc d → Spot e o m p d
      go none h n = absurd (zero_not_suc n)
        where
          zero_not_suc : {k : ℕ} → ◌≡◌ {A = ℕ} 0 (suc k) → ⊥
          zero_not_suc z = omega arith
      go (some t) h n =
          let notes = method_notes t h in
          let r : Reached (successorsAt (code_words o m) (code_size o m)) p = at_reached (notes.path p d n) in
          record {
            kept = notes.kept p d n;
            along = λ q s. ap (λ (x : Option (List ℕ)). note_at x q) h ∙ notes.reached q (onward r s)
                ∙ ap suc (notes.table.along p q r s ∙ ap (λ (k : ℕ). depthAfterAt (code_words o m) (code_size o m) p q (pred k)) n);
          }

  -- position 0 of a sound method is noted with depth 0
  pub spot_start : T (is_some (method_table e o m)) → note_at (method_table e o m) 0 ≡ 1
  spot_start s = go (method_table e o m) refl s
    where
      go : (x : Option (List ℕ)) → method_table e o m ≡ x → T (is_some x) → note_at (method_table e o m) 0 ≡ 1
      go none h s' = absurd s'
      go (some t) h s' =
          let notes = method_notes t h in
          ap (λ (x : Option (List ℕ)). note_at x 0) h ∙ notes.reached 0 first ∙ ap suc notes.table.start
