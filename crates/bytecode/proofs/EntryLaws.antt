-- What a byte's entry says of the instruction that the byte begins.
use Prim.Native.Nat.{ℕ, zero, suc, ◌+◌, ◌-◌, ◌<◌, ◌≤◌}
use mathlib.Core.Path.{◌≡◌, refl, subst}
use mathlib.Core.Bool.{Bool, true, ◌&&◌, ◌||◌}
use mathlib.Core.Logic.{⊎_elim}
use mathlib.Core.List.{[], ◌∷◌}
use native.Mathlib.Omega.{arith}
use native.Mathlib.Decide.{ℕ_discrete}
use lib.Dec.{T, ltb, eqb, eqb→eq, ltb→lt}
use Rattle.bytecode.specs.Test.{when◌then◌else◌}
use Rattle.bytecode.specs.Code.{place_of, short_of, constant_of, extended_of, jump_of, send_of, instruction_of, length_of}
use Rattle.bytecode.specs.Effect.{special_count, need, leaves, usable, successors}
use Rattle.bytecode.specs.Table.{group, alone, group_of, extra_of}
use Rattle.bytecode.specs.declared.Instruction.{Instruction}
use Rattle.bytecode.specs.declared.Instruction.TheVariants.{Push, Store, PopStore, PushSelf, PushConstant, ReturnSelf, ReturnConstant, ReturnTop, Pop, Duplicate, Jump, JumpOn, Send, SuperSend, SpecialSend, Unused}
use Rattle.bytecode.proofs.TestLaws.{and_left, and_right, or_cases, below_at}
use Rattle.bytecode.proofs.Choice.{if_ne, if_eq}
use Rattle.bytecode.proofs.CodeLaws.{same_bytes}

-- Need and what is left do not depend on the further bytes, but for the sends 131 to 134.
counted : ℕ → Bool
counted b = ltb 130 b && ltb b 135

module _ (f : ℕ → ℕ) where
  abbrev Needs : ℕ → Type 0
  Needs b = need (instruction_of b f) ≡ need (alone b) + extra_of b (f 1)

  abbrev Leaves : ℕ → Type 0
  Leaves b = leaves (instruction_of b f) ≡ leaves (alone b)

  Effect : ℕ → Type 0
  Effect b = Needs b × Leaves b

  effect_test : ℕ → Bool
  effect_test b =
      counted b
      || (eqb (need (instruction_of b f)) (need (alone b) + extra_of b (f 1))
      && eqb (leaves (instruction_of b f)) (leaves (alone b)))

  effects_tested : (b : ℕ) → b < 256 → T (effect_test b)
  unfolding counted effect_test when◌then◌else◌ place_of short_of constant_of extended_of jump_of send_of instruction_of special_count need leaves extra_of
  effects_tested b h = below_at 256 effect_test tt b h

  counted_effects : (k : ℕ) → k < 4 → Effect (131 + k)
  unfolding Effect when◌then◌else◌ short_of constant_of extended_of jump_of send_of instruction_of need leaves extra_of
  counted_effects zero h = (refl, refl)
  counted_effects (suc zero) h = (refl, refl)
  counted_effects (suc (suc zero)) h = (refl, refl)
  counted_effects (suc (suc (suc zero))) h = (refl, refl)
  counted_effects (suc (suc (suc (suc k)))) h = absurd (omega arith)

  pub effects : (b : ℕ) → b < 256 → (need (instruction_of b f) ≡ need (alone b) + extra_of b (f 1)) × (leaves (instruction_of b f) ≡ leaves (alone b))
  unfolding counted effect_test Effect
  effects b h =
      let n = need (instruction_of b f) in
      let m = need (alone b) + extra_of b (f 1) in
      let k = leaves (instruction_of b f) in
      let l = leaves (alone b) in
      ⊎_elim
      (λ t.
      let p : 130 < b = ltb→lt 130 b (and_left (ltb 130 b) (ltb b 135) t) in
      let q : b < 135 = ltb→lt b 135 (and_right (ltb 130 b) (ltb b 135) t) in
      subst Effect (omega arith) (counted_effects (b - 131) (omega arith)))
      (λ t. (eqb→eq n m (and_left (eqb n m) (eqb k l) t), eqb→eq k l (and_right (eqb n m) (eqb k l) t)))
      (or_cases (counted b) (eqb n m && eqb k l) (effects_tested b h))

pub one_byte : (b : ℕ) (f : ℕ → ℕ) → length_of b ≡ 1 → instruction_of b f ≡ alone b
one_byte b f e = same_bytes b f (λ k. 0) (λ k l h. absurd (omega arith))

-- What the group of an instruction says of it
abbrev GroupSays : ℕ → Instruction → ℕ → Type 0
GroupSays next i zero = (usable next i ≡ true) × (successors next i ≡ next ∷ [])
GroupSays next i (suc zero) = (usable next i ≡ true) × (successors next i ≡ [])
GroupSays next i (suc (suc zero)) = Unit {0}
GroupSays next i (suc (suc (suc k))) = i ≡ Unused

group_says : (next : ℕ) (i : Instruction) → GroupSays next i (group i)
unfolding group usable successors
group_says next (Push p) = (refl, refl)
group_says next (Store p) = (refl, refl)
group_says next (PopStore p) = (refl, refl)
group_says next PushSelf = (refl, refl)
group_says next (PushConstant w) = (refl, refl)
group_says next ReturnSelf = (refl, refl)
group_says next (ReturnConstant w) = (refl, refl)
group_says next ReturnTop = (refl, refl)
group_says next Pop = (refl, refl)
group_says next Duplicate = (refl, refl)
group_says next (Jump a b) = tt
group_says next (JumpOn x a) = tt
group_says next (Send l n) = (refl, refl)
group_says next (SuperSend l n) = (refl, refl)
group_says next (SpecialSend k) = (refl, refl)
group_says next Unused = refl

module _ (next : ℕ) (i : Instruction) where
  pub goes_on : group i ≡ 0 → (usable next i ≡ true) × (successors next i ≡ next ∷ [])
  goes_on e = subst (GroupSays next i) e (group_says next i)

  pub returning : group i ≡ 1 → (usable next i ≡ true) × (successors next i ≡ [])
  returning e = subst (GroupSays next i) e (group_says next i)

pub unused : (i : Instruction) → 3 ≤ group i → i ≡ Unused
unused i h = by (group i) h (group_says 0 i)
  where
    by : (k : ℕ) → 3 ≤ k → GroupSays 0 i k → i ≡ Unused
    by zero l s = absurd (omega arith)
    by (suc zero) l s = absurd (omega arith)
    by (suc (suc zero)) l s = absurd (omega arith)
    by (suc (suc (suc k))) l s = s

-- A byte's group other than 2 is that of its instruction, which has one byte.
pub group_of_lem : (b : ℕ) → (group_of b ≡ 2 → ⊥) → (length_of b ≡ 1) × (group_of b ≡ group (alone b))
unfolding group_of
group_of_lem b n = by (ℕ_discrete (length_of b) 1)
  where
    by : Dec (length_of b ≡ 1) → (length_of b ≡ 1) × (group_of b ≡ group (alone b))
    by (yes e) = (e, if_eq (length_of b) 1 (group (alone b)) 2 e)
    by (no d) = absurd (n (if_ne (length_of b) 1 (group (alone b)) 2 d))
