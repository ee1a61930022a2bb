-- The rules with no objects, on the instructions that a byte can begin.
use Prim.Native.Nat.{ℕ, zero, suc, ◌+◌, ◌-◌, ◌*◌, ◌%◌, ◌<◌, ◌≤◌}
use mathlib.Core.Path.{◌≡◌, refl, ap, ◌∙◌, subst}
use mathlib.Core.Bool.{Bool, true, false, ◌&&◌}
use mathlib.Core.List.{List}
use native.Mathlib.Omega.{arith}
use native.Mathlib.Decide.{dec_lt}
use borrow.Author.Tests.{eq-eqb}
use lib.Dec.{T, ltb, leb, eqb, leb→le, ltb→lt, eqb→eq}
use lib.ListN.{get_or}
use Rattle.bytecode.specs.Test.{when◌then◌else◌, implies}
use Rattle.bytecode.specs.Code.{place_of, short_of, constant_of, extended_of, jump_of, send_of, instruction_of, length_of}
use Rattle.bytecode.specs.Table.{place_bound, place_index, bound, index, group, alone, group_of, extra_of}
use Rattle.bytecode.specs.declared.Place.TheVariants.{Field, Temporary, Literal, LiteralVariable}
use Rattle.bytecode.specs.declared.Instruction.{Instruction}
use Rattle.bytecode.specs.declared.Instruction.TheVariants.{Push, Store, PopStore, PushSelf, PushConstant, ReturnSelf, ReturnConstant, ReturnTop, Pop, Duplicate, Jump, JumpOn, Send, SuperSend, SpecialSend, Unused}
use Rattle.bytecode.proofs.Choice.{ranges, if_lt, if_ge, if_either}
use Rattle.bytecode.proofs.CodeLaws.{is_jump}
use Rattle.bytecode.proofs.TestLaws.{T→true, true→T, and_left, and_right, implied, below_at}
use Rattle.model.specs.Rules.{is_writable}
use Rattle.flow.specs.Index.{placeIndexed, indexed, place_indexed_by, indexed_by}

-- The rule is that on the index: no store to a literal, and used
direct : Instruction → Bool
direct (Push p) = true
direct (Store (Literal i)) = false
direct (Store (Field i)) = true
direct (Store (Temporary i)) = true
direct (Store (LiteralVariable i)) = true
direct (PopStore (Literal i)) = false
direct (PopStore (Field i)) = true
direct (PopStore (Temporary i)) = true
direct (PopStore (LiteralVariable i)) = true
direct PushSelf = true
direct (PushConstant w) = true
direct ReturnSelf = true
direct (ReturnConstant w) = true
direct ReturnTop = true
direct Pop = true
direct Duplicate = true
direct (Jump a b) = true
direct (JumpOn x a) = true
direct (Send l n) = true
direct (SuperSend l n) = true
direct (SpecialSend k) = true
direct Unused = false

direct_test : ℕ → Bool
direct_test b = implies (eqb (group_of b) 0) (direct (alone b))

direct_tested : (b : ℕ) → b < 256 → T (direct_test b)
unfolding direct_test direct when◌then◌else◌ place_of short_of constant_of extended_of jump_of send_of instruction_of length_of group group_of
direct_tested b h = below_at 256 direct_test tt b h

direct_at : (b : ℕ) → b < 256 → group_of b ≡ 0 → T (direct (alone b))
unfolding direct_test
direct_at b h g = implied (eqb (group_of b) 0) (direct (alone b)) (direct_tested b h) (true→T (eq-eqb (group_of b) 0 g))

module _ (counts : List ℕ) where
  abbrev Said : Instruction → Type 0
  Said i = indexed_by counts i ≡ ltb (index i) (get_or counts (bound i) 0)

  abbrev SaidIf : Instruction → Bool → Type 0
  SaidIf i true = Said i
  SaidIf i false = Unit {0}

  said_if : get_or counts 0 0 ≡ 1 → (i : Instruction) → SaidIf i (direct i)
  unfolding direct placeIndexed indexed place_bound place_index bound index
  said_if one (Push (Field i)) = refl
  said_if one (Push (Temporary i)) = refl
  said_if one (Push (Literal i)) = refl
  said_if one (Push (LiteralVariable i)) = refl
  said_if one (Store (Literal i)) = tt
  said_if one (Store (Field i)) = refl
  said_if one (Store (Temporary i)) = refl
  said_if one (Store (LiteralVariable i)) = refl
  said_if one (PopStore (Literal i)) = tt
  said_if one (PopStore (Field i)) = refl
  said_if one (PopStore (Temporary i)) = refl
  said_if one (PopStore (LiteralVariable i)) = refl
  said_if one PushSelf = rw one
  said_if one (PushConstant w) = rw one
  said_if one ReturnSelf = rw one
  said_if one (ReturnConstant w) = rw one
  said_if one ReturnTop = rw one
  said_if one Pop = rw one
  said_if one Duplicate = rw one
  said_if one (Jump a b) = rw one
  said_if one (JumpOn x a) = rw one
  said_if one (Send l n) = refl
  said_if one (SuperSend l n) = refl
  said_if one (SpecialSend k) = rw one
  said_if one Unused = tt

  -- an instruction of one byte that goes on has no rule but that on its index
  pub said : get_or counts 0 0 ≡ 1 → (b : ℕ) → b < 256 → group_of b ≡ 0 → indexed_by counts (alone b) ≡ ltb (index (alone b)) (get_or counts (bound (alone b)) 0)
  said one b small h =
      subst (SaidIf (alone b)) (T→true (direct (alone b)) (direct_at b small h)) (said_if one (alone b))

  -- a return has no rule here
  abbrev ReturnSays : Instruction → ℕ → Type 0
  ReturnSays i zero = Unit {0}
  ReturnSays i (suc zero) = indexed_by counts i ≡ true
  ReturnSays i (suc (suc k)) = Unit {0}

  return_says : (i : Instruction) → ReturnSays i (group i)
  unfolding group indexed
  return_says (Push p) = tt
  return_says (Store p) = tt
  return_says (PopStore p) = tt
  return_says PushSelf = tt
  return_says (PushConstant w) = tt
  return_says ReturnSelf = refl
  return_says (ReturnConstant w) = refl
  return_says ReturnTop = refl
  return_says Pop = tt
  return_says Duplicate = tt
  return_says (Jump a b) = tt
  return_says (JumpOn x a) = tt
  return_says (Send l n) = tt
  return_says (SuperSend l n) = tt
  return_says (SpecialSend k) = tt
  return_says Unused = tt

  pub return_indexed : (i : Instruction) → group i ≡ 1 → indexed_by counts i ≡ true
  return_indexed i e = subst (ReturnSays i) e (return_says i)

-- from 128 on a place is a literal or a literal variable
pub place_literal : (fields temporaries literals x : ℕ) → 128 ≤ x → placeIndexed fields temporaries literals (place_of x) ≡ ltb (x % 64) literals
unfolding place_of placeIndexed
place_literal fields temporaries literals x h =
    let k : 64 ≤ x = omega arith in
    ap (placeIndexed fields temporaries literals) (if_ge x 64 _ _ k ∙ if_ge x 128 _ _ h)
    ∙ if_either (λ p. placeIndexed fields temporaries literals p ≡ ltb (x % 64) literals) (ltb x 192) (Literal (x % 64)) (LiteralVariable (x % 64)) refl refl

-- 128 to 134 go on
module _ (f : ℕ → ℕ) where
  goes_test : ℕ → Bool
  goes_test k = eqb (group (instruction_of (128 + k) f)) 0

  goes_tested : (k : ℕ) → k < 7 → T (goes_test k)
  unfolding goes_test when◌then◌else◌ short_of constant_of extended_of jump_of send_of instruction_of group
  goes_tested k h = below_at 7 goes_test tt k h

  pub extended_goes_on : (b : ℕ) → 128 ≤ b → b < 135 → group (instruction_of b f) ≡ 0
  unfolding goes_test
  extended_goes_on b l h =
      subst (λ (n : ℕ). group (instruction_of n f) ≡ 0) (omega arith)
      (eqb→eq (group (instruction_of (128 + (b - 128)) f)) 0 (goes_tested (b - 128) (omega arith)))

-- the rule on each of 128 to 134
module _ (counts : List ℕ) {b x y : ℕ} (f : ℕ → ℕ) (first : x ≡ f 1) (second : y ≡ f 2) where
  pub extended_128 : b ≡ 128 → indexed_by counts (instruction_of b f) ≡ place_indexed_by counts (place_of x)
  unfolding when◌then◌else◌ extended_of instruction_of indexed
  extended_128 e = rw (e, first) refl

  pub extended_129 : b ≡ 129 → indexed_by counts (instruction_of b f) ≡ is_writable (place_of x) && place_indexed_by counts (place_of x)
  unfolding when◌then◌else◌ extended_of instruction_of indexed
  extended_129 e = rw (e, first) refl

  pub extended_130 : b ≡ 130 → indexed_by counts (instruction_of b f) ≡ is_writable (place_of x) && place_indexed_by counts (place_of x)
  unfolding when◌then◌else◌ extended_of instruction_of indexed
  extended_130 e = rw (e, first) refl

  pub extended_131 : b ≡ 131 → indexed_by counts (instruction_of b f) ≡ ltb (x % 32) (get_or counts 3 0)
  unfolding when◌then◌else◌ extended_of instruction_of indexed
  extended_131 e = rw (e, first) refl

  pub extended_132 : b ≡ 132 → indexed_by counts (instruction_of b f) ≡ ltb y (get_or counts 3 0)
  unfolding when◌then◌else◌ extended_of instruction_of indexed
  extended_132 e = rw (e, second) refl

  pub extended_133 : b ≡ 133 → indexed_by counts (instruction_of b f) ≡ ltb (x % 32) (get_or counts 3 0)
  unfolding when◌then◌else◌ extended_of instruction_of indexed
  extended_133 e = rw (e, first) refl

  pub extended_134 : b ≡ 134 → indexed_by counts (instruction_of b f) ≡ ltb y (get_or counts 3 0)
  unfolding when◌then◌else◌ extended_of instruction_of indexed
  extended_134 e = rw (e, second) refl

-- at most 255 arguments
pub extra_small : (b x : ℕ) → extra_of b x ≤ x
unfolding extra_of
extra_small b x =
    if_either (λ k. k ≤ x) (eqb b 131) _ _ (omega arith)
    (if_either (λ k. k ≤ x) (eqb b 132) _ _ (omega arith)
    (if_either (λ k. k ≤ x) (eqb b 133) _ _ (omega arith) (if_either (λ k. k ≤ x) (eqb b 134) _ _ (omega arith) (omega arith))))

-- The group 2 has 128 to 134 and 144 to 175.
far_test : ℕ → Bool
far_test b = implies (eqb (group_of b) 2) (when ltb b 144 then leb 128 b && ltb b 135 else ltb b 176)

far_tested : (b : ℕ) → b < 256 → T (far_test b)
unfolding far_test when◌then◌else◌ place_of short_of constant_of extended_of jump_of send_of instruction_of length_of group group_of
far_tested b h = below_at 256 far_test tt b h

far_at : (b : ℕ) → b < 256 → group_of b ≡ 2 → T (when ltb b 144 then leb 128 b && ltb b 135 else ltb b 176)
unfolding far_test
far_at b h g =
    implied (eqb (group_of b) 2) (when ltb b 144 then leb 128 b && ltb b 135 else ltb b 176) (far_tested b h) (true→T (eq-eqb (group_of b) 2 g))

pub far_low : (b : ℕ) → b < 256 → group_of b ≡ 2 → b < 144 → (128 ≤ b) × (b < 135)
far_low b h g l =
    let x : T (leb 128 b && ltb b 135) = subst T (if_lt b 144 (leb 128 b && ltb b 135) (ltb b 176) l) (far_at b h g) in
    (leb→le 128 b (and_left (leb 128 b) (ltb b 135) x), ltb→lt b 135 (and_right (leb 128 b) (ltb b 135) x))

pub far_high : (b : ℕ) → b < 256 → group_of b ≡ 2 → 144 ≤ b → b < 176
far_high b h g l = ltb→lt b 176 (subst T (if_ge b 144 (leb 128 b && ltb b 135) (ltb b 176) l) (far_at b h g))

-- The long jumps
pub jump_long : (b : ℕ) (f : ℕ → ℕ) → 160 ≤ b → b < 168 → instruction_of b f ≡ Jump (b % 8 * 256 + f 1) 1024
unfolding jump_of
jump_long b f l h = is_jump b f (omega arith) (omega arith) ∙ (let k : 152 ≤ b = omega arith in search ranges)

jump_on_true : (b : ℕ) (f : ℕ → ℕ) → 168 ≤ b → b < 172 → instruction_of b f ≡ JumpOn true (b % 4 * 256 + f 1)
unfolding jump_of
jump_on_true b f l h =
    is_jump b f (omega arith) (omega arith) ∙ (let k : 152 ≤ b = omega arith in let m : 160 ≤ b = omega arith in search ranges)

jump_on_false : (b : ℕ) (f : ℕ → ℕ) → 172 ≤ b → b < 176 → instruction_of b f ≡ JumpOn false (b % 4 * 256 + f 1)
unfolding jump_of
jump_on_false b f l h =
    is_jump b f (omega arith) (omega arith)
    ∙ (let k : 152 ≤ b = omega arith in let m : 160 ≤ b = omega arith in let n : 168 ≤ b = omega arith in search ranges)

pub jump_on_long : (b : ℕ) (f : ℕ → ℕ) → 168 ≤ b → b < 176 → (c : Bool) × (instruction_of b f ≡ JumpOn c (b % 4 * 256 + f 1))
jump_on_long b f l h = go (dec_lt b 172)
  where
    go : Dec (b < 172) → (c : Bool) × (instruction_of b f ≡ JumpOn c (b % 4 * 256 + f 1))
    go (yes k) = (true, jump_on_true b f l k)
    go (no k) = (false, jump_on_false b f (omega arith) h)
