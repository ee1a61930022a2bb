-- Which instruction a byte begins and how long it is, where the byte's range is known. Callers do not open the definitions.
use Prim.Native.Nat.{ℕ, ◌+◌, ◌*◌, ◌/◌, ◌%◌, ◌<◌, ◌≤◌}
use mathlib.Core.Path.{◌≡◌, refl, ◌∙◌, ap}
use mathlib.Core.Bool.{true, false}
use native.Mathlib.Omega.{arith}
use native.Mathlib.Decide.{ℕ_discrete, dec_lt}
use lib.Dec.{ltb, eqb}
use borrow.Author.Tests.{ltb-true, ltb-false, eqb-true}
use Rattle.bytecode.specs.Test.{when◌then◌else◌}
use Rattle.bytecode.specs.Code.{place_of, short_of, constant_of, extended_of, jump_of, send_of, instruction_of, length_of}
use Rattle.bytecode.specs.declared.Place.TheVariants.{Field, Temporary, Literal, LiteralVariable}
use Rattle.bytecode.specs.declared.Instruction.TheVariants.{Push, Store, PopStore, Jump, JumpOn, Send, SuperSend, Unused}
use Rattle.bytecode.proofs.Choice.{ranges, if_alike}

pub constant_unused : (b : ℕ) → 125 ≤ b → constant_of b ≡ Unused
unfolding constant_of
constant_unused b h =
    let h₁ : (b ≡ 112 → ⊥) = λ e. omega arith in
    let h₂ : 120 ≤ b = omega arith in
    let h₃ : (b ≡ 120 → ⊥) = λ e. omega arith in
    let h₄ : 124 ≤ b = omega arith in
    let h₅ : (b ≡ 124 → ⊥) = λ e. omega arith in
    search ranges

pub extended_unused : (b : ℕ) (following : ℕ → ℕ) → 137 ≤ b → extended_of b following ≡ Unused
unfolding extended_of
extended_unused b following h =
    let h₁ : (b ≡ 128 → ⊥) = λ e. omega arith in
    let h₂ : (b ≡ 129 → ⊥) = λ e. omega arith in
    let h₃ : (b ≡ 130 → ⊥) = λ e. omega arith in
    let h₄ : (b ≡ 131 → ⊥) = λ e. omega arith in
    let h₅ : (b ≡ 132 → ⊥) = λ e. omega arith in
    let h₆ : (b ≡ 133 → ⊥) = λ e. omega arith in
    let h₇ : (b ≡ 134 → ⊥) = λ e. omega arith in
    let h₈ : (b ≡ 135 → ⊥) = λ e. omega arith in
    let h₉ : (b ≡ 136 → ⊥) = λ e. omega arith in
    search ranges

-- The length of 128 to 134
length_132 : length_of 132 ≡ 3
unfolding length_of when◌then◌else◌
length_132 = refl

length_133 : length_of 133 ≡ 2
unfolding length_of when◌then◌else◌
length_133 = refl

length_134 : length_of 134 ≡ 3
unfolding length_of when◌then◌else◌
length_134 = refl

module _ (b : ℕ) where
  pub length_extended : 128 ≤ b → b < 134 → (b ≡ 132 → ⊥) → length_of b ≡ 2
  unfolding length_of
  length_extended l h n = by (dec_lt b 132)
    where
      by : Dec (b < 132) → length_of b ≡ 2
      by (yes k) = search ranges
      by (no k) = let e : b ≡ 133 = omega arith in ap length_of e ∙ length_133

  pub length_double : 132 ≤ b → b < 135 → (b ≡ 133 → ⊥) → length_of b ≡ 3
  length_double l h n = by (ℕ_discrete b 132)
    where
      by : Dec (b ≡ 132) → length_of b ≡ 3
      by (yes e) = ap length_of e ∙ length_132
      by (no k) = let e : b ≡ 134 = omega arith in ap length_of e ∙ length_134

  pub length_further : 128 ≤ b → b < 135 → 2 ≤ length_of b
  length_further l h = by (dec_lt b 132) (ℕ_discrete b 133)
    where
      by : Dec (b < 132) → Dec (b ≡ 133) → 2 ≤ length_of b
      by (yes k) e = omega (arith, length_extended l (omega arith) (λ q. omega arith))
      by (no k) (yes e) = omega (arith, length_extended l (omega arith) (λ q. omega arith))
      by (no k) (no e) = omega (arith, length_double (omega arith) h e)

-- The length of bytes that are none of these
pub length_low : (b : ℕ) → b < 128 → length_of b ≡ 1
unfolding length_of
length_low b h = search ranges

module _ (b : ℕ) (h : 135 ≤ b) where
  past_128 : 128 ≤ b
  past_128 = omega arith

  past_132 : 132 ≤ b
  past_132 = omega arith

  not_132 : b ≡ 132 → ⊥
  not_132 e = omega arith

  not_133 : b ≡ 133 → ⊥
  not_133 e = omega arith

  not_134 : b ≡ 134 → ⊥
  not_134 e = omega arith

  pub length_middle : b < 160 → length_of b ≡ 1
  unfolding length_of
  length_middle l = search (ranges, past_128, past_132, not_132, not_133, not_134)

  pub length_jump : 160 ≤ b → b < 176 → length_of b ≡ 2
  unfolding length_of
  length_jump k l = search (ranges, past_128, past_132, not_132, not_133, not_134)

  pub length_send : 176 ≤ b → length_of b ≡ 1
  unfolding length_of
  length_send k = let l : 160 ≤ b = omega arith in search (ranges, past_128, past_132, not_132, not_133, not_134)

-- The instruction of a byte in each range
module _ (b : ℕ) (following : ℕ → ℕ) where
  pub push_field : b < 16 → instruction_of b following ≡ Push (Field (b % 16))
  unfolding instruction_of short_of
  push_field h = let k : b < 112 = omega arith in search ranges

  pub push_temporary : 16 ≤ b → b < 32 → instruction_of b following ≡ Push (Temporary (b % 16))
  unfolding instruction_of short_of
  push_temporary l h = let k : b < 112 = omega arith in search ranges

  pub push_literal : 32 ≤ b → b < 64 → instruction_of b following ≡ Push (Literal (b % 32))
  unfolding instruction_of short_of
  push_literal l h = let k : b < 112 = omega arith in let m : 16 ≤ b = omega arith in search ranges

  pub push_variable : 64 ≤ b → b < 96 → instruction_of b following ≡ Push (LiteralVariable (b % 32))
  unfolding instruction_of short_of
  push_variable l h =
      let k : b < 112 = omega arith in let m : 16 ≤ b = omega arith in let n : 32 ≤ b = omega arith in search ranges

  pub pop_field : 96 ≤ b → b < 104 → instruction_of b following ≡ PopStore (Field (b % 8))
  unfolding instruction_of short_of
  pop_field l h =
      let k : b < 112 = omega arith in let m : 16 ≤ b = omega arith in let n : 32 ≤ b = omega arith in let o : 64 ≤ b = omega arith in search ranges

  pub pop_temporary : 104 ≤ b → b < 112 → instruction_of b following ≡ PopStore (Temporary (b % 8))
  unfolding instruction_of short_of
  pop_temporary l h =
      let m : 16 ≤ b = omega arith in
      let n : 32 ≤ b = omega arith in
      let o : 64 ≤ b = omega arith in
      let p : 96 ≤ b = omega arith in
      search ranges

  pub is_short : b < 112 → instruction_of b following ≡ short_of b
  unfolding instruction_of
  is_short h = search ranges

  pub is_constant : 112 ≤ b → b < 128 → instruction_of b following ≡ constant_of b
  unfolding instruction_of
  is_constant l h = search ranges

  pub is_extended : 128 ≤ b → b < 144 → instruction_of b following ≡ extended_of b following
  unfolding instruction_of
  is_extended l h = let k : 112 ≤ b = omega arith in search ranges

  pub is_jump : 144 ≤ b → b < 176 → instruction_of b following ≡ jump_of b (following 1)
  unfolding instruction_of
  is_jump l h = let k : 112 ≤ b = omega arith in let m : 128 ≤ b = omega arith in search ranges

  pub is_send : 176 ≤ b → instruction_of b following ≡ send_of b
  unfolding instruction_of
  is_send l =
      let k : 112 ≤ b = omega arith in let m : 128 ≤ b = omega arith in let n : 144 ≤ b = omega arith in search ranges

  pub jump_short : 144 ≤ b → b < 152 → instruction_of b following ≡ Jump (b % 8 + 1) 0
  unfolding jump_of
  jump_short l h = is_jump l (omega arith) ∙ search ranges

  pub jump_on_short : 152 ≤ b → b < 160 → instruction_of b following ≡ JumpOn false (b % 8 + 1)
  unfolding jump_of
  jump_on_short l h = is_jump (omega arith) (omega arith) ∙ search ranges

-- An instruction has no more bytes than its length says: those that follow are alike, and so are the instructions.
module _ (b : ℕ) (f g : ℕ → ℕ) (alike : (k : ℕ) → 1 ≤ k → k < length_of b → f k ≡ g k) where
  -- byte k behind b, where b is c
  there : (c k : ℕ) → eqb b c ≡ true → 1 ≤ k → k < length_of c → f k ≡ g k
  there c k e l h = alike k l (rw (eqb-true b c e) h)

  same_extended : extended_of b f ≡ extended_of b g
  unfolding extended_of length_of when◌then◌else◌
  same_extended =
      if_alike (eqb b 128) (λ e. ap (λ x. Push (place_of x)) (there 128 1 e (omega arith) (omega arith)))
      (λ e. if_alike (eqb b 129) (λ e. ap (λ x. Store (place_of x)) (there 129 1 e (omega arith) (omega arith)))
      (λ e. if_alike (eqb b 130) (λ e. ap (λ x. PopStore (place_of x)) (there 130 1 e (omega arith) (omega arith)))
      (λ e. if_alike (eqb b 131) (λ e. ap (λ x. Send (x % 32) (x / 32)) (there 131 1 e (omega arith) (omega arith)))
      (λ e. if_alike (eqb b 132) (λ e i. Send (there 132 2 e (omega arith) (omega arith) i) (there 132 1 e (omega arith) (omega arith) i))
      (λ e. if_alike (eqb b 133) (λ e. ap (λ x. SuperSend (x % 32) (x / 32)) (there 133 1 e (omega arith) (omega arith)))
      (λ e. if_alike (eqb b 134) (λ e i. SuperSend (there 134 2 e (omega arith) (omega arith) i) (there 134 1 e (omega arith) (omega arith) i))
      (λ e. refl)))))))

  same_jump : 144 ≤ b → b < 176 → jump_of b (f 1) ≡ jump_of b (g 1)
  unfolding jump_of
  same_jump l h =
      if_alike (ltb b 152) (λ e. refl)
      (λ e. if_alike (ltb b 160) (λ e. refl)
      (λ e. ap (λ x. when ltb b 168 then Jump (b % 8 * 256 + x) 1024 else when ltb b 172 then JumpOn true (b % 4 * 256 + x) else JumpOn false (b % 4 * 256 + x))
      (alike 1 (omega arith) (let k = ltb-false b 160 e in omega (arith, length_jump b (omega arith) k h)))))

  pub same_bytes : instruction_of b f ≡ instruction_of b g
  unfolding instruction_of
  same_bytes =
      if_alike (ltb b 112) (λ e. refl)
      (λ e. if_alike (ltb b 128) (λ e. refl)
      (λ e. if_alike (ltb b 144) (λ e. same_extended)
      (λ l. if_alike (ltb b 176) (λ h. same_jump (ltb-false b 144 l) (ltb-true b 176 h))
      (λ e. refl))))
