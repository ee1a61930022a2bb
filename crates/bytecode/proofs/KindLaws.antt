-- The kinds of first bytes, and the instruction at a position by the kind of its byte.
use Prim.Native.Nat.{ℕ, suc, ◌+◌, ◌-◌, ◌*◌, ◌/◌, ◌%◌, ◌≤◌, ◌<◌}
use mathlib.Core.Path.{◌≡◌, refl, sym, ap, ◌∙◌}
use mathlib.Core.Bool.{Bool, true, false, ◌&&◌}
use mathlib.Core.List.{List}
use native.Mathlib.Omega.{arith}
use borrow.Author.Tests.{ltb-true, leb-true}
use lib.Dec.{ltb, leb, T}
use lib.ListN.{length}
use Rattle.bytecode.specs.Code.{byte_at, bytes_after, jump_of, send_of, instruction_of, length_of, next_at}
use Rattle.bytecode.specs.Kinds.{first, behind, OfKind}
use Rattle.bytecode.specs.declared.kinds.Kind.{Kind}
use Rattle.bytecode.specs.declared.kinds.Kind.TheVariants.{SendTwo}
use Rattle.bytecode.specs.declared.kinds.Kind.TheVariants as Is
use Rattle.bytecode.specs.declared.Place.TheVariants.{Field, Temporary, Literal, LiteralVariable}
use Rattle.bytecode.specs.declared.Instruction.{Instruction}
use Rattle.bytecode.specs.declared.Instruction.TheVariants.{Push, PopStore, Jump, JumpOn, Send, SpecialSend, Unused}
use Rattle.bytecode.specs.declared.Decoded.{Decoded}
use Rattle.bytecode.proofs.Choice.{ranges}
use Rattle.bytecode.proofs.TestLaws.{T→true, and_left, and_right}
use Rattle.bytecode.proofs.CodeLaws.{constant_unused, extended_unused, length_low, length_middle, length_jump, length_send, push_field, push_temporary, push_literal, push_variable, pop_field, pop_temporary, is_constant, is_extended, is_jump, is_send, jump_short, jump_on_short}
use Rattle.bytecode.proofs.DecodeLaws.{next_range, next_here}

-- the bytes of kind k are from l on and below h
abbrev pub inside : Kind → ℕ → ℕ → Bool
inside k l h = leb l (first k) && leb (behind k) h

pub between : {b : ℕ} {κ k : Kind} (l h : ℕ) → OfKind b κ → κ ≡ k → T (inside k l h) → (l ≤ b) × (b < h)
between {b} {κ} {k} l h of e t =
    let from : first k ≤ b = rw (sym e) of.from in
    let below : b < behind k = rw (sym e) of.below in
    let low = leb-true l (first k) (T→true _ (and_left (leb l (first k)) (leb (behind k) h) t)) in
    let high = leb-true (behind k) h (T→true _ (and_right (leb l (first k)) (leb (behind k) h) t)) in
    omega arith

-- a byte that the test puts into kind k
pub lies : {b n : ℕ} {k : Kind} → b ≡ n → T (leb (first k) n && ltb n (behind k)) → OfKind b k
lies {b} {n} {k} e t =
    let l = leb-true (first k) n (T→true _ (and_left (leb (first k) n) (ltb n (behind k)) t)) in
    let h = ltb-true n (behind k) (T→true _ (and_right (leb (first k) n) (ltb n (behind k)) t)) in
    record { from = rw e l; below = rw e h }

-- the last arm of a `match` on the bytes below 255
pub lies_last : {b : ℕ} → 255 ≤ b → b < 256 → OfKind b SendTwo
unfolding first behind
lies_last l h = record { from = omega arith; below = omega arith }

-- no kind is above the last
pub last_kind_lem : {b : ℕ} {k : Kind} → OfKind b k → first SendTwo ≤ first k → b < 256 → k ≡ SendTwo
last_kind_lem {b} {k} of h small = last k h
  where
    last : (k : Kind) → first SendTwo ≤ first k → k ≡ SendTwo
    last Is.PushField h = absurd (omega arith)
    last Is.PushTemporary h = absurd (omega arith)
    last Is.PushLiteral h = absurd (omega arith)
    last Is.PushLiteralVariable h = absurd (omega arith)
    last Is.PopField h = absurd (omega arith)
    last Is.PopTemporary h = absurd (omega arith)
    last Is.PushSelf h = absurd (omega arith)
    last Is.PushTrue h = absurd (omega arith)
    last Is.PushFalse h = absurd (omega arith)
    last Is.PushNil h = absurd (omega arith)
    last Is.PushMinusOne h = absurd (omega arith)
    last Is.PushZero h = absurd (omega arith)
    last Is.PushOne h = absurd (omega arith)
    last Is.PushTwo h = absurd (omega arith)
    last Is.ReturnSelf h = absurd (omega arith)
    last Is.ReturnTrue h = absurd (omega arith)
    last Is.ReturnFalse h = absurd (omega arith)
    last Is.ReturnNil h = absurd (omega arith)
    last Is.ReturnTop h = absurd (omega arith)
    last Is.UnusedShort h = absurd (omega arith)
    last Is.ExtendedPush h = absurd (omega arith)
    last Is.ExtendedStore h = absurd (omega arith)
    last Is.ExtendedPop h = absurd (omega arith)
    last Is.ExtendedSend h = absurd (omega arith)
    last Is.LongSend h = absurd (omega arith)
    last Is.ExtendedSuper h = absurd (omega arith)
    last Is.LongSuper h = absurd (omega arith)
    last Is.Pop h = absurd (omega arith)
    last Is.Duplicate h = absurd (omega arith)
    last Is.UnusedLong h = absurd (omega arith)
    last Is.ShortJump h = absurd (omega arith)
    last Is.ShortJumpOn h = absurd (omega arith)
    last Is.Jump h = absurd (omega arith)
    last Is.JumpOnTrue h = absurd (omega arith)
    last Is.JumpOnFalse h = absurd (omega arith)
    last Is.Special0 h = absurd (omega arith)
    last Is.Special1 h = absurd (omega arith)
    last Is.Special2 h = absurd (omega arith)
    last Is.Special3 h = absurd (omega arith)
    last Is.Special4 h = absurd (omega arith)
    last Is.Special5 h = absurd (omega arith)
    last Is.Special6 h = absurd (omega arith)
    last Is.Special7 h = absurd (omega arith)
    last Is.Special8 h = absurd (omega arith)
    last Is.Special9 h = absurd (omega arith)
    last Is.Special10 h = absurd (omega arith)
    last Is.Special11 h = absurd (omega arith)
    last Is.Special12 h = absurd (omega arith)
    last Is.Special13 h = absurd (omega arith)
    last Is.Special14 h = absurd (omega arith)
    last Is.Special15 h = absurd (omega arith)
    last Is.Special16 h = absurd (omega arith)
    last Is.Special17 h = absurd (omega arith)
    last Is.Special18 h = absurd (omega arith)
    last Is.Special19 h = absurd (omega arith)
    last Is.Special20 h = absurd (omega arith)
    last Is.Special21 h = absurd (omega arith)
    last Is.Special22 h = absurd (omega arith)
    last Is.Special23 h = absurd (omega arith)
    last Is.Special24 h = absurd (omega arith)
    last Is.Special25 h = absurd (omega arith)
    last Is.Special26 h = absurd (omega arith)
    last Is.Special27 h = absurd (omega arith)
    last Is.Special28 h = absurd (omega arith)
    last Is.Special29 h = absurd (omega arith)
    last Is.Special30 h = absurd (omega arith)
    last Is.Special31 h = absurd (omega arith)
    last Is.SendNone h = absurd (omega arith)
    last Is.SendOne h = absurd (omega arith)
    last Is.SendTwo h = refl

-- What `instruction_at` promises
abbrev pub IsAt : List ℕ → ℕ → Decoded → Type 0
IsAt words p r = (r.instruction ≡ instruction_of (byte_at words p) (bytes_after words p)) × (r.next ≡ next_at words p)

-- What an arm builds: the instruction, and the position n bytes on
abbrev pub Builds : Instruction → ℕ → ℕ → Decoded → Type 0
Builds i p n r = r ≡ record { instruction = i; next = p + n }

-- The kind has one byte.
abbrev pub single : Kind → Bool
single k = inside k (first k) (suc (first k))

pub first_there : (words : List ℕ) (p : ℕ) → next_at words p ≤ 2 * length words → p / 2 < length words
first_there words p w = omega (arith, next_range words p)

-- b is the byte at p, of kind κ, which the arm knows as k.
module _ (words : List ℕ) (p : ℕ) {b : ℕ} {κ k : Kind} (here : b ≡ byte_at words p) (of : OfKind b κ) (key : κ ≡ k) where
  one_byte : T (single k) → b ≡ first k
  one_byte t = let h = between (first k) (suc (first k)) of key t in omega arith

  -- further bytes stand in the words, where the whole instruction does
  further : (j : ℕ) → j < length_of b → next_at words p ≤ 2 * length words → (p + j) / 2 < length words
  further j l w = omega (arith, next_here words p here)

  pub further_extended : (j : ℕ) → T (single k) → T (ltb j (length_of (first k))) → next_at words p ≤ 2 * length words → (p + j) / 2 < length words
  further_extended j t l = let q = ap length_of (one_byte t) in further j (rw q (ltb-true j _ (T→true _ l)))

  pub further_jump : T (inside k 160 176) → next_at words p ≤ 2 * length words → (p + 1) / 2 < length words
  further_jump t w = let h = between 160 176 of key t in further 1 (omega (arith, length_jump b (omega arith) h.0 h.1)) w

module _ (words : List ℕ) (p : ℕ) {b : ℕ} {κ k : Kind} {r : Decoded} (here : b ≡ byte_at words p) (of : OfKind b κ) (key : κ ≡ k) where
  is : {i : Instruction} (n : ℕ) → instruction_of b (bytes_after words p) ≡ i → length_of b ≡ n → Builds i p n r → IsAt words p r
  is n e l d =
      let read = ap (λ x. x.instruction) d ∙ sym e ∙ ap (λ x. instruction_of x (bytes_after words p)) here in
      (read, ap (λ x. x.next) d ∙ ap (λ x. p + x) (sym l) ∙ sym (next_here words p here))

  -- instruction and length are computed at the kind's only byte
  pub is_single : {i : Instruction} → T (single k) → instruction_of (first k) (bytes_after words p) ≡ i → Builds i p (length_of (first k)) r → IsAt words p r
  is_single t e = let q = one_byte words p here of key t in is _ (ap (λ x. instruction_of x (bytes_after words p)) q ∙ e) (ap length_of q)

  pub is_push_field : T (inside k 0 16) → Builds (Push (Field (b % 16))) p 1 r → IsAt words p r
  is_push_field t = let h = between 0 16 of key t in is 1 (push_field b _ h.1) (length_low b (omega arith))

  pub is_push_temporary : T (inside k 16 32) → Builds (Push (Temporary (b % 16))) p 1 r → IsAt words p r
  is_push_temporary t = let h = between 16 32 of key t in is 1 (push_temporary b _ h.0 h.1) (length_low b (omega arith))

  pub is_push_literal : T (inside k 32 64) → Builds (Push (Literal (b % 32))) p 1 r → IsAt words p r
  is_push_literal t = let h = between 32 64 of key t in is 1 (push_literal b _ h.0 h.1) (length_low b (omega arith))

  pub is_push_variable : T (inside k 64 96) → Builds (Push (LiteralVariable (b % 32))) p 1 r → IsAt words p r
  is_push_variable t = let h = between 64 96 of key t in is 1 (push_variable b _ h.0 h.1) (length_low b (omega arith))

  pub is_pop_field : T (inside k 96 104) → Builds (PopStore (Field (b % 8))) p 1 r → IsAt words p r
  is_pop_field t = let h = between 96 104 of key t in is 1 (pop_field b _ h.0 h.1) (length_low b (omega arith))

  pub is_pop_temporary : T (inside k 104 112) → Builds (PopStore (Temporary (b % 8))) p 1 r → IsAt words p r
  is_pop_temporary t = let h = between 104 112 of key t in is 1 (pop_temporary b _ h.0 h.1) (length_low b (omega arith))

  pub is_unused_low : T (inside k 125 128) → Builds Unused p 1 r → IsAt words p r
  is_unused_low t =
      let h = between 125 128 of key t in is 1 (is_constant b _ (omega arith) h.1 ∙ constant_unused b h.0) (length_low b h.1)

  pub is_unused_high : T (inside k 137 144) → Builds Unused p 1 r → IsAt words p r
  is_unused_high t =
      let h = between 137 144 of key t in
      is 1 (is_extended b _ (omega arith) h.1 ∙ extended_unused b _ h.0) (length_middle b (omega arith) (omega arith))

  pub is_near : T (inside k 144 152) → Builds (Jump (b % 8 + 1) 0) p 1 r → IsAt words p r
  is_near t =
      let h = between 144 152 of key t in is 1 (jump_short b _ h.0 h.1) (length_middle b (omega arith) (omega arith))

  pub is_near_on : T (inside k 152 160) → Builds (JumpOn false (b % 8 + 1)) p 1 r → IsAt words p r
  is_near_on t =
      let h = between 152 160 of key t in is 1 (jump_on_short b _ h.0 h.1) (length_middle b (omega arith) h.1)

  -- a jump with a further byte x
  is_far : {i : Instruction} {x : ℕ} → 160 ≤ b → b < 176 → x ≡ byte_at words (p + 1) → jump_of b x ≡ i → Builds i p 2 r → IsAt words p r
  is_far l h d e = is 2 (is_jump b _ (omega arith) h ∙ ap (jump_of b) (sym d) ∙ e) (length_jump b (omega arith) l h)

  pub is_far_jump : {x : ℕ} → T (inside k 160 168) → x ≡ byte_at words (p + 1) → Builds (Jump (b % 8 * 256 + x) 1024) p 2 r → IsAt words p r
  unfolding jump_of
  is_far_jump t d =
      let h = between 160 168 of key t in
      let l : 160 ≤ b = h.0 in
      let m : b < 168 = h.1 in
      let n : 152 ≤ b = omega arith in
      is_far l (omega arith) d (search ranges)

  pub is_far_on_true : {x : ℕ} → T (inside k 168 172) → x ≡ byte_at words (p + 1) → Builds (JumpOn true (b % 4 * 256 + x)) p 2 r → IsAt words p r
  unfolding jump_of
  is_far_on_true t d =
      let h = between 168 172 of key t in
      let l : 168 ≤ b = h.0 in
      let m : b < 172 = h.1 in
      let n : 152 ≤ b = omega arith in
      let o : 160 ≤ b = omega arith in
      is_far o (omega arith) d (search ranges)

  pub is_far_on_false : {x : ℕ} → T (inside k 172 176) → x ≡ byte_at words (p + 1) → Builds (JumpOn false (b % 4 * 256 + x)) p 2 r → IsAt words p r
  unfolding jump_of
  is_far_on_false t d =
      let h = between 172 176 of key t in
      let l : 172 ≤ b = h.0 in
      let n : 152 ≤ b = omega arith in
      let o : 160 ≤ b = omega arith in
      let q : 168 ≤ b = omega arith in
      is_far o h.1 d (search ranges)

  -- special send n is byte 176 + n
  pub is_special : {n : ℕ} → T (inside k (176 + n) (177 + n)) → T (ltb n 32) → Builds (SpecialSend n) p 1 r → IsAt words p r
  unfolding send_of
  is_special {n} t u =
      let h = between (176 + n) (177 + n) of key t in
      let m = ltb-true n 32 (T→true _ u) in
      let l : b < 208 = omega arith in
      let e : b - 176 ≡ n = omega arith in
      is 1 (is_send b _ (omega arith) ∙ search ranges ∙ ap SpecialSend e) (length_send b (omega arith) (omega arith))

  -- the sends of a literal with n arguments are from 208 + 16 * n on
  pub is_literal_send : {n : ℕ} → T (inside k (208 + 16 * n) (224 + 16 * n)) → Builds (Send (b % 16) n) p 1 r → IsAt words p r
  unfolding send_of
  is_literal_send {n} t =
      let h = between (208 + 16 * n) (224 + 16 * n) of key t in
      let l : 208 ≤ b = omega arith in
      let e : (b - 208) / 16 ≡ n = omega arith in
      is 1 (is_send b _ (omega arith) ∙ search ranges ∙ ap (Send (b % 16)) e) (length_send b (omega arith) (omega arith))
