-- What holds of the instruction at the position of a right frame on top.
use Prim.Native.Nat.{ℕ, suc, ◌%◌, ◌≤◌, ◌<◌}
use mathlib.Core.Path.{◌≡◌}
use mathlib.Core.Bool.{Bool, true}
use mathlib.Core.List.{List, Memᴰ}
use native.Mathlib.Omega.{arith}
use borrow.Author.Tests.{ltb-true, ltb-false, eqb-false}
use lib.Dec.{T, leb, ltb, eqb, leb→le, lt→ltb}
use Rattle.bytecode.specs.Test.{implies}
use Rattle.bytecode.specs.Constant.{constant_word}
use Rattle.bytecode.specs.Code.{byte_at, bytes_after, short_of, constant_of, extended_of, jump_of, send_of, instruction_of, next_at, decode_at}
use Rattle.bytecode.specs.Effect.{need, depth_after, usable, successors}
use Rattle.bytecode.specs.declared.Instruction.{Instruction}
use Rattle.bytecode.specs.declared.Instruction.TheVariants.{Push, Store, PopStore, PushSelf, PushConstant, ReturnSelf, ReturnConstant, ReturnTop, Pop, Duplicate, Jump, JumpOn, Send, SuperSend, SpecialSend, Unused}
use Rattle.bytecode.proofs.Choice.{if_cases}
use Rattle.bytecode.proofs.TestLaws.{below_at, implied, rule}
use Rattle.model.specs.Word.{is_pointer, is_valid}
use Rattle.model.specs.Objects.{Objects}
use Rattle.model.specs.Method.{code_words, code_size, temporary_count, frame_words}
use Rattle.model.specs.Depth.{note_at, rulesAt, successorsAt, depthAfterAt}
use Rattle.model.specs.Rules.{allowed, method_table}
use Rattle.plain.specs.State.{Frame}
use Rattle.plain.proofs.FrameLaws.{FrameRight, frame_spot}

-- a constant is valid in every image: objects 1 to 3 are there
abbrev constant_fine : Instruction → Bool
constant_fine (Push p) = true
constant_fine (Store p) = true
constant_fine (PopStore p) = true
constant_fine PushSelf = true
constant_fine (PushConstant w) = is_valid 3 w
constant_fine ReturnSelf = true
constant_fine (ReturnConstant w) = is_valid 3 w
constant_fine ReturnTop = true
constant_fine Pop = true
constant_fine Duplicate = true
constant_fine (Jump a b) = true
constant_fine (JumpOn x a) = true
constant_fine (Send l n) = true
constant_fine (SuperSend l n) = true
constant_fine (SpecialSend k) = true
constant_fine Unused = true

constant_valid : (k : ℕ) → 0 < k → k < 8 → T (is_valid 3 (constant_word k))
unfolding is_valid is_pointer
constant_valid k l h =
    implied (ltb 0 k) (is_valid 3 (constant_word k)) (below_at 8 (λ i. implies (ltb 0 i) (is_valid 3 (constant_word i))) tt k h) (lt→ltb 0 k l)

abbrev Fine : Instruction → Type 0
Fine i = T (constant_fine i)

decoded_fine : (b : ℕ) (f : ℕ → ℕ) → Fine (instruction_of b f)
unfolding instruction_of short_of constant_of extended_of jump_of send_of
decoded_fine b f =
    if_cases Fine (ltb b 112) _ _
    (λ e. if_cases Fine (ltb b 16) _ _ (λ p. tt) (λ p. if_cases Fine (ltb b 32) _ _ (λ p. tt) (λ p. if_cases Fine (ltb b 64) _ _ (λ p. tt)
    (λ p. if_cases Fine (ltb b 96) _ _ (λ p. tt) (λ p. if_cases Fine (ltb b 104) _ _ (λ p. tt) (λ p. tt))))))
    (λ e. let least = ltb-false b 112 e in if_cases Fine (ltb b 128) _ _
    (λ p. if_cases Fine (eqb b 112) _ _ (λ q. tt)
    (λ q. if_cases Fine (ltb b 120) _ _
    (λ r. let n = eqb-false b 112 q in let m = ltb-true b 120 r in constant_valid (b % 8) (omega arith) (omega arith))
    (λ r. if_cases Fine (eqb b 120) _ _ (λ s. tt)
    (λ s. if_cases Fine (ltb b 124) _ _
    (λ u. let n = eqb-false b 120 s in let m = ltb-false b 120 r in let k = ltb-true b 124 u in constant_valid (b % 4) (omega arith) (omega arith))
    (λ u. if_cases Fine (eqb b 124) _ _ (λ v. tt) (λ v. tt))))))
    (λ p. if_cases Fine (ltb b 144) _ _
    (λ q. if_cases Fine (eqb b 128) _ _ (λ r. tt) (λ r. if_cases Fine (eqb b 129) _ _ (λ r. tt) (λ r. if_cases Fine (eqb b 130) _ _ (λ r. tt)
    (λ r. if_cases Fine (eqb b 131) _ _ (λ r. tt) (λ r. if_cases Fine (eqb b 132) _ _ (λ r. tt) (λ r. if_cases Fine (eqb b 133) _ _ (λ r. tt)
    (λ r. if_cases Fine (eqb b 134) _ _ (λ r. tt) (λ r. if_cases Fine (eqb b 135) _ _ (λ r. tt) (λ r. if_cases Fine (eqb b 136) _ _ (λ r. tt) (λ r. tt))))))))))
    (λ q. if_cases Fine (ltb b 176) _ _
    (λ r. if_cases Fine (ltb b 152) _ _ (λ u. tt) (λ u. if_cases Fine (ltb b 160) _ _ (λ u. tt) (λ u. if_cases Fine (ltb b 168) _ _ (λ u. tt)
    (λ u. if_cases Fine (ltb b 172) _ _ (λ u. tt) (λ u. tt)))))
    (λ r. if_cases Fine (ltb b 208) _ _ (λ u. tt) (λ u. tt)))))

decode_fine : (words : List ℕ) (size p : ℕ) → Fine (decode_at words size p)
unfolding decode_at
decode_fine words size p =
    if_cases Fine (ltb p size) _ _
    (λ e. if_cases Fine (leb (next_at words p) size) _ _ (λ q. decoded_fine (byte_at words p) (bytes_after words p)) (λ q. tt))
    (λ e. tt)

-- The instruction i of the top frame f, the next one at `position`
pub record Now (e : ℕ) (o : Objects) (f : Frame) (position : ℕ) (i : Instruction) : Type 0 where
  pub usable : T (usable position i)
  pub allowed : T (allowed e o f.method i)
  pub needs : need i ≤ f.depth
  pub constant : T (constant_fine i)
  pub goes : (q : ℕ) → Memᴰ q (successors position i) → note_at (method_table e o f.method) q ≡ suc (depth_after i f.depth)

pub now : {e : ℕ} (o : Objects) (f : Frame) → FrameRight e o true f
    → Now e o f (next_at (code_words o f.method) f.position) (decode_at (code_words o f.method) (code_size o f.method) f.position)
unfolding rulesAt successorsAt depthAfterAt
now {e = e} o f r =
    let s = frame_spot o true f r in
    let t = rule (rulesAt (code_words o f.method) (code_size o f.method) (temporary_count o f.method) (frame_words o f.method)
    (Rattle.model.specs.Rules.allowed e o f.method) f.position f.depth) s.kept in
    record {
      usable = t 0;
      allowed = t 1;
      needs = leb→le (need (decode_at (code_words o f.method) (code_size o f.method) f.position)) f.depth (t 2);
      constant = decode_fine (code_words o f.method) (code_size o f.method) f.position;
      goes = s.along;
    }
