-- A whole line is its parts, stored one behind the other.
use Prim.Native.Nat.{ℕ, ◌^◌, ◌≤◌, ◌<◌}
use mathlib.Core.Path.{◌≡◌}
use mathlib.Core.List.{List, ◌++◌}
use native.Mathlib.Omega.{arith}
use lib.ListN.{length, drop}
use Rattle.plain.specs.Program.{line, refusal}
use Rattle.plain.specs.Text.{decimal, phase_text, count_text, value_text, refused_text, newline, line_bytes}
use Rattle.lines.proofs.Digits.{word_digits, count_digits}
use Rattle.lines.proofs.Puts.{Put, and_then, at_front}

pub run_put : (o₀ o₁ o₂ o₃ o₄ o₅ o₆ o₇ : List ℕ) (p n v : ℕ) (a b c d e f g : ℕ) → 64 ≤ length o₀ → p < 2 ^ 16 → n < 2 ^ 32 → v < 2 ^ 16
    → Put o₀ 0 phase_text a o₁ → Put o₁ a (decimal p) b o₂ → Put o₂ b count_text c o₃ → Put o₃ c (decimal n) d o₄
    → Put o₄ d value_text e o₅ → Put o₅ e (decimal v) f o₆ → Put o₆ f newline g o₇
    → (g ≡ length (line_bytes (line p n v))) × (o₇ ≡ line_bytes (line p n v) ++ drop g o₀)
unfolding line_bytes
run_put o₀ o₁ o₂ o₃ o₄ o₅ o₆ o₇ p n v a b c d e f g room hp hn hv pa pb pc pd pe pf pg =
    let s₆ : List ℕ = decimal v ++ newline in
    let s₅ : List ℕ = value_text ++ s₆ in
    let s₄ : List ℕ = decimal n ++ s₅ in
    let s₃ : List ℕ = count_text ++ s₄ in
    let s₂ : List ℕ = decimal p ++ s₃ in
    let all : Put o₀ 0 (line_bytes (line p n v)) g o₇ =
    and_then o₀ o₁ o₇ phase_text s₂ 0 a g pa
    (and_then o₁ o₂ o₇ (decimal p) s₃ a b g pb
    (and_then o₂ o₃ o₇ count_text s₄ b c g pc
    (and_then o₃ o₄ o₇ (decimal n) s₅ c d g pd
    (and_then o₄ o₅ o₇ value_text s₆ d e g pe
    (and_then o₅ o₆ o₇ (decimal v) newline e f g pf pg))))) in
    let lp = word_digits p hp in let ln = count_digits n hn in let lv = word_digits v hv in
    let ea = pa.0 in let eb = pb.0 in let ec = pc.0 in let ed = pd.0 in let ee = pe.0 in let ef = pf.0 in let eg = pg.0 in let eall = all.0 in
    at_front o₀ o₇ (line_bytes (line p n v)) g (omega arith) all

pub refusal_put : (o₀ o₁ o₂ o₃ : List ℕ) (n : ℕ) (a b c : ℕ) → 64 ≤ length o₀ → n < 2 ^ 32
    → Put o₀ 0 refused_text a o₁ → Put o₁ a (decimal n) b o₂ → Put o₂ b newline c o₃
    → (c ≡ length (line_bytes (refusal n))) × (o₃ ≡ line_bytes (refusal n) ++ drop c o₀)
unfolding line_bytes
refusal_put o₀ o₁ o₂ o₃ n a b c room hn pa pb pc =
    let all : Put o₀ 0 (line_bytes (refusal n)) c o₃ = and_then o₀ o₁ o₃ refused_text (decimal n ++ newline) 0 a c pa (and_then o₁ o₂ o₃ (decimal n) newline a b c pb pc) in
    let ln = count_digits n hn in
    let ea = pa.0 in let eb = pb.0 in let ec = pc.0 in let eall = all.0 in
    at_front o₀ o₃ (line_bytes (refusal n)) c (omega arith) all
