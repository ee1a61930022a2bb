-- `selectors_fine` is `selectors_fine`: the list is a part of the lent words.
use Rattle.std.proofs.Common.{rules, tests}
use Prim.Native.Nat.{ℕ, ◌+◌, ◌-◌}
use mathlib.Core.Path.{◌≡◌, sym, ap, ap₂, ◌∙◌}
use native.Mathlib.Omega.{arith}
use Rattle.bytecode.specs.Test.{every}
use Rattle.model.specs.Objects.{objects_at, kind, size, body_words, part, is_nil_or}
use Rattle.model.proofs.Facts.{in_words}
use Rattle.readers.proofs.Bodies.{body_part}
use Rattle.rules.specs.Shape.{selectors_fine}
use Rattle.rules.proofs.ClassLaws.{selectors_words, nil_or_entries}
use Rattle.rules.proofs.class_rules.selectors_fine.Goals as goal

pub slice_bounds-nil_or_words-end : goal.slice_bounds-nil_or_words-end
slice_bounds-nil_or_words-end c =
    let a = c.args in
    let o = objects_at a.memory.now.n a.memory.now.b a.memory.now.contents.now a.memory.now.bodies.now in
    let p = c.requires in
    let k : kind o 5 ≡ 3 = search (tests, rules) in
    let z : size o 5 ≡ 32 = search (tests, rules) in
    let h = p.inside 5 (omega arith) (omega arith) in
    let w = in_words o 5 (λ e. omega arith) (λ e. omega arith) in
    let s = c.start-from.ensures in
    let l = p.words in
    omega arith

pub returns-then-size-eq-SPECIAL_SELECTORS : goal.returns-then-size-eq-SPECIAL_SELECTORS
returns-then-size-eq-SPECIAL_SELECTORS c =
    let a = c.args in
    let o = objects_at a.memory.now.n a.memory.now.b a.memory.now.contents.now a.memory.now.bodies.now in
    let p = c.requires in
    let k : kind o 5 ≡ 3 = search (tests, rules) in
    let z : size o 5 ≡ 32 = search (tests, rules) in
    let h = p.inside 5 (omega arith) (omega arith) in
    let w = in_words o 5 (λ e. omega arith) (λ e. omega arith) in
    let count : c.start-from.result + 32 - c.start-from.result ≡ body_words o 5 = omega arith in
    c.nil_or_words.ensures ∙ nil_or_entries a.memory.now.n a.memory.now.b a.memory.now.contents.now a.memory.now.bodies.now 1 (part a.memory.now.bodies.now c.start-from.result
    (c.start-from.result + 32 - c.start-from.result))
    ∙ ap (every (λ (x : ℕ). is_nil_or o 1 x)) (ap₂ (part a.memory.now.bodies.now) c.start-from.ensures count ∙ sym (body_part a.memory.now.n a.memory.now.b a.memory.now.contents.now a.memory.now.bodies.now 5 p.words h))
    ∙ selectors_words o k z

pub returns-else-size-eq-SPECIAL_SELECTORS : goal.returns-else-size-eq-SPECIAL_SELECTORS
unfolding selectors_fine
returns-else-size-eq-SPECIAL_SELECTORS c = search (tests, rules)
