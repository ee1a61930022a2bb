-- `object_words` is `words_fine`: by rule 4 the body lies inside the lent words.
use Prim.Native.Nat.{◌+◌, ◌-◌}
use mathlib.Core.Path.{◌≡◌, sym, ap, ap₂, ◌∙◌}
use native.Mathlib.Omega.{arith}
use Rattle.bytecode.specs.Test.{every}
use Rattle.model.specs.Word.{is_valid}
use Rattle.model.specs.Objects.{objects_at, sized_in_bytes, body_words, part}
use Rattle.readers.proofs.Bodies.{body_plain, body_part}
use Rattle.rules.proofs.Laid.{words_no, words_bytes, words_all}
use Rattle.rules.proofs.object_words.Goals as goal

pub returns-then-not-is_valid : goal.returns-then-not-is_valid
returns-then-not-is_valid c =
    let a = c.args in
    words_no (objects_at a.memory.now.n a.memory.now.b a.memory.now.contents.now a.memory.now.bodies.now) a.k (ap (is_valid a.memory.now.n) (sym c.class_word.ensures)
    ∙ sym c.is_valid.ensures ∙ c.if-not-is_valid.true)

pub returns-then-in_bytes : goal.returns-then-in_bytes
returns-then-in_bytes c =
    let a = c.args in
    words_bytes (objects_at a.memory.now.n a.memory.now.b a.memory.now.contents.now a.memory.now.bodies.now) a.k (ap (is_valid a.memory.now.n) (sym c.class_word.ensures)
    ∙ sym c.is_valid.ensures ∙ c.if-not-is_valid.false) (ap sized_in_bytes (sym c.kind.ensures)
    ∙ sym c.in_bytes.ensures ∙ c.if-in_bytes.true)

pub slice_bounds-valid_words-end : goal.slice_bounds-valid_words-end
slice_bounds-valid_words-end c =
    let a = c.args in
    let p = c.requires in
    let o = objects_at a.memory.now.n a.memory.now.b a.memory.now.contents.now a.memory.now.bodies.now in
    let h = p.0.inside a.k p.1.0 p.1.1 in
    let w = body_plain o a.k (ap sized_in_bytes (sym c.kind.ensures) ∙ sym c.in_bytes.ensures ∙ c.if-in_bytes.false) in
    let s = c.start-from.ensures in
    let z = c.size.ensures in
    let l = p.0.words in
    omega arith

pub returns : goal.returns
returns c =
    let a = c.args in
    let p = c.requires in
    let o = objects_at a.memory.now.n a.memory.now.b a.memory.now.contents.now a.memory.now.bodies.now in
    let g = p.0.inside a.k p.1.0 p.1.1 in
    let t = ap sized_in_bytes (sym c.kind.ensures) ∙ sym c.in_bytes.ensures ∙ c.if-in_bytes.false in
    let w = body_plain o a.k t in
    let s = c.start-from.ensures in
    let z = c.size.ensures in
    let count : c.start-from.result + c.size.result - c.start-from.result ≡ body_words o a.k = omega arith in
    c.valid_words.ensures ∙ ap (every (is_valid a.memory.now.n)) (ap₂ (part a.memory.now.bodies.now) s count ∙ sym (body_part a.memory.now.n a.memory.now.b a.memory.now.contents.now a.memory.now.bodies.now a.k p.0.words g))
    ∙ words_all o a.k (ap (is_valid a.memory.now.n) (sym c.class_word.ensures) ∙ sym c.is_valid.ensures ∙ c.if-not-is_valid.false) t
