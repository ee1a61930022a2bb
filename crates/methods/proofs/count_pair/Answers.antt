use Prim.Native.Nat.{ℕ, ◌*◌, ◌/◌}
use mathlib.Core.Path.{ap, ◌∙◌}
use native.Mathlib.Omega.{arith}
use Rattle.model.specs.Objects.{objects_at, body_word}
use Rattle.readers.proofs.InsideLaws.{class_inside, method_inside}
use Rattle.methods.proofs.AskedLaws.{pair_inside, selector_most, method_held, pair_counts, pair_no, pair_turned}
use Rattle.methods.proofs.count_pair.Goals as goal

pub word_of-d-requires : goal.word_of-d-requires
word_of-d-requires c = let p = c.requires in class_inside p.ready.laid p.is_class (omega arith)

pub overflow_mul-i : goal.overflow_mul-i
overflow_mul-i c =
    let p = c.requires in
    let h = pair_inside p.ready c.args.class p.is_class c.args.i p.inside c.word_of-d.ensures (2 * c.args.i) (omega arith) in
    omega (arith, h.below, p.ready.laid.most_words)

pub word_of-s-requires : goal.word_of-s-requires
word_of-s-requires c =
    let p = c.requires in
    pair_inside p.ready c.args.class p.is_class c.args.i p.inside c.word_of-d.ensures _ (omega arith)

pub overflow_mul-i-2 : goal.overflow_mul-i-2
overflow_mul-i-2 c =
    let p = c.requires in
    let h = pair_inside p.ready c.args.class p.is_class c.args.i p.inside c.word_of-d.ensures (2 * c.args.i) (omega arith) in
    omega (arith, h.below, p.ready.laid.most_words)

pub overflow_add-i : goal.overflow_add-i
overflow_add-i c =
    let p = c.requires in
    let h = pair_inside p.ready c.args.class p.is_class c.args.i p.inside c.word_of-d.ensures (2 * c.args.i) (omega arith) in
    omega (arith, h.below, p.ready.laid.most_words)

pub word_of-m-requires : goal.word_of-m-requires
word_of-m-requires c =
    let p = c.requires in
    pair_inside p.ready c.args.class p.is_class c.args.i p.inside c.word_of-d.ensures _ (omega arith)

pub word_of-home-requires : goal.word_of-home-requires
word_of-home-requires c =
    let held = method_held c.requires c.word_of-d.ensures c.word_of-m.ensures in
    method_inside held.laid _ held.is_method held.holds (omega arith)

pub returns-then-home-class : goal.returns-then-home-class
returns-then-home-class c =
    pair_no c.requires c.word_of-d.ensures c.word_of-m.ensures c.word_of-home.ensures _ c.if-home-class.true

pub argument_count-count-requires : goal.argument_count-count-requires
argument_count-count-requires c =
    pair_counts c.requires c.word_of-d.ensures c.word_of-m.ensures

pub note_count-requires : goal.note_count-requires
note_count-requires c =
    let args = c.args in
    let p = c.requires in
    let o = objects_at args.memory.now.n args.memory.now.b args.memory.now.contents.now args.memory.now.bodies.now in
    let s = c.word_of-s.ensures ∙ ap (λ (x : ℕ). body_word o (x / 2) (2 * args.i)) c.word_of-d.ensures in
    omega (arith, p.long, selector_most p.ready args.class p.is_class args.i p.inside s)

pub returns : goal.returns
returns c =
    pair_turned c.requires c.word_of-d.ensures c.word_of-m.ensures c.word_of-s.ensures c.word_of-home.ensures c.if-home-class.false
    c.argument_count-count.ensures.0 _ _ c.note_count.ensures
