use Rattle.code.proofs.CodePlace.{code_lent, code_short, code_blank, walked_put}
use native.Mathlib.Omega.{arith}
use mathlib.Core.Path.{ap, ◌∙◌}
use Rattle.readers.specs.Header.{literals_of}
use Rattle.code.proofs.LinkFine.{method_entry, method_word}
use Rattle.code.proofs.CodePlace.{code_starts, body_size, body_inside}
use borrow.Author.Rules.{rules}
use Rattle.code.proofs.method_notes.Goals as goal

pub word_of-header-requires : goal.word_of-header-requires
word_of-header-requires c = method_word c.requires.0 _ (omega arith)

pub overflow_add-skip : goal.overflow_add-skip
overflow_add-skip c = let l = c.literal_count-skip.ensures in omega arith

pub start-requires : goal.start-requires
start-requires c = method_entry c.requires.0

pub overflow_add-from : goal.overflow_add-from
overflow_add-from c = let l = c.literal_count-skip.ensures in search rules

pub body_end-end-requires : goal.body_end-end-requires
body_end-end-requires c = method_entry c.requires.0

pub overflow_mul-first : goal.overflow_mul-first
overflow_mul-first c = let l = c.literal_count-skip.ensures in search rules

pub size-requires : goal.size-requires
size-requires c = method_entry c.requires.0

pub overflow_mul-last : goal.overflow_mul-last
overflow_mul-last c = let l = c.literal_count-skip.ensures in search rules

pub overflow_sub-last : goal.overflow_sub-last
overflow_sub-last c =
    let l = c.literal_count-skip.ensures ∙ ap literals_of c.word_of-header.ensures in
    let z = c.size.ensures in let k = code_starts c.requires.0 in omega arith

pub overflow_add-last : goal.overflow_add-last
overflow_add-last c = let l = c.literal_count-skip.ensures in search rules

pub slice_bounds-code_notes-count : goal.slice_bounds-code_notes-count
slice_bounds-code_notes-count c =
    let l = c.literal_count-skip.ensures ∙ ap literals_of c.word_of-header.ensures in
    let s = c.start.ensures in let e = c.body_end-end.ensures c.args.memory.now.b c.args.memory.now.bodies.now in
    let k = code_starts c.requires.0 in let q = body_size c.requires.0 in omega arith

pub slice_bounds-code_notes-start : goal.slice_bounds-code_notes-start
slice_bounds-code_notes-start c =
    let l = c.literal_count-skip.ensures ∙ ap literals_of c.word_of-header.ensures in
    let s = c.start.ensures in let e = c.body_end-end.ensures c.args.memory.now.b c.args.memory.now.bodies.now in
    let k = code_starts c.requires.0 in let q = body_size c.requires.0 in omega arith

pub slice_bounds-code_notes-end : goal.slice_bounds-code_notes-end
slice_bounds-code_notes-end c =
    let e = c.body_end-end.ensures c.args.memory.now.b c.args.memory.now.bodies.now in
    let i = body_inside c.requires.0 in let t = c.requires.0.ready.laid.words in omega arith

pub slice_bounds-code_notes-end-2 : goal.slice_bounds-code_notes-end-2
slice_bounds-code_notes-end-2 c =
    let p = c.requires.0 in
    let l = c.literal_count-skip.ensures ∙ ap literals_of c.word_of-header.ensures in
    let s = c.start.ensures in let z = c.size.ensures in
    let k = code_starts p in let q = body_size p in let i = body_inside p in let t = c.requires.1 in omega arith

pub code_notes-requires : goal.code_notes-requires
code_notes-requires c =
    let args = c.args in
    let p = c.requires in
    let l = c.literal_count-skip.ensures ∙ ap literals_of c.word_of-header.ensures in
    let e = c.body_end-end.ensures args.memory.now.b args.memory.now.bodies.now in
    let k = code_lent p.0 args.notes.now l c.start.ensures e c.size.ensures p.1 in
    let s = code_short p.0 args.notes.now l c.start.ensures e c.size.ensures p.1 in (
      p.0,
      k,
      let t = p.2 in omega arith,
      code_blank p.0 args.notes.now l c.start.ensures e c.size.ensures p.1 p.3,
    )

pub returns : goal.returns
returns c =
    let args = c.args in
    let p = c.requires in
    let l = c.literal_count-skip.ensures ∙ ap literals_of c.word_of-header.ensures in
    let e = c.body_end-end.ensures args.memory.now.b args.memory.now.bodies.now in
    walked_put p.0 args.notes.now l c.start.ensures e c.size.ensures p.1 _ c.code_notes.auto.notes _ _
    c.code_notes.ensures
