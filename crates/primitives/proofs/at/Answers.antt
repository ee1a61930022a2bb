-- The element stands behind the named fields and inside the body.
use Rattle.std.proofs.Common.{ap, ◌∙◌, arith}
use Rattle.model.specs.Primitive.{computed}
use Rattle.primitives.proofs.Indexing.{taken, not_taken, indexed_by, not_indexed, start_small, byte_inside, word_inside, at_none, at_no_index, at_byte, at_word}
use Rattle.primitives.proofs.at.Goals as goal

pub returns-in_err-e : goal.returns-in_err-e
returns-in_err-e c = ap (computed _) c.from_residual.ensures ∙ at_none _ _ _ (not_taken _ _ c.elements_of.ensures c.in_err-e.was)

pub returns-in_err-i : goal.returns-in_err-i
returns-in_err-i c =
    let t = taken c.elements_of.ensures c.in_ok-e.was in
    ap (computed _) c.from_residual-in_err-i.ensures ∙ at_no_index t _ (not_indexed t _ c.index.ensures c.in_err-i.was)

pub overflow_sub-from : goal.overflow_sub-from
overflow_sub-from c =
    let t = taken c.elements_of.ensures c.in_ok-e.was in
    let k = indexed_by t c.index.ensures c.in_ok-i.was in
    let m = k.most in
    let s = start_small c.requires t in
    omega arith

pub overflow_add-from : goal.overflow_add-from
overflow_add-from c =
    let t = taken c.elements_of.ensures c.in_ok-e.was in
    let k = indexed_by t c.index.ensures c.in_ok-i.was in
    let m = k.most in
    let s = start_small c.requires t in
    omega arith

pub byte_of-v-requires : goal.byte_of-v-requires
byte_of-v-requires c =
    let t = taken c.elements_of.ensures c.in_ok-e.was in
    byte_inside c.requires t (indexed_by t c.index.ensures c.in_ok-i.was) c.in-Bytes.is

pub returns-in-Bytes : goal.returns-in-Bytes
returns-in-Bytes c =
    let t = taken c.elements_of.ensures c.in_ok-e.was in
    at_byte t (indexed_by t c.index.ensures c.in_ok-i.was) c.in-Bytes.is c.byte_of-v.ensures

pub word_of-requires : goal.word_of-requires
word_of-requires c =
    let t = taken c.elements_of.ensures c.in_ok-e.was in
    word_inside c.requires t (indexed_by t c.index.ensures c.in_ok-i.was) c.in-Words.is

pub returns-in-Words : goal.returns-in-Words
returns-in-Words c =
    let t = taken c.elements_of.ensures c.in_ok-e.was in
    at_word t (indexed_by t c.index.ensures c.in_ok-i.was) c.in-Words.is c.word_of.ensures
