-- The element stands behind the named fields and inside the body.
use native.Mathlib.Omega.{arith}
use Rattle.primitives.proofs.Indexing.{natural_some, natural_none, natural_most, taken, not_taken, indexed_by, not_indexed, start_small, byte_inside, word_inside, put_none, put_no_index, put_not, put_byte, put_word, puts_none, puts_some}
use Rattle.primitives.proofs.at_put.Goals as goal

pub returns-in_err-e : goal.returns-in_err-e
returns-in_err-e c =
    puts_none c.requires c.from_residual.ensures (put_none _ _ _ _ (not_taken _ _ c.elements_of.ensures c.in_err-e.was))

pub returns-in_err-i : goal.returns-in_err-i
returns-in_err-i c =
    let t = taken c.elements_of.ensures c.in_ok-e.was in
    puts_none c.requires c.from_residual-in_err-i.ensures (put_no_index t _ _ (not_indexed t _ c.index.ensures c.in_err-i.was))

pub overflow_sub-to : goal.overflow_sub-to
overflow_sub-to c =
    let t = taken c.elements_of.ensures c.in_ok-e.was in
    let k = indexed_by t c.index.ensures c.in_ok-i.was in
    let m = k.most in
    let s = start_small c.requires t in
    omega arith

pub overflow_add-to : goal.overflow_add-to
overflow_add-to c =
    let t = taken c.elements_of.ensures c.in_ok-e.was in
    let k = indexed_by t c.index.ensures c.in_ok-i.was in
    let m = k.most in
    let s = start_small c.requires t in
    omega arith

pub returns-in_err-byte-in-Bytes : goal.returns-in_err-byte-in-Bytes
returns-in_err-byte-in-Bytes c =
    let t = taken c.elements_of.ensures c.in_ok-e.was in
    puts_none c.requires c.from_residual-in_err-byte-in-Bytes.ensures (put_not t (indexed_by t c.index.ensures c.in_ok-i.was) _ c.in-Bytes.is (natural_none _ _ c.natural.ensures c.in_err-byte-in-Bytes.was))

pub overflow_cast-byte : goal.overflow_cast-byte
overflow_cast-byte c =
    let k = natural_some _ _ c.natural.ensures c.in_ok-byte-in-Bytes.was in
    let l = natural_most _ _ k in
    omega arith

pub store_byte-requires : goal.store_byte-requires
store_byte-requires c =
    let t = taken c.elements_of.ensures c.in_ok-e.was in
    byte_inside c.requires t (indexed_by t c.index.ensures c.in_ok-i.was) c.in-Bytes.is

pub returns-in_ok-byte-in-Bytes : goal.returns-in_ok-byte-in-Bytes
returns-in_ok-byte-in-Bytes c =
    let t = taken c.elements_of.ensures c.in_ok-e.was in
    puts_some c.store_byte.ensures (put_byte t (indexed_by t c.index.ensures c.in_ok-i.was) c.in-Bytes.is (natural_some _ _ c.natural.ensures c.in_ok-byte-in-Bytes.was))

pub store_word-requires : goal.store_word-requires
store_word-requires c =
    let t = taken c.elements_of.ensures c.in_ok-e.was in
    word_inside c.requires t (indexed_by t c.index.ensures c.in_ok-i.was) c.in-Words.is

pub returns-in-Words : goal.returns-in-Words
returns-in-Words c =
    let t = taken c.elements_of.ensures c.in_ok-e.was in
    puts_some c.store_word.ensures (put_word t (indexed_by t c.index.ensures c.in_ok-i.was) c.in-Words.is)
