use Rattle.std.proofs.Common.{arith}
use Rattle.objects.proofs.Searches.{few_read}
use Rattle.objects.proofs.Chains.{class_here, dictionary_of, lookup_first, lookup_nil, lookup_hit, lookup_up, lookup_over, lookup_turn}
use Rattle.objects.proofs.lookup.Goals as goal

pub loop-read-init : goal.loop-read-init
loop-read-init c = lookup_first c.requires.1

pub returns-then-c-eq-NIL : goal.returns-then-c-eq-NIL
returns-then-c-eq-NIL c =
    let r = lookup_nil c.requires.0.1 c.loop-read.invariant c.if-c-eq-NIL.true in
    record { finds = r.0; walks = (let w = r.1 in omega arith); reads = r.2 }

pub superclass-above-requires : goal.superclass-above-requires
superclass-above-requires c =
    record { right = c.requires.0; kinds = class_here c.requires.0.1 _ c.loop-read.invariant.classes c.if-c-eq-NIL.false }

pub dictionary-d-requires : goal.dictionary-d-requires
dictionary-d-requires c =
    record { right = c.requires.0; kinds = class_here c.requires.0.1 _ c.loop-read.invariant.classes c.if-c-eq-NIL.false }

pub find_in-search-requires : goal.find_in-search-requires
find_in-search-requires c =
    dictionary_of _ c.requires.0 c.dictionary-d.ensures (class_here c.requires.0.1 _ c.loop-read.invariant.classes c.if-c-eq-NIL.false)

pub overflow_add-pairs : goal.overflow_add-pairs
overflow_add-pairs c =
    let right = c.requires.0 in
    let room = c.loop-read.invariant.few in
    let few = few_read (dictionary_of _ right c.dictionary-d.ensures (class_here right.1 _ c.loop-read.invariant.classes c.if-c-eq-NIL.false)) _ _
    c.find_in-search.ensures.reads in omega arith

pub returns-in-Some : goal.returns-in-Some
returns-in-Some c =
    let right = c.requires.0.1 in
    let r = lookup_hit right c.loop-read.invariant (omega arith) (class_here right _ c.loop-read.invariant.classes c.if-c-eq-NIL.false)
    c.dictionary-d.ensures c.find_in-search.ensures.finds c.find_in-search.ensures.reads _ c.in-Some.is in
    record { finds = r.0; walks = (let w = r.1 in omega arith); reads = r.2 }

pub loop-read-preserved : goal.loop-read-preserved
loop-read-preserved c =
    let right = c.requires.0 in
    let class = class_here right.1 _ c.loop-read.invariant.classes c.if-c-eq-NIL.false in
    let read = c.find_in-search.ensures.reads in
    lookup_turn c.loop-read.read
    (lookup_up right.1 c.loop-read.invariant (omega arith) class c.dictionary-d.ensures c.find_in-search.ensures.finds read _
    (few_read (dictionary_of _ right c.dictionary-d.ensures class) _ _ read) c.superclass-above.ensures c.in_default.is)

pub returns : goal.returns
returns c =
    let r = lookup_over c.requires.0.1 c.loop-read.invariant (omega arith) in
    record { finds = r.0; walks = r.1; reads = r.2 }
