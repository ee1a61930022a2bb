use mathlib.Core.Bool.{not}
use mathlib.Core.Path.{◌∙◌, ap}
use borrow.Author.Tests.{ne_eqb}
use Rattle.model.specs.Objects.{objects_at}
use Rattle.cache.proofs.Entries.{entry_empty, entry_other, entry_wrong, entry_found, entry_nothing}
use Rattle.cache.proofs.cached_right.Goals as goal

pub returns-then-is_empty : goal.returns-then-is_empty
returns-then-is_empty c =
    let a = c.args in
    entry_empty (objects_at a.memory.now.n a.memory.now.b a.memory.now.contents.now a.memory.now.bodies.now) a.s a.class a.m a.k _ c.is_empty.ensures c.if-is_empty.true

pub returns-then-not-is_kind : goal.returns-then-not-is_kind
returns-then-not-is_kind c =
    let a = c.args in
    entry_other (objects_at a.memory.now.n a.memory.now.b a.memory.now.contents.now a.memory.now.bodies.now) a.s a.class a.m a.k _ c.is_empty.ensures _
    c.if-is_empty.false (c.is_kind.ensures a.memory.now.b a.memory.now.bodies.now) (ap not c.if-not-is_kind.true)

pub returns-then-held-m : goal.returns-then-held-m
returns-then-held-m c = let a = c.args in
    entry_found (objects_at a.memory.now.n a.memory.now.b a.memory.now.contents.now a.memory.now.bodies.now) a.s a.class a.m a.k _ c.is_empty.ensures c.if-is_empty.false c.lookup-search.ensures.finds c.in-Some.is
    c.if-held-m.true c.lookup-search.ensures.walks

pub returns-else-held-m : goal.returns-else-held-m
returns-else-held-m c = let a = c.args in
    ne_eqb _ _ c.if-held-m.false
    ∙ entry_wrong (objects_at a.memory.now.n a.memory.now.b a.memory.now.contents.now a.memory.now.bodies.now) a.s a.class a.m a.k _ c.is_empty.ensures c.if-is_empty.false c.lookup-search.ensures.finds c.in-Some.is
    c.if-held-m.false

pub returns-in-None : goal.returns-in-None
returns-in-None c = let a = c.args in
    entry_nothing (objects_at a.memory.now.n a.memory.now.b a.memory.now.contents.now a.memory.now.bodies.now) a.s a.class a.m a.k _ c.is_empty.ensures c.if-is_empty.false c.lookup-search.ensures.finds
    c.in-None.is
