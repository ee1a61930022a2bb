use mathlib.Core.Bool.{not}
use mathlib.Core.Path.{ap}
use lib.ListN.{get_or}
use Rattle.benchmark.proofs.Looking.{unchecked, right, entries, no_class, starts, looked}
use Rattle.benchmark.proofs.bench_lookup.Goals as goal

pub returns-then-sofaduck_check-ne0 : goal.returns-then-sofaduck_check-ne0
returns-then-sofaduck_check-ne0 c =
    let a = c.args in unchecked a.registers.now a.contents.now a.bodies.now a.stack.now a.cache.now a.selector a.class _ _ _ _ c.sofaduck_check.ensures c.if-sofaduck_check-ne0.true

pub is_class-requires : goal.is_class-requires
is_class-requires c =
    let a = c.args in entries a.registers.now a.contents.now a.bodies.now a.stack.now a.cache.now a.selector a.class 0 0 0 c.sofaduck_check.ensures c.if-sofaduck_check-ne0.false

pub returns-then-not-is_class : goal.returns-then-not-is_class
returns-then-not-is_class c =
    let a = c.args in no_class a.registers.now a.contents.now a.bodies.now a.stack.now a.cache.now a.selector a.class _ _ _ c.sofaduck_check.ensures c.if-sofaduck_check-ne0.false (c.is_class.ensures (get_or a.registers.now 1 0) a.bodies.now) (ap not c.if-not-is_class.true)

pub lookup-search-requires : goal.lookup-search-requires
lookup-search-requires c =
    let a = c.args in (right a.registers.now a.contents.now a.bodies.now a.stack.now a.cache.now a.selector a.class 0 0 0 c.sofaduck_check.ensures c.if-sofaduck_check-ne0.false, starts a.registers.now a.contents.now a.bodies.now a.stack.now a.cache.now a.selector a.class 0 0 0 c.sofaduck_check.ensures c.if-sofaduck_check-ne0.false (c.is_class.ensures (get_or a.registers.now 1 0) a.bodies.now) (ap not c.if-not-is_class.false))

pub returns-in-Some : goal.returns-in-Some
returns-in-Some c =
    let a = c.args in looked a.registers.now a.contents.now a.bodies.now a.stack.now a.cache.now a.selector a.class _ _ _ c.sofaduck_check.ensures c.if-sofaduck_check-ne0.false (c.is_class.ensures (get_or a.registers.now 1 0) a.bodies.now) (ap not c.if-not-is_class.false) c.lookup-search.ensures.finds c.lookup-search.ensures.reads c.lookup-search.ensures.walks c.in-Some.is

pub returns-in-None : goal.returns-in-None
returns-in-None c =
    let a = c.args in looked a.registers.now a.contents.now a.bodies.now a.stack.now a.cache.now a.selector a.class _ _ _ c.sofaduck_check.ensures c.if-sofaduck_check-ne0.false (c.is_class.ensures (get_or a.registers.now 1 0) a.bodies.now) (ap not c.if-not-is_class.false) c.lookup-search.ensures.finds c.lookup-search.ensures.reads c.lookup-search.ensures.walks c.in-None.is
