use mathlib.Core.Path.{sym, ◌∙◌}
use Rattle.methods.proofs.SendLaws.{no_selector, selector_inside, by_count}
use Rattle.methods.proofs.send_fine.Goals as goal

pub takes_count-requires : goal.takes_count-requires
takes_count-requires c =
    let args = c.args in
    selector_inside args.memory.now.n args.memory.now.b args.memory.now.contents.now args.memory.now.bodies.now args.counts.now c.requires args.selector
    (sym (c.is_nil_or.ensures args.memory.now.b args.memory.now.bodies.now) ∙ c.if-is_nil_or.true)

pub returns-then-is_nil_or : goal.returns-then-is_nil_or
returns-then-is_nil_or c =
    let args = c.args in
    by_count args.memory.now.n args.memory.now.b args.memory.now.contents.now args.memory.now.bodies.now args.counts.now c.requires args.selector args.arguments
    (sym (c.is_nil_or.ensures args.memory.now.b args.memory.now.bodies.now) ∙ c.if-is_nil_or.true) c.takes_count.ensures

pub returns-else-is_nil_or : goal.returns-else-is_nil_or
returns-else-is_nil_or c =
    let args = c.args in
    c.if-is_nil_or.false
    ∙ no_selector args.memory.now.n args.memory.now.b args.memory.now.contents.now args.memory.now.bodies.now args.counts.now c.requires args.selector args.arguments
    (sym (c.is_nil_or.ensures args.memory.now.b args.memory.now.bodies.now) ∙ c.if-is_nil_or.false)
