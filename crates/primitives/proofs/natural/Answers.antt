use Rattle.std.proofs.Common.{◌/◌, ◌&&◌, Bool, leb, sym, ap, ap₂}
use borrow.Author.Tests.{eq-eqb, ne_eqb, le-leb, lt-leb}
use Rattle.bytecode.proofs.Choice.{if_yes, if_no}
use Rattle.primitives.specs.Outcomes.{natural_of}
use Rattle.primitives.proofs.natural.Goals as goal

pub returns-then-x-ne1 : goal.returns-then-x-ne1
unfolding natural_of
returns-then-x-ne1 c = sym (if_no _ _ (ap (λ (t : Bool). t && leb (c.args.x / 2) c.args.most) (ne_eqb _ 1 c.if-x-ne1.true)))

pub returns-then-i-most : goal.returns-then-i-most
unfolding natural_of
returns-then-i-most c = sym (if_yes _ _ (ap₂ ◌&&◌ (eq-eqb _ 1 c.if-x-ne1.false) (le-leb _ _ c.if-i-most.true)))

pub returns-else-i-most : goal.returns-else-i-most
unfolding natural_of
returns-else-i-most c = sym (if_no _ _ (ap₂ ◌&&◌ (eq-eqb _ 1 c.if-x-ne1.false) (lt-leb _ _ c.if-i-most.false)))
