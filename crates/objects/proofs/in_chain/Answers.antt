use Rattle.std.proofs.Common.{◌∙◌, arith}
use Rattle.objects.proofs.Chains.{class_here, class_above, chain_nil, chain_here, chain_turn, chain_first, chain_over}
use Rattle.objects.proofs.in_chain.Goals as goal

pub loop-i-init : goal.loop-i-init
loop-i-init c = (c.requires.1, chain_first _ _ _)

pub returns-then-c-eq-NIL : goal.returns-then-c-eq-NIL
returns-then-c-eq-NIL c = chain_nil c.requires.0.1 _ _ _ c.if-c-eq-NIL.true ∙ c.loop-i.invariant.1

pub returns-then-a-c : goal.returns-then-a-c
returns-then-a-c c =
    chain_here c.requires.0.1 _ _ _ (omega arith) (class_here c.requires.0.1 _ c.loop-i.invariant.0 c.if-c-eq-NIL.false) c.if-a-c.true ∙ c.loop-i.invariant.1

pub superclass-c-requires : goal.superclass-c-requires
superclass-c-requires c =
    record { right = c.requires.0; kinds = class_here c.requires.0.1 _ c.loop-i.invariant.0 c.if-c-eq-NIL.false }

pub loop-i-preserved : goal.loop-i-preserved
loop-i-preserved c =
    let class = class_here c.requires.0.1 _ c.loop-i.invariant.0 c.if-c-eq-NIL.false in (
      class_above c.requires.0.1 _ _ c.superclass-c.ensures class,
      chain_turn c.requires.0.1 c.loop-i.i _ _ _ (omega arith) class c.if-a-c.false c.superclass-c.ensures ∙ c.loop-i.invariant.1,
    )

pub returns : goal.returns
returns c = chain_over _ _ _ _ (omega arith) ∙ c.loop-i.invariant.1
