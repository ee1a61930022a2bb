use mathlib.Core.Path.{refl, sym, ◌∙◌}
use native.Mathlib.Omega.{arith}
use Rattle.cache.proofs.Caching.{found_kept}
use Rattle.sends.proofs.Sending.{read_fits, sent_needs, sent_ends, made_nothing, activable, made_answer, made_none, framing, made_unfit, made_full, enters_there, made_frame}
use Rattle.sends.proofs.send.Goals as goal

pub returns-in_default : goal.returns-in_default
returns-in_default c =
    λ receiver selector. made_nothing c.requires.0 c.requires.1 _ c.args.edition receiver selector (sym c.cached-lookup.ensures.finds ∙ c.in_default.is)

pub overflow_sub-place : goal.overflow_sub-place
overflow_sub-place c =
    let k = sent_needs c.requires.0 c.requires.1 in let e = sent_ends c.requires.0 c.requires.1 in omega arith

pub overflow_sub-place-2 : goal.overflow_sub-place-2
overflow_sub-place-2 c =
    let k = sent_needs c.requires.0 c.requires.1 in let e = sent_ends c.requires.0 c.requires.1 in omega arith

pub overflow_add-running : goal.overflow_add-running
overflow_add-running c =
    let k = sent_needs c.requires.0 c.requires.1 in let e = sent_ends c.requires.0 c.requires.1 in omega arith

pub offset_bounds-stack-top : goal.offset_bounds-stack-top
offset_bounds-stack-top c =
    let k = sent_needs c.requires.0 c.requires.1 in let e = sent_ends c.requires.0 c.requires.1 in omega arith

pub bounds-stack-top : goal.bounds-stack-top
bounds-stack-top c =
    let k = sent_needs c.requires.0 c.requires.1 in let e = sent_ends c.requires.0 c.requires.1 in omega arith

pub offset_bounds-stack-place : goal.offset_bounds-stack-place
offset_bounds-stack-place c =
    let k = sent_needs c.requires.0 c.requires.1 in let e = sent_ends c.requires.0 c.requires.1 in omega arith

pub bounds-stack-place : goal.bounds-stack-place
bounds-stack-place c =
    let k = sent_needs c.requires.0 c.requires.1 in let e = sent_ends c.requires.0 c.requires.1 in omega arith

pub acted-done-requires : goal.acted-done-requires
acted-done-requires c =
    (activable c.requires.0 c.requires.1 _ (sym c.cached-lookup.ensures.finds ∙ c.in-Some.is), (let k = sent_needs c.requires.0 c.requires.1 in let e = sent_ends c.requires.0 c.requires.1 in omega arith))

pub offset_bounds-stack-place-in-Answer : goal.offset_bounds-stack-place-in-Answer
offset_bounds-stack-place-in-Answer c =
    let k = sent_needs c.requires.0 c.requires.1 in let e = sent_ends c.requires.0 c.requires.1 in omega arith

pub bounds-stack-place-in-Answer : goal.bounds-stack-place-in-Answer
bounds-stack-place-in-Answer c =
    let k = sent_needs c.requires.0 c.requires.1 in let e = sent_ends c.requires.0 c.requires.1 in omega arith

pub fill-requires : goal.fill-requires
fill-requires c =
    (c.requires.2.long, found_kept c.requires.2 c.requires.1.named (sym c.cached-lookup.ensures.finds ∙ c.in-Some.is) c.cached-lookup.ensures.reads, read_fits c.requires.0 c.requires.1 c.cached-lookup.ensures.reads)

pub new_frame-fit-requires : goal.new_frame-fit-requires
new_frame-fit-requires c =
    framing c.requires.0 c.requires.1 _ (sym c.cached-lookup.ensures.finds ∙ c.in-Some.is) c.args.edition c.args.cache.now c.acted-done.new.contents c.acted-done.new.bodies c.acted-done.result c.acted-done.ensures c.in-Frame.is

pub overflow_sub-place-in-At : goal.overflow_sub-place-in-At
overflow_sub-place-in-At c =
    let k = sent_needs c.requires.0 c.requires.1 in let e = sent_ends c.requires.0 c.requires.1 in omega arith

pub overflow_add-place : goal.overflow_add-place
overflow_add-place c =
    let k = sent_needs c.requires.0 c.requires.1 in let e = sent_ends c.requires.0 c.requires.1 in omega arith

pub make_frame-requires : goal.make_frame-requires
make_frame-requires c =
    enters_there c.requires.0 c.requires.1 _ (sym c.cached-lookup.ensures.finds ∙ c.in-Some.is) c.args.edition c.args.cache.now c.acted-done.new.contents c.acted-done.new.bodies c.acted-done.result c.acted-done.ensures c.in-Frame.is c.new_frame-fit.result c.new_frame-fit.ensures _ _ _ c.in-At.is c.requires.3

pub fill-requires-in-At : goal.fill-requires-in-At
fill-requires-in-At c =
    (c.requires.2.long, found_kept c.requires.2 c.requires.1.named (sym c.cached-lookup.ensures.finds ∙ c.in-Some.is) c.cached-lookup.ensures.reads, read_fits c.requires.0 c.requires.1 c.cached-lookup.ensures.reads)

pub returns-in-Answer : goal.returns-in-Answer
returns-in-Answer c =
    made_answer c.requires.0 c.requires.1 _ (sym c.cached-lookup.ensures.finds ∙ c.in-Some.is) c.args.edition c.args.cache.now c.acted-done.new.contents c.acted-done.new.bodies c.acted-done.result c.acted-done.ensures _ _ _ _ _ c.cached-lookup.ensures.reads c.in-Answer.is refl c.fill.ensures

pub returns-in-Unfit : goal.returns-in-Unfit
returns-in-Unfit c =
    made_none c.requires.0 c.requires.1 _ (sym c.cached-lookup.ensures.finds ∙ c.in-Some.is) c.args.edition c.args.cache.now c.acted-done.new.contents c.acted-done.new.bodies c.acted-done.result c.acted-done.ensures c.in-Unfit.is

pub shape_of-contents-in-At : goal.shape_of-contents-in-At
shape_of-contents-in-At c =
    c.acted-done.auto.contents

pub shape_of-bodies-in-At : goal.shape_of-bodies-in-At
shape_of-bodies-in-At c =
    c.acted-done.auto.bodies

pub returns-in-At : goal.returns-in-At
returns-in-At c =
    made_frame c.requires.0 c.requires.1 _ (sym c.cached-lookup.ensures.finds ∙ c.in-Some.is) c.args.edition c.args.cache.now c.acted-done.new.contents c.acted-done.new.bodies c.acted-done.result c.acted-done.ensures c.in-Frame.is c.new_frame-fit.result c.new_frame-fit.ensures _ _ _ c.in-At.is _ _ c.make_frame.ensures c.cached-lookup.ensures.reads c.fill-in-At.ensures

pub returns-in-Full : goal.returns-in-Full
returns-in-Full c =
    made_full c.requires.0 c.requires.1 _ (sym c.cached-lookup.ensures.finds ∙ c.in-Some.is) c.args.edition c.args.cache.now c.acted-done.new.contents c.acted-done.new.bodies c.acted-done.result c.acted-done.ensures c.in-Frame.is c.new_frame-fit.result c.new_frame-fit.ensures c.in-Full.is

pub returns-in-Unfit-fit : goal.returns-in-Unfit-fit
returns-in-Unfit-fit c =
    made_unfit c.requires.0 c.requires.1 _ (sym c.cached-lookup.ensures.finds ∙ c.in-Some.is) c.args.edition c.args.cache.now c.acted-done.new.contents c.acted-done.new.bodies c.acted-done.result c.acted-done.ensures c.in-Frame.is c.new_frame-fit.result c.new_frame-fit.ensures c.in-Unfit-fit.is
