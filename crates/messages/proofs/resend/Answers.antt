use mathlib.Core.Path.{sym, ◌∙◌}
use native.Mathlib.Omega.{arith}
use Rattle.plain.proofs.RunningLaws.{top_bounds, is_method}
use Rattle.cache.proofs.Caching.{found_kept}
use Rattle.messages.proofs.Resending.{sought_method, read_fits, placed_at, low_next, seeks, unsent, made_room, holds_method, place_inside, left_small, answer_sent, guarded, unfit_sent, full_sent, enters_there, frame_sent}
use Rattle.messages.proofs.resend.Goals as goal

pub sought-found-requires : goal.sought-found-requires
sought-found-requires c =
    seeks c.requires

pub returns-in_default : goal.returns-in_default
returns-in_default c =
    unsent c.requires c.sought-found.result c.in_default.is c.sought-found.ensures

pub receiver_of-place-requires : goal.receiver_of-place-requires
receiver_of-place-requires c =
    (c.requires.sending.runs, c.requires.sending.needs)

pub offset_bounds-stack-place : goal.offset_bounds-stack-place
offset_bounds-stack-place c =
    let p = place_inside c.requires _ (sought_method c.sought-found.result _ c.in-Some.is c.sought-found.ensures) c.receiver_of-place.result c.receiver_of-place.ensures in omega arith

pub bounds-stack-place : goal.bounds-stack-place
bounds-stack-place c =
    let p = place_inside c.requires _ (sought_method c.sought-found.result _ c.in-Some.is c.sought-found.ensures) c.receiver_of-place.result c.receiver_of-place.ensures in omega arith

pub overflow_add-running : goal.overflow_add-running
overflow_add-running c =
    let t = top_bounds c.requires.sending.runs in omega arith

pub offset_bounds-stack-top : goal.offset_bounds-stack-top
offset_bounds-stack-top c =
    let t = top_bounds c.requires.sending.runs in omega arith

pub bounds-stack-top : goal.bounds-stack-top
bounds-stack-top c =
    let t = top_bounds c.requires.sending.runs in omega arith

pub end_of-requires : goal.end_of-requires
end_of-requires c =
    (record { right = (c.requires.sending.runs.edition, c.requires.sending.runs.right); kinds = is_method c.requires.sending.runs }, (let t = top_bounds c.requires.sending.runs in omega arith))

pub answers-requires : goal.answers-requires
answers-requires c =
    holds_method c.requires _ (sought_method c.sought-found.result _ c.in-Some.is c.sought-found.ensures)

pub overflow_add-place : goal.overflow_add-place
overflow_add-place c =
    let p = place_inside c.requires _ (sought_method c.sought-found.result _ c.in-Some.is c.sought-found.ensures) c.receiver_of-place.result c.receiver_of-place.ensures in omega arith

pub make_message-requires : goal.make_message-requires
make_message-requires c =
    (made_room c.requires _ (sought_method c.sought-found.result _ c.in-Some.is c.sought-found.ensures), place_inside c.requires _ (sought_method c.sought-found.result _ c.in-Some.is c.sought-found.ensures) c.receiver_of-place.result c.receiver_of-place.ensures)

pub answer-requires : goal.answer-requires
answer-requires c =
    let t = top_bounds c.requires.sending.runs in let p = place_inside c.requires _ (sought_method c.sought-found.result _ c.in-Some.is c.sought-found.ensures) c.receiver_of-place.result c.receiver_of-place.ensures in let l = left_small c.requires _ (sought_method c.sought-found.result _ c.in-Some.is c.sought-found.ensures) c.receiver_of-place.result c.receiver_of-place.ensures in (omega arith, low_next c.requires, omega arith, omega arith)

pub fill-requires : goal.fill-requires
fill-requires c =
    let f = sought_method c.sought-found.result _ c.in-Some.is c.sought-found.ensures in (c.requires.caches.long, found_kept c.requires.caches (omega arith) f.finds f.reads, read_fits c.requires _ f)

pub overflow_add-result : goal.overflow_add-result
overflow_add-result c =
    let h = made_room c.requires _ (sought_method c.sought-found.result _ c.in-Some.is c.sought-found.ensures) in omega arith

pub overflow_add-result-then-answers : goal.overflow_add-result-then-answers
overflow_add-result-then-answers c =
    let h = made_room c.requires _ (sought_method c.sought-found.result _ c.in-Some.is c.sought-found.ensures) in omega arith

pub returns-then-answers : goal.returns-then-answers
returns-then-answers c =
    λ receiver selector. answer_sent c.requires _ (sought_method c.sought-found.result _ c.in-Some.is c.sought-found.ensures) c.receiver_of-place.result c.receiver_of-place.ensures _ _ c.make_message.ensures (sym c.answers.ensures ∙ c.if-answers.true) _ _ c.answer.ensures c.fill.ensures _ receiver selector c.end_of.ensures.0

pub runs_on-requires : goal.runs_on-requires
runs_on-requires c =
    guarded c.requires _ (sought_method c.sought-found.result _ c.in-Some.is c.sought-found.ensures) c.receiver_of-place.result c.receiver_of-place.ensures

pub returns-then-not-runs_on : goal.returns-then-not-runs_on
returns-then-not-runs_on c =
    unfit_sent c.requires _ (sought_method c.sought-found.result _ c.in-Some.is c.sought-found.ensures) c.receiver_of-place.result c.receiver_of-place.ensures (sym c.answers.ensures ∙ c.if-answers.false) (sym c.runs_on.ensures ∙ c.if-not-runs_on.true)

pub frame_at-requires : goal.frame_at-requires
frame_at-requires c =
    (holds_method c.requires _ (sought_method c.sought-found.result _ c.in-Some.is c.sought-found.ensures), (let t = top_bounds c.requires.sending.runs in let e = c.end_of.ensures.1 in omega arith))

pub overflow_add-n : goal.overflow_add-n
overflow_add-n c =
    let h = made_room c.requires _ (sought_method c.sought-found.result _ c.in-Some.is c.sought-found.ensures) in omega arith

pub overflow_mul-n : goal.overflow_mul-n
overflow_mul-n c =
    let h = made_room c.requires _ (sought_method c.sought-found.result _ c.in-Some.is c.sought-found.ensures) in omega arith

pub overflow_cast-n : goal.overflow_cast-n
overflow_cast-n c =
    let h = made_room c.requires _ (sought_method c.sought-found.result _ c.in-Some.is c.sought-found.ensures) in omega arith

pub enter-requires : goal.enter-requires
enter-requires c =
    enters_there c.requires _ (sought_method c.sought-found.result _ c.in-Some.is c.sought-found.ensures) c.receiver_of-place.result c.receiver_of-place.ensures (sym c.answers.ensures ∙ c.if-answers.false) (sym c.runs_on.ensures ∙ c.if-not-runs_on.false) _ c.end_of.ensures.0 _ _ (placed_at c.frame_at.result _ c.in-Some-frame_at.is c.frame_at.ensures)

pub make_message-requires-2 : goal.make_message-requires-2
make_message-requires-2 c =
    (made_room c.requires _ (sought_method c.sought-found.result _ c.in-Some.is c.sought-found.ensures), place_inside c.requires _ (sought_method c.sought-found.result _ c.in-Some.is c.sought-found.ensures) c.receiver_of-place.result c.receiver_of-place.ensures)

pub fill-requires-2 : goal.fill-requires-2
fill-requires-2 c =
    let f = sought_method c.sought-found.result _ c.in-Some.is c.sought-found.ensures in (c.requires.caches.long, found_kept c.requires.caches (omega arith) f.finds f.reads, read_fits c.requires _ f)

pub returns : goal.returns
returns c =
    frame_sent c.requires _ (sought_method c.sought-found.result _ c.in-Some.is c.sought-found.ensures) c.receiver_of-place.result c.receiver_of-place.ensures (sym c.answers.ensures ∙ c.if-answers.false) (sym c.runs_on.ensures ∙ c.if-not-runs_on.false) _ c.end_of.ensures.0 _ _ (placed_at c.frame_at.result _ c.in-Some-frame_at.is c.frame_at.ensures) _ _ _ _ c.make_message-2.ensures c.enter.ensures c.fill-2.ensures

pub returns-in_default-frame_at : goal.returns-in_default-frame_at
returns-in_default-frame_at c =
    full_sent c.requires _ (sought_method c.sought-found.result _ c.in-Some.is c.sought-found.ensures) c.receiver_of-place.result c.receiver_of-place.ensures (sym c.answers.ensures ∙ c.if-answers.false) (sym c.runs_on.ensures ∙ c.if-not-runs_on.false) _ c.end_of.ensures.0 c.frame_at.result c.in_default-frame_at.is c.frame_at.ensures
