use Prim.Native.Nat.{ℕ}
use mathlib.Core.Path.{◌≡◌, subst}
use native.Mathlib.Omega.{arith}
use Rattle.calls.specs.Plays.{Plays}
use Rattle.calls.proofs.Playing.{starts, ends_full, ends_none, stands, fits, ends_inside, goes_on}
use Rattle.machine.specs.State.{state}
use Rattle.machine.specs.Lists.{answer_in}
use Rattle.machine.proofs.Replying.{noted_gives}
use Rattle.machine.proofs.Registers.play_checked.Goals as goal

pub loop-made-init : goal.loop-made-init
loop-made-init c =
    let a = c.args in (
      (c.answer_room-room.ensures, omega arith),
      starts a.calls.now a.answers.now (state a.self a.contents.now a.bodies.now a.stack.now a.cache.now) c.requires,
    )

pub shape_of-contents-in_default : goal.shape_of-contents-in_default
shape_of-contents-in_default c = c.loop-made.invariant.1.contents

pub shape_of-bodies-in_default : goal.shape_of-bodies-in_default
shape_of-bodies-in_default c = c.loop-made.invariant.1.bodies

pub shape_of-stack-in_default : goal.shape_of-stack-in_default
shape_of-stack-in_default c = c.loop-made.invariant.1.stack

pub shape_of-cache-in_default : goal.shape_of-cache-in_default
shape_of-cache-in_default c = c.loop-made.invariant.1.cache

pub shape_of-answers-in_default : goal.shape_of-answers-in_default
shape_of-answers-in_default c = c.loop-made.invariant.1.long

pub returns-in_default : goal.returns-in_default
returns-in_default c =
    let a = c.args in
    ends_none a.calls.now a.answers.now _ _ _ _ _ c.loop-made.invariant.1 c.in_default.ensures

pub call_checked-reply-requires : goal.call_checked-reply-requires
call_checked-reply-requires c =
    let a = c.args in record { bound = stands a.calls.now a.answers.now _ _ _ _ _ c.loop-made.invariant.1 _ c.loop-made.invariant.0.0 c.loop-made-test.true c.in-Some.size c.in-Some.ensures.0 c.in-Some.ensures.1; cache_value = c.loop-made.invariant.1.checks }

pub overflow_mul-made : goal.overflow_mul-made
overflow_mul-made c =
    let a = c.args in
    let f = fits a.calls.now a.answers.now _ _ _ _ _ c.loop-made.invariant.1 _ c.loop-made.invariant.0.0 c.loop-made-test.true
    c.in-Some.size c.in-Some.ensures.0 c.in-Some.ensures.1 in omega arith

pub write_reply-registers-requires : goal.write_reply-registers-requires
write_reply-registers-requires c =
    let a = c.args in
    fits a.calls.now a.answers.now _ _ _ _ _ c.loop-made.invariant.1 _ c.loop-made.invariant.0.0 c.loop-made-test.true
    c.in-Some.size c.in-Some.ensures.0 c.in-Some.ensures.1

pub overflow_add-i : goal.overflow_add-i
overflow_add-i c =
    let a = c.args in
    let f = ends_inside a.calls.now a.answers.now _ _ _ _ _ c.loop-made.invariant.1 _ c.loop-made.invariant.0.0 c.loop-made-test.true
    c.in-Some.size c.in-Some.ensures.0 c.in-Some.ensures.1 in omega (arith, c.well_formed)

pub loop-made-preserved : goal.loop-made-preserved
loop-made-preserved c =
    let a = c.args in (
      (c.loop-made.invariant.0.0, let f = c.loop-made-test.true in omega arith),
      goes_on a.calls.now a.answers.now _ _ _ _ _ c.loop-made.invariant.1 _ c.loop-made.invariant.0.0
          c.loop-made-test.true c.in-Some.size c.in-Some.ensures.0 c.in-Some.ensures.1 (answer_in c.call_checked-reply.result) _ _ (noted_gives _ c.call_checked-reply.result _ _ _ _ _ c.call_checked-reply.ensures _ c.write_reply-registers.ensures.0)
          c.write_reply-registers.ensures.1 c.call_checked-reply.auto.contents c.call_checked-reply.auto.bodies c.call_checked-reply.auto.stack c.call_checked-reply.auto.cache,
    )

pub shape_of-contents : goal.shape_of-contents
shape_of-contents c = c.loop-made.invariant.1.contents

pub shape_of-bodies : goal.shape_of-bodies
shape_of-bodies c = c.loop-made.invariant.1.bodies

pub shape_of-stack : goal.shape_of-stack
shape_of-stack c = c.loop-made.invariant.1.stack

pub shape_of-cache : goal.shape_of-cache
shape_of-cache c = c.loop-made.invariant.1.cache

pub shape_of-answers : goal.shape_of-answers
shape_of-answers c = c.loop-made.invariant.1.long

pub returns : goal.returns
returns c =
    let a = c.args in
    let most = c.loop-made.invariant.0.1 in
    let least = c.loop-made-test.false in
    let all : c.loop-made.made ≡ c.answer_room-room.result = omega arith in
    subst (λ (k : ℕ). Plays a.calls.now a.answers.now (state a.self a.contents.now a.bodies.now a.stack.now a.cache.now) k (state c.loop-made.registers c.loop-made.contents c.loop-made.bodies c.loop-made.stack c.loop-made.cache) c.loop-made.answers) all
    (ends_full a.calls.now a.answers.now _ _ _ _ _ c.loop-made.invariant.1 _ c.loop-made.invariant.0.0 c.loop-made-test.false)
