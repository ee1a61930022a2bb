-- By the instruction.
use native.Mathlib.Omega.{arith}
use mathlib.Core.Path.{refl}
use Rattle.bytecode.specs.declared.Instruction.TheVariants.{Push, Store, PopStore, PushSelf, PushConstant, ReturnSelf, ReturnConstant, ReturnTop, Pop, Duplicate, Jump, JumpOn, Send, SuperSend, SpecialSend, Unused}
use Rattle.frames.proofs.ActiveLaws.{ends}
use Rattle.steps.proofs.DoingLaws.{told, storing_kept, storing_popped, store_one, self_pushing, self_done, constant_pushing, constant_done, duplicate_one, duplicate_pushing, duplicate_done, pop_one, pop_done, jump_small, jump_low, jump_done, self_returned, constant_returned, top_one, top_returned, never}
use Rattle.steps.proofs.step.Goals as goal

pub push-requires : goal.push-requires
push-requires c =
    told c.decoded-decoded.ensures (Push _) c.in-Push.is

pub store-requires : goal.store-requires
store-requires c =
    storing_kept (told c.decoded-decoded.ensures (Store _) c.in-Store.is) _ refl

pub overflow_sub-end : goal.overflow_sub-end
overflow_sub-end c =
    let k = store_one (storing_popped (told c.decoded-decoded.ensures (PopStore _) c.in-PopStore.is) _ refl) in
    omega arith

pub store-requires-in-PopStore : goal.store-requires-in-PopStore
store-requires-in-PopStore c =
    storing_popped (told c.decoded-decoded.ensures (PopStore _) c.in-PopStore.is) _ refl

pub overflow_add-w : goal.overflow_add-w
overflow_add-w c =
    let k = ends c.requires in
    omega arith

pub offset_bounds-stack-base : goal.offset_bounds-stack-base
offset_bounds-stack-base c =
    let k = ends c.requires in
    omega arith

pub bounds-stack-base : goal.bounds-stack-base
bounds-stack-base c =
    let k = ends c.requires in
    omega arith

pub push_word-requires : goal.push_word-requires
push_word-requires c =
    self_pushing (told c.decoded-decoded.ensures (PushSelf) c.in-PushSelf.is)

pub push_word-requires-in-PushConstant : goal.push_word-requires-in-PushConstant
push_word-requires-in-PushConstant c =
    constant_pushing (told c.decoded-decoded.ensures (PushConstant _) c.in-PushConstant.is)

pub overflow_add-result : goal.overflow_add-result
overflow_add-result c =
    let k = ends c.requires in
    omega arith

pub offset_bounds-stack-base-in-ReturnSelf : goal.offset_bounds-stack-base-in-ReturnSelf
offset_bounds-stack-base-in-ReturnSelf c =
    let k = ends c.requires in
    omega arith

pub bounds-stack-base-in-ReturnSelf : goal.bounds-stack-base-in-ReturnSelf
bounds-stack-base-in-ReturnSelf c =
    let k = ends c.requires in
    omega arith

pub overflow_sub-at : goal.overflow_sub-at
overflow_sub-at c =
    let k = top_one (told c.decoded-decoded.ensures (ReturnTop) c.in-ReturnTop.is) in
    omega arith

pub offset_bounds-stack-at : goal.offset_bounds-stack-at
offset_bounds-stack-at c =
    let k = ends c.requires in
    omega arith

pub bounds-stack-at : goal.bounds-stack-at
bounds-stack-at c =
    let k = ends c.requires in
    let o = top_one (told c.decoded-decoded.ensures (ReturnTop) c.in-ReturnTop.is) in
    omega arith

pub overflow_sub-result : goal.overflow_sub-result
overflow_sub-result c =
    let k = pop_one (told c.decoded-decoded.ensures (Pop) c.in-Pop.is) in
    omega arith

pub overflow_sub-at-in-Duplicate : goal.overflow_sub-at-in-Duplicate
overflow_sub-at-in-Duplicate c =
    let k = duplicate_one (told c.decoded-decoded.ensures (Duplicate) c.in-Duplicate.is) in
    omega arith

pub offset_bounds-stack-at-in-Duplicate : goal.offset_bounds-stack-at-in-Duplicate
offset_bounds-stack-at-in-Duplicate c =
    let k = ends c.requires in
    omega arith

pub bounds-stack-at-in-Duplicate : goal.bounds-stack-at-in-Duplicate
bounds-stack-at-in-Duplicate c =
    let k = ends c.requires in
    let o = duplicate_one (told c.decoded-decoded.ensures (Duplicate) c.in-Duplicate.is) in
    omega arith

pub push_word-requires-in-Duplicate : goal.push_word-requires-in-Duplicate
push_word-requires-in-Duplicate c =
    duplicate_pushing (told c.decoded-decoded.ensures (Duplicate) c.in-Duplicate.is)

pub overflow_add-result-in-Jump : goal.overflow_add-result-in-Jump
overflow_add-result-in-Jump c =
    let k = jump_small (told c.decoded-decoded.ensures (Jump _ _) c.in-Jump.is) in
    omega arith

pub overflow_sub-result-in-Jump : goal.overflow_sub-result-in-Jump
overflow_sub-result-in-Jump c =
    jump_low (told c.decoded-decoded.ensures (Jump _ _) c.in-Jump.is)

pub jump_on-requires : goal.jump_on-requires
jump_on-requires c =
    told c.decoded-decoded.ensures (JumpOn _ _) c.in-JumpOn.is

pub send-requires : goal.send-requires
send-requires c =
    told c.decoded-decoded.ensures (Send _ _) c.in-Send.is

pub super_send-requires : goal.super_send-requires
super_send-requires c =
    told c.decoded-decoded.ensures (SuperSend _ _) c.in-SuperSend.is

pub arithmetic_send-requires : goal.arithmetic_send-requires
arithmetic_send-requires c =
    (told c.decoded-decoded.ensures (SpecialSend _) c.in-SpecialSend.is, c.if-k-lt16.true)

pub special_send-requires : goal.special_send-requires
special_send-requires c =
    (told c.decoded-decoded.ensures (SpecialSend _) c.in-SpecialSend.is, let h = c.if-k-lt16.false in omega arith)

pub returns-in-PushSelf : goal.returns-in-PushSelf
returns-in-PushSelf c =
    self_done (told c.decoded-decoded.ensures (PushSelf) c.in-PushSelf.is) _ _ c.push_word.ensures

pub returns-in-PushConstant : goal.returns-in-PushConstant
returns-in-PushConstant c =
    constant_done (told c.decoded-decoded.ensures (PushConstant _) c.in-PushConstant.is) _ _ c.push_word-in-PushConstant.ensures

pub returns-in-ReturnSelf : goal.returns-in-ReturnSelf
returns-in-ReturnSelf c =
    self_returned (told c.decoded-decoded.ensures (ReturnSelf) c.in-ReturnSelf.is)

pub returns-in-ReturnConstant : goal.returns-in-ReturnConstant
returns-in-ReturnConstant c =
    constant_returned (told c.decoded-decoded.ensures (ReturnConstant _) c.in-ReturnConstant.is)

pub returns-in-ReturnTop : goal.returns-in-ReturnTop
returns-in-ReturnTop c =
    top_returned (told c.decoded-decoded.ensures (ReturnTop) c.in-ReturnTop.is) _ refl

pub returns-in-Pop : goal.returns-in-Pop
returns-in-Pop c =
    pop_done (told c.decoded-decoded.ensures (Pop) c.in-Pop.is) _ refl

pub returns-in-Duplicate : goal.returns-in-Duplicate
returns-in-Duplicate c =
    duplicate_done (told c.decoded-decoded.ensures (Duplicate) c.in-Duplicate.is) _ _ _ refl c.push_word-in-Duplicate.ensures

pub returns-in-Jump : goal.returns-in-Jump
returns-in-Jump c =
    jump_done (told c.decoded-decoded.ensures (Jump _ _) c.in-Jump.is) _ refl

pub returns-in-Unused : goal.returns-in-Unused
returns-in-Unused c = absurd (never (told c.decoded-decoded.ensures (Unused) c.in-Unused.is))
