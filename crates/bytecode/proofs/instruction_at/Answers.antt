-- `instruction_at` is the instruction at the position, and the position behind it.
use Prim.Native.Nat.{◌/◌, ◌%◌}
use mathlib.Core.Path.{refl, sym, ap, ◌∙◌}
use Rattle.bytecode.specs.Test.{when◌then◌else◌}
use Rattle.bytecode.specs.Code.{place_of, constant_of, extended_of, instruction_of, length_of}
use Rattle.bytecode.specs.declared.Instruction.TheVariants.{Push, Store, PopStore, Send, SuperSend}
use Rattle.bytecode.proofs.KindLaws.{first_there, further_extended, further_jump, is_single, is_push_field, is_push_temporary, is_push_literal, is_push_variable, is_pop_field, is_pop_temporary, is_unused_low, is_unused_high, is_near, is_near_on, is_far_jump, is_far_on_true, is_far_on_false, is_special, is_literal_send}
use Rattle.bytecode.proofs.instruction_at.Goals as goal

pub fetch-b-requires : goal.fetch-b-requires
fetch-b-requires c = first_there _ _ c.requires.0

pub fetch-requires : goal.fetch-requires
unfolding length_of when◌then◌else◌
fetch-requires c = further_extended _ _ c.fetch-b.ensures c.of.ensures c.in-ExtendedPush.is 1 tt tt c.requires.0

pub fetch-requires-in-ExtendedStore : goal.fetch-requires-in-ExtendedStore
unfolding length_of when◌then◌else◌
fetch-requires-in-ExtendedStore c = further_extended _ _ c.fetch-b.ensures c.of.ensures c.in-ExtendedStore.is 1 tt tt c.requires.0

pub fetch-requires-in-ExtendedPop : goal.fetch-requires-in-ExtendedPop
unfolding length_of when◌then◌else◌
fetch-requires-in-ExtendedPop c = further_extended _ _ c.fetch-b.ensures c.of.ensures c.in-ExtendedPop.is 1 tt tt c.requires.0

pub fetch-x-requires : goal.fetch-x-requires
unfolding length_of when◌then◌else◌
fetch-x-requires c = further_extended _ _ c.fetch-b.ensures c.of.ensures c.in-ExtendedSend.is 1 tt tt c.requires.0

pub fetch-x-requires-in-LongSend : goal.fetch-x-requires-in-LongSend
unfolding length_of when◌then◌else◌
fetch-x-requires-in-LongSend c = further_extended _ _ c.fetch-b.ensures c.of.ensures c.in-LongSend.is 1 tt tt c.requires.0

pub fetch-y-requires : goal.fetch-y-requires
unfolding length_of when◌then◌else◌
fetch-y-requires c =
    further_extended _ _ c.fetch-b.ensures c.of.ensures c.in-LongSend.is 2 tt tt
    c.requires.0

pub fetch-x-requires-in-ExtendedSuper : goal.fetch-x-requires-in-ExtendedSuper
unfolding length_of when◌then◌else◌
fetch-x-requires-in-ExtendedSuper c = further_extended _ _ c.fetch-b.ensures c.of.ensures c.in-ExtendedSuper.is 1 tt tt c.requires.0

pub fetch-x-requires-in-LongSuper : goal.fetch-x-requires-in-LongSuper
unfolding length_of when◌then◌else◌
fetch-x-requires-in-LongSuper c = further_extended _ _ c.fetch-b.ensures c.of.ensures c.in-LongSuper.is 1 tt tt c.requires.0

pub fetch-y-requires-in-LongSuper : goal.fetch-y-requires-in-LongSuper
unfolding length_of when◌then◌else◌
fetch-y-requires-in-LongSuper c =
    further_extended _ _ c.fetch-b.ensures c.of.ensures c.in-LongSuper.is 2 tt tt
    c.requires.0

pub fetch-requires-in-Jump : goal.fetch-requires-in-Jump
fetch-requires-in-Jump c = further_jump _ _ c.fetch-b.ensures c.of.ensures c.in-Jump.is tt c.requires.0

pub fetch-requires-in-JumpOnTrue : goal.fetch-requires-in-JumpOnTrue
fetch-requires-in-JumpOnTrue c = further_jump _ _ c.fetch-b.ensures c.of.ensures c.in-JumpOnTrue.is tt c.requires.0

pub fetch-requires-in-JumpOnFalse : goal.fetch-requires-in-JumpOnFalse
fetch-requires-in-JumpOnFalse c = further_jump _ _ c.fetch-b.ensures c.of.ensures c.in-JumpOnFalse.is tt c.requires.0

pub returns-in-PushField : goal.returns-in-PushField
returns-in-PushField c = is_push_field _ _ c.fetch-b.ensures c.of.ensures c.in-PushField.is tt c.ends.ensures

pub returns-in-PushTemporary : goal.returns-in-PushTemporary
returns-in-PushTemporary c = is_push_temporary _ _ c.fetch-b.ensures c.of.ensures c.in-PushTemporary.is tt c.ends-in-PushTemporary.ensures

pub returns-in-PushLiteral : goal.returns-in-PushLiteral
returns-in-PushLiteral c = is_push_literal _ _ c.fetch-b.ensures c.of.ensures c.in-PushLiteral.is tt c.ends-in-PushLiteral.ensures

pub returns-in-PushLiteralVariable : goal.returns-in-PushLiteralVariable
returns-in-PushLiteralVariable c = is_push_variable _ _ c.fetch-b.ensures c.of.ensures c.in-PushLiteralVariable.is tt c.ends-in-PushLiteralVariable.ensures

pub returns-in-PopField : goal.returns-in-PopField
returns-in-PopField c = is_pop_field _ _ c.fetch-b.ensures c.of.ensures c.in-PopField.is tt c.ends-in-PopField.ensures

pub returns-in-PopTemporary : goal.returns-in-PopTemporary
returns-in-PopTemporary c = is_pop_temporary _ _ c.fetch-b.ensures c.of.ensures c.in-PopTemporary.is tt c.ends-in-PopTemporary.ensures

pub returns-in-PushSelf : goal.returns-in-PushSelf
unfolding instruction_of constant_of length_of when◌then◌else◌
returns-in-PushSelf c = is_single _ _ c.fetch-b.ensures c.of.ensures c.in-PushSelf.is tt refl c.ends-in-PushSelf.ensures

pub returns-in-PushTrue : goal.returns-in-PushTrue
unfolding instruction_of constant_of length_of when◌then◌else◌
returns-in-PushTrue c = is_single _ _ c.fetch-b.ensures c.of.ensures c.in-PushTrue.is tt refl c.ends-in-PushTrue.ensures

pub returns-in-PushFalse : goal.returns-in-PushFalse
unfolding instruction_of constant_of length_of when◌then◌else◌
returns-in-PushFalse c = is_single _ _ c.fetch-b.ensures c.of.ensures c.in-PushFalse.is tt refl c.ends-in-PushFalse.ensures

pub returns-in-PushNil : goal.returns-in-PushNil
unfolding instruction_of constant_of length_of when◌then◌else◌
returns-in-PushNil c = is_single _ _ c.fetch-b.ensures c.of.ensures c.in-PushNil.is tt refl c.ends-in-PushNil.ensures

pub returns-in-PushMinusOne : goal.returns-in-PushMinusOne
unfolding instruction_of constant_of length_of when◌then◌else◌
returns-in-PushMinusOne c = is_single _ _ c.fetch-b.ensures c.of.ensures c.in-PushMinusOne.is tt refl c.ends-in-PushMinusOne.ensures

pub returns-in-PushZero : goal.returns-in-PushZero
unfolding instruction_of constant_of length_of when◌then◌else◌
returns-in-PushZero c = is_single _ _ c.fetch-b.ensures c.of.ensures c.in-PushZero.is tt refl c.ends-in-PushZero.ensures

pub returns-in-PushOne : goal.returns-in-PushOne
unfolding instruction_of constant_of length_of when◌then◌else◌
returns-in-PushOne c = is_single _ _ c.fetch-b.ensures c.of.ensures c.in-PushOne.is tt refl c.ends-in-PushOne.ensures

pub returns-in-PushTwo : goal.returns-in-PushTwo
unfolding instruction_of constant_of length_of when◌then◌else◌
returns-in-PushTwo c = is_single _ _ c.fetch-b.ensures c.of.ensures c.in-PushTwo.is tt refl c.ends-in-PushTwo.ensures

pub returns-in-ReturnSelf : goal.returns-in-ReturnSelf
unfolding instruction_of constant_of length_of when◌then◌else◌
returns-in-ReturnSelf c = is_single _ _ c.fetch-b.ensures c.of.ensures c.in-ReturnSelf.is tt refl c.ends-in-ReturnSelf.ensures

pub returns-in-ReturnTrue : goal.returns-in-ReturnTrue
unfolding instruction_of constant_of length_of when◌then◌else◌
returns-in-ReturnTrue c = is_single _ _ c.fetch-b.ensures c.of.ensures c.in-ReturnTrue.is tt refl c.ends-in-ReturnTrue.ensures

pub returns-in-ReturnFalse : goal.returns-in-ReturnFalse
unfolding instruction_of constant_of length_of when◌then◌else◌
returns-in-ReturnFalse c = is_single _ _ c.fetch-b.ensures c.of.ensures c.in-ReturnFalse.is tt refl c.ends-in-ReturnFalse.ensures

pub returns-in-ReturnNil : goal.returns-in-ReturnNil
unfolding instruction_of constant_of length_of when◌then◌else◌
returns-in-ReturnNil c = is_single _ _ c.fetch-b.ensures c.of.ensures c.in-ReturnNil.is tt refl c.ends-in-ReturnNil.ensures

pub returns-in-ReturnTop : goal.returns-in-ReturnTop
unfolding instruction_of constant_of length_of when◌then◌else◌
returns-in-ReturnTop c = is_single _ _ c.fetch-b.ensures c.of.ensures c.in-ReturnTop.is tt refl c.ends-in-ReturnTop.ensures

pub returns-in-UnusedShort : goal.returns-in-UnusedShort
returns-in-UnusedShort c = is_unused_low _ _ c.fetch-b.ensures c.of.ensures c.in-UnusedShort.is tt c.ends-in-UnusedShort.ensures

pub returns-in-ExtendedPush : goal.returns-in-ExtendedPush
unfolding instruction_of extended_of length_of when◌then◌else◌
returns-in-ExtendedPush c =
    is_single _ _ c.fetch-b.ensures c.of.ensures c.in-ExtendedPush.is tt
    (ap Push (ap place_of (sym c.fetch.ensures) ∙ sym c.place_of.ensures)) c.ends-in-ExtendedPush.ensures

pub returns-in-ExtendedStore : goal.returns-in-ExtendedStore
unfolding instruction_of extended_of length_of when◌then◌else◌
returns-in-ExtendedStore c =
    is_single _ _ c.fetch-b.ensures c.of.ensures c.in-ExtendedStore.is tt
    (ap Store (ap place_of (sym c.fetch-in-ExtendedStore.ensures) ∙ sym c.place_of-in-ExtendedStore.ensures)) c.ends-in-ExtendedStore.ensures

pub returns-in-ExtendedPop : goal.returns-in-ExtendedPop
unfolding instruction_of extended_of length_of when◌then◌else◌
returns-in-ExtendedPop c =
    is_single _ _ c.fetch-b.ensures c.of.ensures c.in-ExtendedPop.is tt
    (ap PopStore (ap place_of (sym c.fetch-in-ExtendedPop.ensures) ∙ sym c.place_of-in-ExtendedPop.ensures)) c.ends-in-ExtendedPop.ensures

pub returns-in-ExtendedSend : goal.returns-in-ExtendedSend
unfolding instruction_of extended_of length_of when◌then◌else◌
returns-in-ExtendedSend c =
    is_single _ _ c.fetch-b.ensures c.of.ensures c.in-ExtendedSend.is tt
    (ap (λ x. Send (x % 32) (x / 32)) (sym c.fetch-x.ensures)) c.ends-in-ExtendedSend.ensures

pub returns-in-LongSend : goal.returns-in-LongSend
unfolding instruction_of extended_of length_of when◌then◌else◌
returns-in-LongSend c =
    is_single _ _ c.fetch-b.ensures c.of.ensures c.in-LongSend.is tt
    (λ i. Send (sym c.fetch-y.ensures i) (sym c.fetch-x-in-LongSend.ensures i)) c.ends-in-LongSend.ensures

pub returns-in-ExtendedSuper : goal.returns-in-ExtendedSuper
unfolding instruction_of extended_of length_of when◌then◌else◌
returns-in-ExtendedSuper c =
    is_single _ _ c.fetch-b.ensures c.of.ensures c.in-ExtendedSuper.is tt
    (ap (λ x. SuperSend (x % 32) (x / 32)) (sym c.fetch-x-in-ExtendedSuper.ensures)) c.ends-in-ExtendedSuper.ensures

pub returns-in-LongSuper : goal.returns-in-LongSuper
unfolding instruction_of extended_of length_of when◌then◌else◌
returns-in-LongSuper c =
    is_single _ _ c.fetch-b.ensures c.of.ensures c.in-LongSuper.is tt
    (λ i. SuperSend (sym c.fetch-y-in-LongSuper.ensures i) (sym c.fetch-x-in-LongSuper.ensures i)) c.ends-in-LongSuper.ensures

pub returns-in-Pop : goal.returns-in-Pop
unfolding instruction_of extended_of length_of when◌then◌else◌
returns-in-Pop c = is_single _ _ c.fetch-b.ensures c.of.ensures c.in-Pop.is tt refl c.ends-in-Pop.ensures

pub returns-in-Duplicate : goal.returns-in-Duplicate
unfolding instruction_of extended_of length_of when◌then◌else◌
returns-in-Duplicate c = is_single _ _ c.fetch-b.ensures c.of.ensures c.in-Duplicate.is tt refl c.ends-in-Duplicate.ensures

pub returns-in-UnusedLong : goal.returns-in-UnusedLong
returns-in-UnusedLong c = is_unused_high _ _ c.fetch-b.ensures c.of.ensures c.in-UnusedLong.is tt c.ends-in-UnusedLong.ensures

pub returns-in-ShortJump : goal.returns-in-ShortJump
returns-in-ShortJump c = is_near _ _ c.fetch-b.ensures c.of.ensures c.in-ShortJump.is tt c.ends-in-ShortJump.ensures

pub returns-in-ShortJumpOn : goal.returns-in-ShortJumpOn
returns-in-ShortJumpOn c = is_near_on _ _ c.fetch-b.ensures c.of.ensures c.in-ShortJumpOn.is tt c.ends-in-ShortJumpOn.ensures

pub returns-in-Jump : goal.returns-in-Jump
returns-in-Jump c =
    is_far_jump _ _ c.fetch-b.ensures c.of.ensures c.in-Jump.is tt
    c.fetch-in-Jump.ensures c.ends-in-Jump.ensures

pub returns-in-JumpOnTrue : goal.returns-in-JumpOnTrue
returns-in-JumpOnTrue c =
    is_far_on_true _ _ c.fetch-b.ensures c.of.ensures c.in-JumpOnTrue.is tt
    c.fetch-in-JumpOnTrue.ensures c.ends-in-JumpOnTrue.ensures

pub returns-in-JumpOnFalse : goal.returns-in-JumpOnFalse
returns-in-JumpOnFalse c =
    is_far_on_false _ _ c.fetch-b.ensures c.of.ensures c.in-JumpOnFalse.is tt
    c.fetch-in-JumpOnFalse.ensures c.ends-in-JumpOnFalse.ensures

pub returns-in-Special0 : goal.returns-in-Special0
returns-in-Special0 c = is_special _ _ c.fetch-b.ensures c.of.ensures c.in-Special0.is tt tt c.ends-in-Special0.ensures

pub returns-in-Special1 : goal.returns-in-Special1
returns-in-Special1 c = is_special _ _ c.fetch-b.ensures c.of.ensures c.in-Special1.is tt tt c.ends-in-Special1.ensures

pub returns-in-Special2 : goal.returns-in-Special2
returns-in-Special2 c = is_special _ _ c.fetch-b.ensures c.of.ensures c.in-Special2.is tt tt c.ends-in-Special2.ensures

pub returns-in-Special3 : goal.returns-in-Special3
returns-in-Special3 c = is_special _ _ c.fetch-b.ensures c.of.ensures c.in-Special3.is tt tt c.ends-in-Special3.ensures

pub returns-in-Special4 : goal.returns-in-Special4
returns-in-Special4 c = is_special _ _ c.fetch-b.ensures c.of.ensures c.in-Special4.is tt tt c.ends-in-Special4.ensures

pub returns-in-Special5 : goal.returns-in-Special5
returns-in-Special5 c = is_special _ _ c.fetch-b.ensures c.of.ensures c.in-Special5.is tt tt c.ends-in-Special5.ensures

pub returns-in-Special6 : goal.returns-in-Special6
returns-in-Special6 c = is_special _ _ c.fetch-b.ensures c.of.ensures c.in-Special6.is tt tt c.ends-in-Special6.ensures

pub returns-in-Special7 : goal.returns-in-Special7
returns-in-Special7 c = is_special _ _ c.fetch-b.ensures c.of.ensures c.in-Special7.is tt tt c.ends-in-Special7.ensures

pub returns-in-Special8 : goal.returns-in-Special8
returns-in-Special8 c = is_special _ _ c.fetch-b.ensures c.of.ensures c.in-Special8.is tt tt c.ends-in-Special8.ensures

pub returns-in-Special9 : goal.returns-in-Special9
returns-in-Special9 c = is_special _ _ c.fetch-b.ensures c.of.ensures c.in-Special9.is tt tt c.ends-in-Special9.ensures

pub returns-in-Special10 : goal.returns-in-Special10
returns-in-Special10 c = is_special _ _ c.fetch-b.ensures c.of.ensures c.in-Special10.is tt tt c.ends-in-Special10.ensures

pub returns-in-Special11 : goal.returns-in-Special11
returns-in-Special11 c = is_special _ _ c.fetch-b.ensures c.of.ensures c.in-Special11.is tt tt c.ends-in-Special11.ensures

pub returns-in-Special12 : goal.returns-in-Special12
returns-in-Special12 c = is_special _ _ c.fetch-b.ensures c.of.ensures c.in-Special12.is tt tt c.ends-in-Special12.ensures

pub returns-in-Special13 : goal.returns-in-Special13
returns-in-Special13 c = is_special _ _ c.fetch-b.ensures c.of.ensures c.in-Special13.is tt tt c.ends-in-Special13.ensures

pub returns-in-Special14 : goal.returns-in-Special14
returns-in-Special14 c = is_special _ _ c.fetch-b.ensures c.of.ensures c.in-Special14.is tt tt c.ends-in-Special14.ensures

pub returns-in-Special15 : goal.returns-in-Special15
returns-in-Special15 c = is_special _ _ c.fetch-b.ensures c.of.ensures c.in-Special15.is tt tt c.ends-in-Special15.ensures

pub returns-in-Special16 : goal.returns-in-Special16
returns-in-Special16 c = is_special _ _ c.fetch-b.ensures c.of.ensures c.in-Special16.is tt tt c.ends-in-Special16.ensures

pub returns-in-Special17 : goal.returns-in-Special17
returns-in-Special17 c = is_special _ _ c.fetch-b.ensures c.of.ensures c.in-Special17.is tt tt c.ends-in-Special17.ensures

pub returns-in-Special18 : goal.returns-in-Special18
returns-in-Special18 c = is_special _ _ c.fetch-b.ensures c.of.ensures c.in-Special18.is tt tt c.ends-in-Special18.ensures

pub returns-in-Special19 : goal.returns-in-Special19
returns-in-Special19 c = is_special _ _ c.fetch-b.ensures c.of.ensures c.in-Special19.is tt tt c.ends-in-Special19.ensures

pub returns-in-Special20 : goal.returns-in-Special20
returns-in-Special20 c = is_special _ _ c.fetch-b.ensures c.of.ensures c.in-Special20.is tt tt c.ends-in-Special20.ensures

pub returns-in-Special21 : goal.returns-in-Special21
returns-in-Special21 c = is_special _ _ c.fetch-b.ensures c.of.ensures c.in-Special21.is tt tt c.ends-in-Special21.ensures

pub returns-in-Special22 : goal.returns-in-Special22
returns-in-Special22 c = is_special _ _ c.fetch-b.ensures c.of.ensures c.in-Special22.is tt tt c.ends-in-Special22.ensures

pub returns-in-Special23 : goal.returns-in-Special23
returns-in-Special23 c = is_special _ _ c.fetch-b.ensures c.of.ensures c.in-Special23.is tt tt c.ends-in-Special23.ensures

pub returns-in-Special24 : goal.returns-in-Special24
returns-in-Special24 c = is_special _ _ c.fetch-b.ensures c.of.ensures c.in-Special24.is tt tt c.ends-in-Special24.ensures

pub returns-in-Special25 : goal.returns-in-Special25
returns-in-Special25 c = is_special _ _ c.fetch-b.ensures c.of.ensures c.in-Special25.is tt tt c.ends-in-Special25.ensures

pub returns-in-Special26 : goal.returns-in-Special26
returns-in-Special26 c = is_special _ _ c.fetch-b.ensures c.of.ensures c.in-Special26.is tt tt c.ends-in-Special26.ensures

pub returns-in-Special27 : goal.returns-in-Special27
returns-in-Special27 c = is_special _ _ c.fetch-b.ensures c.of.ensures c.in-Special27.is tt tt c.ends-in-Special27.ensures

pub returns-in-Special28 : goal.returns-in-Special28
returns-in-Special28 c = is_special _ _ c.fetch-b.ensures c.of.ensures c.in-Special28.is tt tt c.ends-in-Special28.ensures

pub returns-in-Special29 : goal.returns-in-Special29
returns-in-Special29 c = is_special _ _ c.fetch-b.ensures c.of.ensures c.in-Special29.is tt tt c.ends-in-Special29.ensures

pub returns-in-Special30 : goal.returns-in-Special30
returns-in-Special30 c = is_special _ _ c.fetch-b.ensures c.of.ensures c.in-Special30.is tt tt c.ends-in-Special30.ensures

pub returns-in-Special31 : goal.returns-in-Special31
returns-in-Special31 c = is_special _ _ c.fetch-b.ensures c.of.ensures c.in-Special31.is tt tt c.ends-in-Special31.ensures

pub returns-in-SendNone : goal.returns-in-SendNone
returns-in-SendNone c = is_literal_send _ _ c.fetch-b.ensures c.of.ensures c.in-SendNone.is tt c.ends-in-SendNone.ensures

pub returns-in-SendOne : goal.returns-in-SendOne
returns-in-SendOne c = is_literal_send _ _ c.fetch-b.ensures c.of.ensures c.in-SendOne.is tt c.ends-in-SendOne.ensures

pub returns-in-SendTwo : goal.returns-in-SendTwo
returns-in-SendTwo c = is_literal_send _ _ c.fetch-b.ensures c.of.ensures c.in-SendTwo.is tt c.ends-in-SendTwo.ensures
