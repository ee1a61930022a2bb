use mathlib.Core.Path.{sym, ◌∙◌}
use mathlib.Core.Logic.{inl, inr}
use native.Mathlib.Omega.{arith}
use Rattle.model.proofs.Facts.{most, most_words}
use Rattle.messages.proofs.Resending.{sought_found, not_sought}
use Rattle.messages.proofs.sought.Goals as goal

pub returns-then-not-has_messages : goal.returns-then-not-has_messages
returns-then-not-has_messages c =
    not_sought c.args.edition _ _ _ _ _ _ c.nothing.ensures (inl (sym c.has_messages.ensures ∙ c.if-not-has_messages.true))

pub cached-lookup-requires : goal.cached-lookup-requires
cached-lookup-requires c =
    record { right = c.requires.right; starts = c.requires.starts; caches = c.requires.caches; named = omega arith }

pub has_message_room-requires : goal.has_message_room-requires
has_message_room-requires c =
    (most c.requires.right.1, most_words c.requires.right.1, c.requires.few)

pub returns-then-not-has_message_room : goal.returns-then-not-has_message_room
returns-then-not-has_message_room c =
    not_sought c.args.edition _ _ _ _ _ _ c.nothing-then-not-has_message_room.ensures (inr (inr (sym (c.has_message_room.ensures c.args.memory.now.contents.now c.args.memory.now.bodies.now) ∙ c.if-not-has_message_room.true)))

pub returns : goal.returns
returns c =
    sought_found c.args.edition _ _ _ _ _ _ _ c.cached-lookup.ensures.finds c.cached-lookup.ensures.reads (sym c.has_messages.ensures ∙ c.if-not-has_messages.false) (sym (c.has_message_room.ensures c.args.memory.now.contents.now c.args.memory.now.bodies.now) ∙ c.if-not-has_message_room.false)
