use Rattle.std.proofs.Common.{◌+◌, ◌*◌, ◌&&◌, Bool, leb, ap, ◌∙◌}
use Rattle.model.specs.Limits.{entry_words, most_body_words, message_fields}
use Rattle.model.specs.Primitive.{has_message_room}
use Rattle.primitives.proofs.Growing.{two_more}
use Rattle.primitives.proofs.has_message_room.Goals as goal

pub returns : goal.returns
unfolding has_message_room
returns c =
    let a = c.args in
    λ entries words. c.fits.ensures
    ∙ ap (λ (t : Bool). t && (leb (a.b + (a.count + message_fields)) most_body_words
    && (leb (entry_words * (a.n + 2)) a.contents && leb (a.b + (a.count + message_fields)) a.bodies))) (two_more a.n)
