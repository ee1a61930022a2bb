use Rattle.std.proofs.Common.{◌+◌, ◌*◌, ◌&&◌, Bool, leb, ap, ◌∙◌}
use Rattle.model.specs.Limits.{entry_words, most_body_words}
use Rattle.model.specs.Primitive.{has_room}
use Rattle.primitives.proofs.Growing.{one_more}
use Rattle.primitives.proofs.has_room.Goals as goal

pub returns : goal.returns
unfolding has_room
returns c =
    let a = c.args in
    λ entries words. c.fits.ensures
    ∙ ap (λ (t : Bool). t && (leb (a.b + a.count) most_body_words && (leb (entry_words * (a.n + 1)) a.contents && leb (a.b + a.count) a.bodies))) (one_more a.n)
