-- The image has the words that its header names.
use Prim.Native.Nat.{◌+◌, ◌*◌}
use mathlib.Core.Path.{ap, ◌∙◌}
use mathlib.Core.List.{◌++◌}
use native.Mathlib.Omega.{arith}
use lib.ListN.{drop}
use lib.Seq.{length-take-le}
use Rattle.model.specs.Limits.{header_words, entry_words}
use Rattle.model.specs.Objects.{part}
use Rattle.model.specs.Image.{words_of, objects_in, image_objects}
use Rattle.image.proofs.RoundTrip.{exact}
use Rattle.image.proofs.place.Goals as goal

pub read_words-requires : goal.read_words-requires
read_words-requires c =
    let e = exact _ c.requires.0 in
    let p = c.requires.1 in
    let q = c.requires.2 in
    let l = length-take-le (entry_words * c.args.n) c.args.contents.now c.requires.3 in omega arith

pub read_words-requires-2 : goal.read_words-requires-2
read_words-requires-2 c =
    let e = exact _ c.requires.0 in
    let p = c.requires.1 in
    let q = c.requires.2 in let l = length-take-le c.args.b c.args.bodies.now c.requires.4 in omega arith

pub returns : goal.returns
unfolding image_objects objects_in
returns c =
    let args = c.args in
    let words = words_of args.image.now in
    let entries = entry_words * args.n in
    rw (c.requires.1, c.requires.2) (
      ap (λ l. l ++ drop entries args.contents.now)
          (c.read_words.ensures ∙ ap (part words header_words) (length-take-le entries args.contents.now c.requires.3)),
      ap (λ l. l ++ drop args.b args.bodies.now)
          (c.read_words-2.ensures
          ∙ ap (part words (header_words + entries)) (length-take-le args.b args.bodies.now c.requires.4)),
    )
