use Prim.Native.Nat.{ℕ, ◌/◌}
use mathlib.Core.Path.{ap, ◌∙◌}
use native.Mathlib.Omega.{arith}
use Rattle.readers.specs.Header.{temporaries_of, literals_of}
use Rattle.readers.proofs.InsideLaws.{class_inside}
use Rattle.readers.proofs.HeaderLaws.{frame_is, small_frame}
use Rattle.code.proofs.LinkFine.{method_word}
use Rattle.code.proofs.CodePlace.{table_here, walked_as, home_class, few_fields}
use Rattle.code.proofs.code_notes.Goals as goal

pub word_of-header-requires : goal.word_of-header-requires
word_of-header-requires c =
    method_word c.requires.0 _ (omega arith)

pub word_of-home-requires : goal.word_of-home-requires
word_of-home-requires c =
    method_word c.requires.0 _ (omega arith)

pub word_of-requires : goal.word_of-requires
word_of-requires c =
    class_inside c.requires.0.ready.laid (home_class c.requires.0 c.word_of-home.ensures) (omega arith)

pub overflow_cast-fields : goal.overflow_cast-fields
overflow_cast-fields c =
    let q = few_fields c.requires.0 c.word_of-home.ensures c.word_of.ensures in omega arith

pub walk-requires : goal.walk-requires
walk-requires c =
    let f = small_frame _ _ c.frame_words-limit.ensures in let lent = c.requires.1 in
    record { asked = c.requires.0; lent = record { entries = c.requires.0.entries; covered = lent.covered; long = c.requires.2; small = lent.small; shallow = f }; blank = c.requires.3 }

pub returns : goal.returns
returns c =
    let h = c.word_of-header.ensures in
    let here = table_here _ c.requires.1 (ap (λ (x : ℕ). x / 2) c.word_of.ensures) c.word_of-home.ensures
    (c.temporary_count-temporaries.ensures ∙ ap temporaries_of h) (c.literal_count-literals.ensures ∙ ap literals_of h) (frame_is _ _ h c.frame_words-limit.ensures) in
    walked_as here c.walk.ensures
