use mathlib.Core.Path.{ap, ◌∙◌}
use native.Mathlib.Omega.{arith}
use Rattle.readers.specs.Header.{flag_of, temporaries_of}
use Rattle.readers.proofs.InsideLaws.{class_inside}
use Rattle.methods.proofs.ShapeLaws.{no_field_flag, field_flag_lem}
use Rattle.methods.proofs.field_fine.Goals as goal

pub returns-then-flag-ne-ANSWER_FIELD : goal.returns-then-flag-ne-ANSWER_FIELD
returns-then-flag-ne-ANSWER_FIELD c =
    no_field_flag _ c.args.m (c.flag.ensures ∙ ap flag_of c.requires.header) c.if-flag-ne-ANSWER_FIELD.true

pub word_of-fields-requires : goal.word_of-fields-requires
word_of-fields-requires c = let p = c.requires in class_inside p.method.laid p.is_class (omega arith)

pub returns : goal.returns
returns c =
    let p = c.requires in
    field_flag_lem _ c.args.m (c.flag.ensures ∙ ap flag_of p.header) c.if-flag-ne-ANSWER_FIELD.false (c.temporary_count.ensures ∙ ap temporaries_of p.header)
    p.home c.word_of-fields.ensures
