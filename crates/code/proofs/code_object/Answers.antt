use mathlib.Core.Path.{sym, ap, ◌∙◌}
use native.Mathlib.Omega.{arith}
use Rattle.readers.specs.Header.{runs_of}
use Rattle.code.proofs.LinkFine.{method_word}
use Rattle.code.proofs.PassLaws.{blank_method, object_other, object_sound, object_unsound, asked_at}
use Rattle.code.proofs.code_object.Goals as goal

pub returns-then-kind-ne-METHOD : goal.returns-then-kind-ne-METHOD
returns-then-kind-ne-METHOD c =
    object_other _ _ c.args.k _ c.requires.3 (λ e. c.if-kind-ne-METHOD.true (c.kind.ensures ∙ e))

pub method_notes-requires : goal.method_notes-requires
method_notes-requires c = (
  asked_at c.requires.0 c.args.k c.requires.1 c.requires.2 (sym c.kind.ensures
      ∙ c.if-kind-ne-METHOD.false),
  c.requires.0.room,
  c.requires.0.long,
  blank_method c.requires.0 c.args.notes.now c.args.k c.requires.3,
)

pub returns-then-method_notes : goal.returns-then-method_notes
returns-then-method_notes c =
    object_sound c.requires.0 _ c.args.k _ _ _ c.requires.1 c.requires.2 c.requires.3
    (sym c.kind.ensures ∙ c.if-kind-ne-METHOD.false) c.method_notes.ensures c.if-method_notes.true

pub word_of-header-requires : goal.word_of-header-requires
word_of-header-requires c =
    let p = c.requires in
    method_word (asked_at p.0 c.args.k p.1 p.2 (sym c.kind.ensures ∙ c.if-kind-ne-METHOD.false)) _ (omega arith)

pub returns : goal.returns
returns c =
    let args = c.args in
    object_unsound c.requires.0 _ args.k _ _ _ c.requires.1 c.requires.2 c.requires.3
    (sym c.kind.ensures ∙ c.if-kind-ne-METHOD.false) c.method_notes.ensures c.runs_code.result c.if-method_notes.false
    (c.runs_code.ensures ∙ ap runs_of c.word_of-header.ensures)
