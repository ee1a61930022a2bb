-- Each rule that fails gives its number, once those before it hold.
use mathlib.Core.Path.{sym, ap, ◌∙◌}
use native.Mathlib.Omega.{arith}
use Rattle.bytecode.proofs.TestLaws.{true→T}
use Rattle.store.specs.Answer.{number_of}
use Rattle.rules.proofs.Laid.{layout_laid}
use Rattle.model.proofs.OrderLaws.{gives_4, gives_5, gives_14, gives_6, gives_7, gives_8, gives_none}
use Rattle.store.proofs.judge.Goals as goal

pub returns-then-not-layout : goal.returns-then-not-layout
unfolding number_of
returns-then-not-layout c =
    record {
      answer = sym (ap number_of (gives_4 _ _ _ _ (sym c.layout.ensures ∙ c.if-not-layout.true)));
      noted = λ e. absurd (omega (arith, e));
    }

pub words-requires : goal.words-requires
words-requires c = layout_laid _ _ _ _ _ c.requires.0 (sym c.layout.ensures ∙ c.if-not-layout.false)

pub returns-then-not-words : goal.returns-then-not-words
unfolding number_of
returns-then-not-words c =
    record {
      answer = sym (ap number_of (gives_5 _ _ _ _ (sym c.layout.ensures ∙ c.if-not-layout.false)
          (sym c.words.ensures ∙ c.if-not-words.true)));
      noted = λ e. absurd (omega (arith, e));
    }

pub chains-requires : goal.chains-requires
chains-requires c =
    layout_laid _ _ _ _ _ c.requires.0 (sym c.layout.ensures ∙ c.if-not-layout.false)

pub returns-then-not-chains : goal.returns-then-not-chains
unfolding number_of
returns-then-not-chains c =
    record {
      answer = sym (ap number_of (gives_14 _ _ _ _ (sym c.layout.ensures ∙ c.if-not-layout.false) (sym c.words.ensures
          ∙ c.if-not-words.false) (sym c.chains.ensures ∙ c.if-not-chains.true)));
      noted = λ e. absurd (omega (arith, e));
    }

pub classes-requires : goal.classes-requires
classes-requires c =
    (layout_laid _ _ _ _ _ c.requires.0 (sym c.layout.ensures ∙ c.if-not-layout.false), c.requires.0.least)

pub returns-then-not-classes : goal.returns-then-not-classes
unfolding number_of
returns-then-not-classes c =
    record {
      answer = sym (ap number_of (gives_6 _ _ _ _ (sym c.layout.ensures ∙ c.if-not-layout.false) (sym c.words.ensures
          ∙ c.if-not-words.false) (sym c.chains.ensures ∙ c.if-not-chains.false)
          (sym c.classes.ensures ∙ c.if-not-classes.true)));
      noted = λ e. absurd (omega (arith, e));
    }

pub methods_fine-requires : goal.methods_fine-requires
methods_fine-requires c = (
  record {
    edition = c.args.edition;
    laid = layout_laid _ _ _ _ _ c.requires.0 (sym c.layout.ensures ∙ c.if-not-layout.false);
    layout = true→T (sym c.layout.ensures ∙ c.if-not-layout.false);
    classes = true→T (sym c.classes.ensures
        ∙ c.if-not-classes.false);
  },
  c.requires.1,
  c.requires.2,
)

pub returns-then-not-methods_fine : goal.returns-then-not-methods_fine
unfolding number_of
returns-then-not-methods_fine c =
    record {
      answer = sym (ap number_of (gives_7 _ _ _ _ (sym c.layout.ensures ∙ c.if-not-layout.false) (sym c.words.ensures
          ∙ c.if-not-words.false) (sym c.chains.ensures ∙ c.if-not-chains.false) (sym c.classes.ensures
          ∙ c.if-not-classes.false) (sym c.methods_fine.ensures.answer ∙ c.if-not-methods_fine.true)));
      noted = λ e. absurd (omega (arith, e));
    }

pub returns-then-not-starts_fine : goal.returns-then-not-starts_fine
unfolding number_of
returns-then-not-starts_fine c =
    record {
      answer = sym (ap number_of (gives_8 _ _ _ _ (sym c.layout.ensures ∙ c.if-not-layout.false) (sym c.words.ensures
          ∙ c.if-not-words.false) (sym c.chains.ensures ∙ c.if-not-chains.false) (sym c.classes.ensures
          ∙ c.if-not-classes.false) (sym c.methods_fine.ensures.answer ∙ c.if-not-methods_fine.false)
          (sym (c.starts_fine.ensures _ _) ∙ c.if-not-starts_fine.true)));
      noted = λ e. absurd (omega (arith, e));
    }

pub returns : goal.returns
unfolding number_of
returns c =
    record {
      answer = sym (ap number_of (gives_none _ _ _ _ (sym c.layout.ensures ∙ c.if-not-layout.false) (sym c.words.ensures
          ∙ c.if-not-words.false) (sym c.chains.ensures ∙ c.if-not-chains.false) (sym c.classes.ensures
          ∙ c.if-not-classes.false) (sym c.methods_fine.ensures.answer ∙ c.if-not-methods_fine.false)
          (sym (c.starts_fine.ensures _ _) ∙ c.if-not-starts_fine.false)));
      noted = λ e. c.methods_fine.ensures.noted (c.if-not-methods_fine.false);
    }
