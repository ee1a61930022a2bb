-- `valid_words` tests every word.
use Rattle.std.proofs.Common.{rules, tests}
use Rattle.std.proofs.lemmas.Iterator.{YieldsList-from_slice}
use Rattle.std.proofs.lemmas.Iterator.Search.{all_from_yields_List}
use Rattle.model.specs.Word.{is_valid}
use Rattle.readers.proofs.valid_words.Goals as goal

pub returns : goal.returns
returns c =
    all_from_yields_List (is_valid c.args.n) _ _ _ c.all.ensures.ran (YieldsList-from_slice c.args.words.now cc) (λ x b q k. search (rules, tests))
