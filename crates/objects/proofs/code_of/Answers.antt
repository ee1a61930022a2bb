use mathlib.Core.Path.{ap, ◌∙◌}
use native.Mathlib.Omega.{arith}
use Rattle.readers.specs.Header.{literals_of}
use Rattle.objects.proofs.Bodies.{holds_entry}
use Rattle.objects.proofs.Methods.{code_at, code_fits}
use Rattle.objects.proofs.code_of.Goals as goal

pub start-start-requires : goal.start-start-requires
start-start-requires c = holds_entry c.requires

pub size-size-requires : goal.size-size-requires
size-size-requires c = holds_entry c.requires

pub overflow_sub-result : goal.overflow_sub-result
overflow_sub-result c =
    let literals = c.literal_count-count.ensures ∙ ap literals_of c.header.ensures in
    let f = code_fits c.requires literals c.start-start.ensures c.size-size.ensures in omega arith

pub overflow_sub-result-2 : goal.overflow_sub-result-2
overflow_sub-result-2 c =
    let literals = c.literal_count-count.ensures ∙ ap literals_of c.header.ensures in
    let f = code_fits c.requires literals c.start-start.ensures c.size-size.ensures in omega arith

pub returns : goal.returns
returns c =
    let literals = c.literal_count-count.ensures ∙ ap literals_of c.header.ensures in
    code_at c.requires literals c.start-start.ensures c.size-size.ensures
