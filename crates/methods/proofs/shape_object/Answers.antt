use Rattle.std.proofs.Common.{rules, tests}
use mathlib.Core.Path.{sym, ◌∙◌}
use Rattle.bytecode.proofs.TestLaws.{true→T}
use Rattle.model.specs.Limits.{method_kind}
use Rattle.readers.proofs.Names.{names_kind}
use Rattle.methods.specs.Passes.{shape_fine}
use Rattle.methods.proofs.shape_object.Goals as goal

pub shape-requires : goal.shape-requires
shape-requires c =
    (c.requires.0, true→T (names_kind _ c.args.k method_kind c.requires.1 c.requires.2 (sym c.kind.ensures ∙ c.if-kind-ne-METHOD.false)))

pub returns-then-kind-ne-METHOD : goal.returns-then-kind-ne-METHOD
unfolding shape_fine
returns-then-kind-ne-METHOD c = search (tests, rules)

pub returns-else-kind-ne-METHOD : goal.returns-else-kind-ne-METHOD
unfolding shape_fine
returns-else-kind-ne-METHOD c = search (tests, rules)
