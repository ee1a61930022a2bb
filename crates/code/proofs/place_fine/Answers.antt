use mathlib.Core.Path.{◌∙◌}
use native.Mathlib.Omega.{arith}
use Rattle.code.proofs.LinkFine.{method_entry, place_alone, place_variable, variable_small}
use Rattle.code.proofs.place_fine.Goals as goal

pub literal_word-requires : goal.literal_word-requires
literal_word-requires c = let p = c.requires in
    (method_entry p.0, p.0.ready.laid.words, omega (arith, variable_small c.in-LiteralVariable.is p.1))

pub returns-in-Field : goal.returns-in-Field
returns-in-Field c = place_alone _ _ c.in-Field.is

pub returns-in-LiteralVariable : goal.returns-in-LiteralVariable
returns-in-LiteralVariable c = c.variable_fine.ensures _ _ ∙ place_variable _ _ c.in-LiteralVariable.is c.literal_word.ensures
