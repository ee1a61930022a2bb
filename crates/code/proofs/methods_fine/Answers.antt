use mathlib.Core.Path.{sym, ◌∙◌}
use native.Mathlib.Omega.{arith}
use Rattle.bytecode.proofs.TestLaws.{true→T}
use Rattle.code.proofs.PassLaws.{seven_shapes, seven_holders, seven_failures, seven_codes, held_counts, zeros_at}
use Rattle.code.proofs.methods_fine.Goals as goal

pub returns-then-not-shapes_fine : goal.returns-then-not-shapes_fine
returns-then-not-shapes_fine c = seven_shapes _ _ _ (sym c.shapes_fine.ensures ∙ c.if-not-shapes_fine.true)

pub count_methods-requires : goal.count_methods-requires
count_methods-requires c =
    let q = c.requires.0.laid.most in
    (c.requires.0, true→T (sym c.shapes_fine.ensures ∙ c.if-not-shapes_fine.false), omega arith, zeros_at 2048)

pub returns-then-not-count_methods : goal.returns-then-not-count_methods
returns-then-not-count_methods c =
    seven_holders _ _ _ _ _ (sym c.shapes_fine.ensures ∙ c.if-not-shapes_fine.false) c.count_methods.ensures (c.if-not-count_methods.true)

pub returns-then-not-failures_fine : goal.returns-then-not-failures_fine
returns-then-not-failures_fine c =
    let held = held_counts _ _ _ c.count_methods.ensures (c.if-not-count_methods.false) in
    seven_failures _ _ _ (sym c.shapes_fine.ensures ∙ c.if-not-shapes_fine.false) held.0
    (sym (c.failures_fine.ensures _ held.1) ∙ c.if-not-failures_fine.true)

pub codes_noted-requires : goal.codes_noted-requires
codes_noted-requires c =
    let laid = c.requires.0.laid in (
      record {
        entries = c.table-table.ensures;
        ready = c.requires.0;
        sends = record {
          entries = laid.entries;
          least = (let q = laid.known in omega arith);
          long = (let q = laid.most in let z = c.count_methods.auto.counts in omega arith);
          counted = (held_counts _ _ _ c.count_methods.ensures (c.if-not-count_methods.false)).1;
        };
        shaped = true→T (sym c.shapes_fine.ensures ∙ c.if-not-shapes_fine.false);
        room = c.requires.1;
        long = omega arith;
      },
      c.requires.2,
    )

pub returns : goal.returns
returns c =
    let held = held_counts _ _ _ c.count_methods.ensures (c.if-not-count_methods.false) in
    seven_codes _ _ _ _ (sym c.shapes_fine.ensures ∙ c.if-not-shapes_fine.false) held.0
    (sym (c.failures_fine.ensures _ held.1) ∙ c.if-not-failures_fine.false) c.codes_noted.ensures
