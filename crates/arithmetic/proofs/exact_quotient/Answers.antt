-- `arithmetic::exact_quotient` meets its contract.
use Rattle.std.proofs.Common.{sym, ap, ap₂, ◌∙◌}
use Rattle.std.specs.Int.Signed.{quot_z, rem_z}
use mir.Syntax.{w32}
use mir.Val.{to_z, of_z}
use Rattle.model.specs.Arithmetic.{number}
use Rattle.arithmetic.proofs.Machine.{read, gives}
use Rattle.arithmetic.proofs.Quotients.{exact, inexact, plain_fits, remainder_fits}
use Rattle.arithmetic.proofs.exact_quotient.Goals as goal

pub returns-then-a-b-eq0 : goal.returns-then-a-b-eq0
returns-then-a-b-eq0 c =
    let s = c.requires in
    let e = gives rem_z (read c.ranges.a) (read c.ranges.b) (remainder_fits c.args.a c.args.b s.0 s.1.0) in
    c.number.ensures
    ∙ ap number (gives quot_z (read c.ranges.a) (read c.ranges.b) (plain_fits c.args.a c.args.b s.0 s.1.0))
    ∙ sym (exact c.args.a c.args.b (sym e ∙ ap (to_z w32) c.if-a-b-eq0.true) s.1.1)

pub returns-else-a-b-eq0 : goal.returns-else-a-b-eq0
returns-else-a-b-eq0 c =
    sym (inexact c.args.a c.args.b (λ e. c.if-a-b-eq0.false (ap (of_z w32) (ap₂ rem_z (read c.ranges.a) (read c.ranges.b) ∙ e))))
