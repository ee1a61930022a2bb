use native.Mathlib.Omega.{arith}
use Rattle.calls.proofs.Lists.{listed_begin}
use Rattle.calls.proofs.begin_at.Goals as goal

pub returns : goal.returns
returns c =
    (listed_begin c.args.calls.now c.args.i, (omega arith, omega (arith, c.requires)))
