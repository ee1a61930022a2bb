use native.Mathlib.Omega.{arith}
use lib.Bits.{and_le_l}
use Rattle.cache.proofs.Caching.{entry_is}
use Rattle.cache.proofs.entry.Goals as goal

pub overflow_cast-result : goal.overflow_cast-result
overflow_cast-result c = omega (arith, and_le_l c.args.selector c.args.class)

pub returns : goal.returns
returns c = (entry_is _ _, omega arith)
