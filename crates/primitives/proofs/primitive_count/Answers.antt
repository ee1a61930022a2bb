-- The counts, one by one.
use Rattle.std.proofs.Common.{inl, inr, arith}
use Rattle.primitives.proofs.Performing.{count_61, count_62, count_70, count_111, count_one}
use Rattle.primitives.proofs.primitive_count.Goals as goal

pub returns-in-61 : goal.returns-in-61
returns-in-61 c = count_61 c.in-61.is

pub returns-in-62 : goal.returns-in-62
returns-in-62 c = elim c.in-62.is [ inl e ↦ count_62 e | inr f ↦ elim f [ inl e ↦ count_70 e | inr e ↦ count_111 e ] ]

pub returns-in_default : goal.returns-in_default
returns-in_default c = count_one (λ e. grind arith) (λ e. grind arith) (λ e. grind arith) (λ e. grind arith)
