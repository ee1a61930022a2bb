use Prim.Native.Nat.{ℕ}
use native.Mathlib.Omega.{arith}
use lib.ListN.{length-replicate}
use Rattle.code.proofs.PassLaws.{zeros_at}
use Rattle.machine.proofs.noted.Goals as goal

pub whole_as_slice-noted_fine : goal.whole_as_slice-noted_fine
whole_as_slice-noted_fine g c = let l = c.requires.first_parts.2 in omega arith

pub noted_fine-requires : goal.noted_fine-requires
noted_fine-requires g c =
    let q = length-replicate {A = ℕ} g.row.BYTES 0 in let l = c.requires.first_parts.1 in
    record { t = c.requires.t; first_parts = (c.requires.first_parts.0, omega arith, zeros_at g.row.BYTES) }
