-- Four stores are one entry.
use native.Mathlib.Omega.{arith}
use lib.ListN.{length-set}
use Rattle.primitives.proofs.Growing.{does_append}
use Rattle.primitives.proofs.append.Goals as goal

pub bounds-contents-at-2 : goal.bounds-contents-at-2
bounds-contents-at-2 c = simp length-set (omega arith)

pub bounds-contents-at-3 : goal.bounds-contents-at-3
bounds-contents-at-3 c = simp length-set (omega arith)

pub bounds-contents-at-4 : goal.bounds-contents-at-4
bounds-contents-at-4 c = simp length-set (omega arith)

pub returns : goal.returns
returns c = λ bodies h. does_append _ _ _ _ _ _ c.args.contents.now bodies c.requires.2 h
