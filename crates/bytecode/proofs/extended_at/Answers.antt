-- `extended_at` is `decode_at` at a byte from 128 to 134.
use mathlib.Core.Path.{sym, ◌∙◌}
use native.Mathlib.Omega.{arith}
use Rattle.bytecode.proofs.CodeLaws.{length_extended, length_double, length_further, is_extended}
use Rattle.bytecode.proofs.DecodeLaws.{cut, decoded}
use Rattle.bytecode.proofs.extended_at.Goals as goal

pub returns-then-size-at-lt2 : goal.returns-then-size-at-lt2
returns-then-size-at-lt2 c = let pre = c.requires in cut _ _ pre.1 _ (omega (arith, length_further _ pre.2 pre.3))

pub extended-requires : goal.extended-requires
extended-requires c = let pre = c.requires in (pre.2, omega arith, λ e. omega arith)

pub returns-then-b-lt132 : goal.returns-then-b-lt132
returns-then-b-lt132 c =
    let pre = c.requires in
    let two = length_extended _ pre.2 (omega arith) (λ e. omega arith) in
    c.extended.ensures _ c.byte_after-x.ensures
    ∙ sym (is_extended _ _ pre.2 (omega arith)) ∙ decoded _ _ pre.1 _ (omega (arith, two))

pub extended-requires-then-b-eq133 : goal.extended-requires-then-b-eq133
extended-requires-then-b-eq133 c = let pre = c.requires in (pre.2, omega arith, λ e. omega arith)

pub returns-then-b-eq133 : goal.returns-then-b-eq133
returns-then-b-eq133 c =
    let pre = c.requires in
    let two = length_extended _ pre.2 (omega arith) (λ e. omega arith) in
    c.extended-then-b-eq133.ensures _ c.byte_after-x.ensures
    ∙ sym (is_extended _ _ pre.2 (omega arith)) ∙ decoded _ _ pre.1 _ (omega (arith, two))

pub returns-then-size-at-lt3 : goal.returns-then-size-at-lt3
returns-then-size-at-lt3 c =
    let pre = c.requires in
    cut _ _ pre.1 _ (omega (arith, length_double _ c.if-b-lt132.false pre.3 c.if-b-eq133.false))

pub double_extended-requires : goal.double_extended-requires
double_extended-requires c = (c.if-b-lt132.false, c.requires.3, c.if-b-eq133.false)

pub returns : goal.returns
returns c =
    let pre = c.requires in
    let low = c.if-b-lt132.false in
    let long = length_double _ low pre.3 c.if-b-eq133.false in
    c.double_extended.ensures _ c.byte_after-x.ensures c.byte_after.ensures
    ∙ sym (is_extended _ _ pre.2 (omega arith)) ∙ decoded _ _ pre.1 _ (omega (arith, long))
