use Prim.Native.Nat.{ℕ, ◌/◌, ◌<◌}
use mathlib.Core.Path.{refl, ap}
use native.Mathlib.Omega.{arith}
use Rattle.objects.proofs.Bodies.{holds_entry}
use Rattle.objects.proofs.Searches.{pairs_inside, none_found, none_read, place_fits, place_found, place_missed, place_read}
use Rattle.objects.proofs.find_in.Goals as goal

pub start-from-requires : goal.start-from-requires
start-from-requires c = holds_entry c.requires.holds

pub size-requires : goal.size-requires
size-requires c = holds_entry c.requires.holds

pub returns-then-count-eq0 : goal.returns-then-count-eq0
returns-then-count-eq0 c =
    let s = c.args.s in
    let from = c.start-from.ensures in
    let count = ap (λ (x : ℕ). x / 2) c.size.ensures in
    record { finds = none_found c.requires s from count c.if-count-eq0.true; walks = refl; reads = none_read c.requires s from count c.if-count-eq0.true }

pub first_place-at-requires : goal.first_place-at-requires
first_place-at-requires c =
    let some = c.if-count-eq0.false in
    let l : 0 < c.size.result / 2 = omega arith in
    (l, pairs_inside c.requires c.args.s c.start-from.ensures (ap (λ (x : ℕ). x / 2) c.size.ensures) l)

pub bounds-memory-at : goal.bounds-memory-at
bounds-memory-at c =
    let l = place_fits c.requires c.args.s c.start-from.ensures (ap (λ (x : ℕ). x / 2) c.size.ensures)
    c.first_place-at.ensures in omega arith

pub bounds-memory-at-then-memory-at : goal.bounds-memory-at-then-memory-at
bounds-memory-at-then-memory-at c =
    place_fits c.requires c.args.s c.start-from.ensures (ap (λ (x : ℕ). x / 2) c.size.ensures) c.first_place-at.ensures

pub returns-then-memory-at : goal.returns-then-memory-at
returns-then-memory-at c =
    let s = c.args.s in
    let from = c.start-from.ensures in
    let count = ap (λ (x : ℕ). x / 2) c.size.ensures in
    let place = c.first_place-at.ensures in
    record { finds = place_found c.requires s from count place c.if-memory-at.true; walks = refl; reads = place_read c.requires s from count place }

pub returns-else-memory-at : goal.returns-else-memory-at
returns-else-memory-at c =
    let s = c.args.s in
    let from = c.start-from.ensures in
    let count = ap (λ (x : ℕ). x / 2) c.size.ensures in
    let place = c.first_place-at.ensures in
    record { finds = place_missed c.requires s from count place c.if-memory-at.false; walks = refl; reads = place_read c.requires s from count place }
