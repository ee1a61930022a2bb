-- `arithmetic::arithmetic` meets its contract: each arm but the last is one line of the definition.
use Rattle.std.proofs.Common.{◌≡◌, ℕ, ◌*◌, ◌%◌, ◌<◌, ◌≤◌, Bool, true, ◌&&◌, not, eqb, leb, ℤ, pos, ◌+ℤ◌, ◌-ℤ◌, ◌*ℤ◌, refl, sym, ap, ap₂, ◌∙◌, arith}
use Rattle.std.specs.Int.Signed.{mag, lt_z, le_z}
use mir.Syntax.{w32}
use mir.Val.{SFits, to_z, of_z}
use Rattle.bytecode.specs.Test.{when◌then◌else◌}
use Rattle.model.specs.Word.{value_of}
use Rattle.model.specs.Arithmetic.{number, truth, on_bits, on_integers, arithmetic}
use Rattle.arithmetic.specs.Tagged.{tagged}
use Rattle.arithmetic.proofs.Machine.{literal, asks, gives}
use Rattle.arithmetic.proofs.Magnitude.{product_fits}
use Rattle.arithmetic.proofs.Values.{value_mag, read_value}
use Rattle.arithmetic.proofs.Equality.{equal_words}
use Rattle.arithmetic.proofs.Tags.{signed_mag, read_signed, signed_sum, sum_less, signed_difference, difference_more, tagged_sum, tagged_difference, tagged_less, tagged_most}
use Rattle.arithmetic.proofs.Dispatch.{bitwise, numbered, both_integers, not_both_integers}
use Rattle.arithmetic.proofs.arithmetic.Goals as goal

-- two words of integers
module _ (k v w : ℕ) (fv : v < 65536) (fw : w < 65536) (t : v % 2 * (w % 2) ≡ 1) where
  odd : (v % 2 ≡ 1) × (w % 2 ≡ 1)
  odd = both_integers v w t

  abbrev a : ℤ
  a = value_of v

  abbrev b : ℤ
  b = value_of w

  product : SFits w32 (a *ℤ b)
  product = product_fits a b (value_mag v fv) (value_mag w fw)

  -- what the machine reads of the integers, and of their signed words
  read_a : {z : ℤ} → z ≡ a → to_z w32 (of_z w32 z) ≡ a
  read_a e = read_value v fv e

  read-b : {z : ℤ} → z ≡ b → to_z w32 (of_z w32 z) ≡ b
  read-b e = read_value w fw e

  read-v : {z : ℤ} → z ≡ tagged a → to_z w32 (of_z w32 z) ≡ tagged a
  read-v e = read_signed v fv e

  read-w : {z : ℤ} → z ≡ tagged b → to_z w32 (of_z w32 z) ≡ tagged b
  read-w e = read_signed w fw e

  abbrev mv : mag (tagged a) ≤ 32767
  mv = signed_mag v fv

  abbrev mw : mag (tagged b) ≤ 32767
  mw = signed_mag w fw

  -- the sum and the difference of the signed words
  module _ {x y : ℤ} (e : x ≡ tagged a) (f : y ≡ tagged b) where
    sum-asks : SFits w32 (to_z w32 (of_z w32 x) +ℤ to_z w32 (of_z w32 y))
    sum-asks = asks ◌+ℤ◌ (read-v e) (read-w f) (signed_sum (tagged a) (tagged b) mv mw)

    read-sum : to_z w32 (of_z w32 (to_z w32 (of_z w32 x) +ℤ to_z w32 (of_z w32 y))) ≡ tagged a +ℤ tagged b
    read-sum = gives ◌+ℤ◌ (read-v e) (read-w f) (signed_sum (tagged a) (tagged b) mv mw)

    difference-asks : SFits w32 (to_z w32 (of_z w32 x) -ℤ to_z w32 (of_z w32 y))
    difference-asks = asks ◌-ℤ◌ (read-v e) (read-w f) (signed_difference (tagged a) (tagged b) mv mw)

    read-difference : to_z w32 (of_z w32 (to_z w32 (of_z w32 x) -ℤ to_z w32 (of_z w32 y))) ≡ tagged a -ℤ tagged b
    read-difference = gives ◌-ℤ◌ (read-v e) (read-w f) (signed_difference (tagged a) (tagged b) mv mw)

  line : (j : ℕ) → k ≡ j → j < 14 → on_integers j a b ≡ arithmetic k v w
  line j e h = sym (numbered k v w odd.0 odd.1 j e h)

  bits : (j : ℕ) → k ≡ j → (leb 14 j && leb j 16) ≡ true → on_bits j v w ≡ arithmetic k v w
  bits j e h =
      sym
      (bitwise k v w odd.0 odd.1 (ap (λ (i : ℕ). leb 14 i && leb i 16) e ∙ h)
      ∙ ap (λ (i : ℕ). on_bits i v w) e)

  equal : eqb v w ≡ (le_z a b && le_z b a)
  equal = equal_words v w fv fw odd.0 odd.1

pub returns-then-v-w-ne1 : goal.returns-then-v-w-ne1
returns-then-v-w-ne1 c = sym (not_both_integers c.args.k c.args.v c.args.w c.if-v-w-ne1.true)

pub overflow_add-signed : goal.overflow_add-signed
overflow_add-signed c = sum-asks c.args.k c.args.v c.args.w c.ranges.v.fits c.ranges.w.fits c.if-v-w-ne1.false c.signed.ensures c.signed-in-1.ensures

pub overflow_sub-signed : goal.overflow_sub-signed
overflow_sub-signed c =
    asks ◌-ℤ◌ (read-sum c.args.k c.args.v c.args.w c.ranges.v.fits c.ranges.w.fits c.if-v-w-ne1.false c.signed.ensures c.signed-in-1.ensures) (literal (pos 1)) (sum_less (tagged (value_of c.args.v)) (tagged (value_of c.args.w)) (mv c.args.k c.args.v c.args.w c.ranges.v.fits c.ranges.w.fits c.if-v-w-ne1.false) (mw c.args.k c.args.v c.args.w c.ranges.v.fits c.ranges.w.fits c.if-v-w-ne1.false))

pub overflow_sub-signed-in-2 : goal.overflow_sub-signed-in-2
overflow_sub-signed-in-2 c = difference-asks c.args.k c.args.v c.args.w c.ranges.v.fits c.ranges.w.fits c.if-v-w-ne1.false c.signed-in-2.ensures c.signed-in-2-2.ensures

pub overflow_add-signed-in-2 : goal.overflow_add-signed-in-2
overflow_add-signed-in-2 c =
    asks ◌+ℤ◌ (read-difference c.args.k c.args.v c.args.w c.ranges.v.fits c.ranges.w.fits c.if-v-w-ne1.false c.signed-in-2.ensures c.signed-in-2-2.ensures) (literal (pos 1)) (difference_more (tagged (value_of c.args.v)) (tagged (value_of c.args.w)) (mv c.args.k c.args.v c.args.w c.ranges.v.fits c.ranges.w.fits c.if-v-w-ne1.false) (mw c.args.k c.args.v c.args.w c.ranges.v.fits c.ranges.w.fits c.if-v-w-ne1.false))

pub overflow_mul-value : goal.overflow_mul-value
overflow_mul-value c = asks ◌*ℤ◌ (read_a c.args.k c.args.v c.args.w c.ranges.v.fits c.ranges.w.fits c.if-v-w-ne1.false c.value.ensures) (read-b c.args.k c.args.v c.args.w c.ranges.v.fits c.ranges.w.fits c.if-v-w-ne1.false c.value-in-9.ensures) (product c.args.k c.args.v c.args.w c.ranges.v.fits c.ranges.w.fits c.if-v-w-ne1.false)

pub returns-in-1 : goal.returns-in-1
unfolding on_integers when◌then◌else◌
returns-in-1 c =
    let e = read-sum c.args.k c.args.v c.args.w c.ranges.v.fits c.ranges.w.fits c.if-v-w-ne1.false c.signed.ensures c.signed-in-1.ensures in
    c.fit.ensures (value_of c.args.v +ℤ value_of c.args.w) (gives ◌-ℤ◌ e (literal (pos 1)) (sum_less (tagged (value_of c.args.v)) (tagged (value_of c.args.w)) (mv c.args.k c.args.v c.args.w c.ranges.v.fits c.ranges.w.fits c.if-v-w-ne1.false) (mw c.args.k c.args.v c.args.w c.ranges.v.fits c.ranges.w.fits c.if-v-w-ne1.false)) ∙ tagged_sum (value_of c.args.v) (value_of c.args.w))
    ∙ line c.args.k c.args.v c.args.w c.ranges.v.fits c.ranges.w.fits c.if-v-w-ne1.false 1 c.in-1.is (omega arith)

pub returns-in-2 : goal.returns-in-2
unfolding on_integers when◌then◌else◌
returns-in-2 c =
    let e = read-difference c.args.k c.args.v c.args.w c.ranges.v.fits c.ranges.w.fits c.if-v-w-ne1.false c.signed-in-2.ensures c.signed-in-2-2.ensures in
    c.fit-in-2.ensures (value_of c.args.v -ℤ value_of c.args.w) (gives ◌+ℤ◌ e (literal (pos 1)) (difference_more (tagged (value_of c.args.v)) (tagged (value_of c.args.w)) (mv c.args.k c.args.v c.args.w c.ranges.v.fits c.ranges.w.fits c.if-v-w-ne1.false) (mw c.args.k c.args.v c.args.w c.ranges.v.fits c.ranges.w.fits c.if-v-w-ne1.false)) ∙ tagged_difference (value_of c.args.v) (value_of c.args.w))
    ∙ line c.args.k c.args.v c.args.w c.ranges.v.fits c.ranges.w.fits c.if-v-w-ne1.false 2 c.in-2.is (omega arith)

pub returns-in-3 : goal.returns-in-3
unfolding on_integers when◌then◌else◌
returns-in-3 c =
    c.truth.ensures
    ∙ ap truth (ap₂ lt_z (read-v c.args.k c.args.v c.args.w c.ranges.v.fits c.ranges.w.fits c.if-v-w-ne1.false c.signed-in-3.ensures) (read-w c.args.k c.args.v c.args.w c.ranges.v.fits c.ranges.w.fits c.if-v-w-ne1.false c.signed-in-3-2.ensures) ∙ tagged_less (value_of c.args.v) (value_of c.args.w))
    ∙ line c.args.k c.args.v c.args.w c.ranges.v.fits c.ranges.w.fits c.if-v-w-ne1.false 3 c.in-3.is (omega arith)

pub returns-in-4 : goal.returns-in-4
unfolding on_integers when◌then◌else◌
returns-in-4 c =
    c.truth-in-4.ensures
    ∙ ap truth (ap₂ lt_z (read-w c.args.k c.args.v c.args.w c.ranges.v.fits c.ranges.w.fits c.if-v-w-ne1.false c.signed-in-4.ensures) (read-v c.args.k c.args.v c.args.w c.ranges.v.fits c.ranges.w.fits c.if-v-w-ne1.false c.signed-in-4-2.ensures) ∙ tagged_less (value_of c.args.w) (value_of c.args.v))
    ∙ line c.args.k c.args.v c.args.w c.ranges.v.fits c.ranges.w.fits c.if-v-w-ne1.false 4 c.in-4.is (omega arith)

pub returns-in-5 : goal.returns-in-5
unfolding on_integers when◌then◌else◌
returns-in-5 c =
    c.truth-in-5.ensures
    ∙ ap truth (ap₂ le_z (read-v c.args.k c.args.v c.args.w c.ranges.v.fits c.ranges.w.fits c.if-v-w-ne1.false c.signed-in-5.ensures) (read-w c.args.k c.args.v c.args.w c.ranges.v.fits c.ranges.w.fits c.if-v-w-ne1.false c.signed-in-5-2.ensures) ∙ tagged_most (value_of c.args.v) (value_of c.args.w))
    ∙ line c.args.k c.args.v c.args.w c.ranges.v.fits c.ranges.w.fits c.if-v-w-ne1.false 5 c.in-5.is (omega arith)

pub returns-in-6 : goal.returns-in-6
unfolding on_integers when◌then◌else◌
returns-in-6 c =
    c.truth-in-6.ensures
    ∙ ap truth (ap₂ le_z (read-w c.args.k c.args.v c.args.w c.ranges.v.fits c.ranges.w.fits c.if-v-w-ne1.false c.signed-in-6.ensures) (read-v c.args.k c.args.v c.args.w c.ranges.v.fits c.ranges.w.fits c.if-v-w-ne1.false c.signed-in-6-2.ensures) ∙ tagged_most (value_of c.args.w) (value_of c.args.v))
    ∙ line c.args.k c.args.v c.args.w c.ranges.v.fits c.ranges.w.fits c.if-v-w-ne1.false 6 c.in-6.is (omega arith)

pub returns-in-7 : goal.returns-in-7
unfolding on_integers when◌then◌else◌
returns-in-7 c = c.truth-in-7.ensures ∙ ap truth (equal c.args.k c.args.v c.args.w c.ranges.v.fits c.ranges.w.fits c.if-v-w-ne1.false) ∙ line c.args.k c.args.v c.args.w c.ranges.v.fits c.ranges.w.fits c.if-v-w-ne1.false 7 c.in-7.is (omega arith)

pub returns-in-8 : goal.returns-in-8
unfolding on_integers when◌then◌else◌
returns-in-8 c =
    c.truth-in-8.ensures ∙ ap (λ (x : Bool). truth (not x)) (equal c.args.k c.args.v c.args.w c.ranges.v.fits c.ranges.w.fits c.if-v-w-ne1.false) ∙ line c.args.k c.args.v c.args.w c.ranges.v.fits c.ranges.w.fits c.if-v-w-ne1.false 8 c.in-8.is (omega arith)

pub returns-in-9 : goal.returns-in-9
unfolding on_integers when◌then◌else◌
returns-in-9 c =
    c.number.ensures
    ∙ ap number (gives ◌*ℤ◌ (read_a c.args.k c.args.v c.args.w c.ranges.v.fits c.ranges.w.fits c.if-v-w-ne1.false c.value.ensures) (read-b c.args.k c.args.v c.args.w c.ranges.v.fits c.ranges.w.fits c.if-v-w-ne1.false c.value-in-9.ensures) (product c.args.k c.args.v c.args.w c.ranges.v.fits c.ranges.w.fits c.if-v-w-ne1.false))
    ∙ line c.args.k c.args.v c.args.w c.ranges.v.fits c.ranges.w.fits c.if-v-w-ne1.false 9 c.in-9.is (omega arith)

pub returns-in-14 : goal.returns-in-14
unfolding on_bits when◌then◌else◌
returns-in-14 c = bits c.args.k c.args.v c.args.w c.ranges.v.fits c.ranges.w.fits c.if-v-w-ne1.false 14 c.in-14.is refl

pub returns-in-15 : goal.returns-in-15
unfolding on_bits when◌then◌else◌
returns-in-15 c = bits c.args.k c.args.v c.args.w c.ranges.v.fits c.ranges.w.fits c.if-v-w-ne1.false 15 c.in-15.is refl
