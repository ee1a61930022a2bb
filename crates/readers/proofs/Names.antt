-- What a word says that names an object.
use Prim.Native.Nat.{ℕ, ◌*◌, ◌/◌, ◌%◌, ◌≤◌}
use mathlib.Core.Path.{◌≡◌, ◌∙◌}
use mathlib.Core.Bool.{true, ◌&&◌}
use lib.Dec.{T, leb, eqb, leb→le, eqb→eq}
use Rattle.bytecode.proofs.TestLaws.{true→T, T→true, and_left, and_right}
use Rattle.model.specs.Word.{is_pointer}
use Rattle.model.specs.Objects.{Objects, kind, is_kind}
use Rattle.model.proofs.ChainLaws.{Named, named}
use Rattle.model.proofs.Facts.{naming, named_pointer}

pub record Points (n w : ℕ) : Type 0 where
  pub even : w % 2 ≡ 0
  pub least : 1 ≤ w / 2
  pub most : w / 2 ≤ n

pub points : (n w : ℕ) → is_pointer n w ≡ true → Points n w
unfolding is_pointer
points n w e =
    let t : T (eqb (w % 2) 0 && (leb 1 (w / 2) && leb (w / 2) n)) = true→T e in
    let q : T (leb 1 (w / 2) && leb (w / 2) n) = and_right (eqb (w % 2) 0) (leb 1 (w / 2) && leb (w / 2) n) t in
    record {
      even = eqb→eq (w % 2) 0 (and_left (eqb (w % 2) 0) (leb 1 (w / 2) && leb (w / 2) n) t);
      least = leb→le 1 (w / 2) (and_left (leb 1 (w / 2)) (leb (w / 2) n) q);
      most = leb→le (w / 2) n (and_right (leb 1 (w / 2)) (leb (w / 2) n) q);
    }

pub is_named : (o : Objects) (k w : ℕ) → is_kind o k w ≡ true → Named o k w
is_named o k w e = named o k w (true→T e)

-- the object k of a kind, by its word
pub names_kind : (o : Objects) (k m : ℕ) → 1 ≤ k → k ≤ o.n → kind o k ≡ m → is_kind o m (2 * k) ≡ true
names_kind o k m h g e =
    T→true (is_kind o m (2 * k)) (naming o m (2 * k) (let p = named_pointer o k h g in record { even = p.even; least = p.least; most = p.most; kinds = p.kinds ∙ e }))
