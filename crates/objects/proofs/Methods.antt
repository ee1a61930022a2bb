-- The place of a method's code.
use Prim.Native.Nat.{ℕ, ◌+◌, ◌*◌, ◌-◌, ◌/◌, ◌≤◌}
use mathlib.Core.Path.{◌≡◌, sym, ap₂, ◌∙◌}
use mathlib.Core.List.{List}
use native.Mathlib.Omega.{arith}
use lib.ListN.{length, take, drop, length-take}
use lib.Seq.{ext_get_or, get_or-take}
use Rattle.model.specs.Limits.{method_kind, primitive_flag}
use Rattle.model.specs.Word.{object_number}
use Rattle.model.specs.Objects.{objects_at, start, size, body_words, part}
use Rattle.model.specs.Method.{flag, literal_count, code_words, code_size}
use Rattle.model.proofs.ChainLaws.{named}
use Rattle.model.proofs.Parts.{length_part, part_at}
use Rattle.model.proofs.Facts.{inside, method_words, method_facts}
use Rattle.objects.specs.Lent.{Holds, CodeAt}
use Rattle.objects.proofs.Buffers.{bodies_room}

-- A part of the front is a part of the whole.
part_front : (b : ℕ) (bodies : List ℕ) (from count : ℕ) → from + count ≤ b → b ≤ length bodies → part bodies from count ≡ part (take b bodies) from count
part_front b bodies from count h g =
    let l = length-take b bodies in
    let p = length_part bodies from count (omega arith) in
    let q = length_part (take b bodies) from count (omega arith) in
    ext_get_or 0 (part bodies from count) (part (take b bodies) from count) (p ∙ sym q)
    (λ i s. part_at bodies from count i (omega arith) ∙ sym (get_or-take b bodies (from + i) 0 (omega arith)) ∙ sym (part_at (take b bodies) from count i (omega arith)))

module _ {n b : ℕ} {contents bodies : List ℕ} {m : ℕ} (h : Holds method_kind n b contents bodies m) where
  pub code_at : {count st sz : ℕ} → count ≡ literal_count (objects_at n b contents bodies) m → st ≡ start (objects_at n b contents bodies) (object_number m)
      → sz ≡ size (objects_at n b contents bodies) (object_number m)
      → CodeAt n b contents bodies m (record { from = st + 2 + count; end = st + (sz + 1) / 2; size = sz - 4 - 2 * count })
  unfolding code_words code_size
  code_at {count} {st} {sz} p q s =
      let w = method_words h.right.1 m h.kinds in
      let f = (method_facts h.right.1 m h.kinds).holds in
      let g = named (objects_at n b contents bodies) method_kind m h.kinds in
      let i = inside h.right.1 (object_number m) g.least g.most in
      let r = bodies_room n b contents bodies h.right.1 in
      record {
        from = omega arith;
        end = omega arith;
        size = omega arith;
        ordered = omega arith;
        inside = omega arith;
        words =
            ap₂ (λ (x y : ℕ). take x (drop y bodies)) lengths places
            ∙ part_front b bodies (start (objects_at n b contents bodies) (object_number m) + (2 + literal_count (objects_at n b contents bodies) m))
            (body_words (objects_at n b contents bodies) (object_number m) - (2 + literal_count (objects_at n b contents bodies) m)) (omega arith) r;
      }
    where
      places : st + 2 + count ≡ start (objects_at n b contents bodies) (object_number m) + (2 + literal_count (objects_at n b contents bodies) m)
      places = omega arith

      lengths : st + (sz + 1) / 2 - (st + 2 + count) ≡ body_words (objects_at n b contents bodies) (object_number m) - (2 + literal_count (objects_at n b contents bodies) m)
      lengths = let w = method_words h.right.1 m h.kinds in omega arith

  pub code_fits : {count st sz : ℕ} → count ≡ literal_count (objects_at n b contents bodies) m → st ≡ start (objects_at n b contents bodies) (object_number m)
      → sz ≡ size (objects_at n b contents bodies) (object_number m)
      → (4 + 2 * count ≤ sz) × (st + (sz + 1) / 2 ≤ length bodies)
  code_fits p q s =
      let w = method_words h.right.1 m h.kinds in
      let f = (method_facts h.right.1 m h.kinds).holds in
      let g = named (objects_at n b contents bodies) method_kind m h.kinds in
      let i = inside h.right.1 (object_number m) g.least g.most in
      let r = bodies_room n b contents bodies h.right.1 in (omega arith, omega arith)

  pub two_literals : flag (objects_at n b contents bodies) m ≡ primitive_flag → 2 ≤ literal_count (objects_at n b contents bodies) m
  two_literals e = ((method_facts h.right.1 m h.kinds).extended e).two
