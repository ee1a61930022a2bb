-- What the entry of the byte at a position says of the instruction there, for a walk over the code.
use Prim.Native.Nat.{ℕ, ◌+◌, ◌<◌, ◌≤◌}
use mathlib.Core.Path.{◌≡◌, sym, ◌∙◌, ap}
use mathlib.Core.Bool.{true}
use mathlib.Core.List.{List, [], ◌∷◌}
use native.Mathlib.Omega.{arith}
use Rattle.bytecode.specs.Code.{byte_at, bytes_after, instruction_of, length_of, next_at, decode_at}
use Rattle.bytecode.specs.Effect.{need, leaves, usable, successors}
use Rattle.bytecode.specs.Table.{bound, index, group, alone, extra_of, group_part, length_part, need_part, leaves_part, bound_part, index_part, Entry}
use Rattle.bytecode.specs.declared.Instruction.TheVariants.{Unused}
use Rattle.bytecode.proofs.DecodeLaws.{next_here, cut, decoded}
use Rattle.bytecode.proofs.EntryLaws.{effects, one_byte, goes_on, returning, unused, group_of_lem}

-- the entry says all of the instruction
pub record SaidAt (words : List ℕ) (size p e : ℕ) : Type 0 where
  pub after : next_at words p ≡ p + 1
  pub groups : group (decode_at words size p) ≡ group_part e
  pub needs : need (decode_at words size p) ≡ need_part e
  pub leave : leaves (decode_at words size p) ≡ leaves_part e
  pub bounds : bound (decode_at words size p) ≡ bound_part e
  pub indexes : index (decode_at words size p) ≡ index_part e

pub record PlainAt (words : List ℕ) (size p e : ℕ) : Type 0 where
  pub said : SaidAt words size p e
  pub used : usable (next_at words p) (decode_at words size p) ≡ true
  pub follow : successors (next_at words p) (decode_at words size p) ≡ (p + 1) ∷ []

pub record ReturnAt (words : List ℕ) (size p e : ℕ) : Type 0 where
  pub said : SaidAt words size p e
  pub used : usable (next_at words p) (decode_at words size p) ≡ true
  pub follow : successors (next_at words p) (decode_at words size p) ≡ []

-- the instruction may have further bytes, and is whole
pub record WholeAt (words : List ℕ) (size p b e : ℕ) : Type 0 where
  pub after : next_at words p ≡ p + length_part e
  pub decoded : decode_at words size p ≡ instruction_of b (bytes_after words p)
  pub needs : need (decode_at words size p) ≡ need_part e + extra_of b (byte_at words (p + 1))
  pub leave : leaves (decode_at words size p) ≡ leaves_part e

-- The position is inside the code, b is the byte there and e its entry.
module _ (words : List ℕ) (size p b e : ℕ) (inside : p < size) (here : b ≡ byte_at words p) (right : Entry b e) where
  pub decoded_alone : length_of b ≡ 1 → decode_at words size p ≡ alone b
  decoded_alone l = sym (decoded words p here size (omega arith)) ∙ one_byte b (bytes_after words p) l

  said_at : (group_part e ≡ 2 → ⊥) → SaidAt words size p e
  said_at n =
      let g = group_of_lem b (λ q. n (right.group ∙ q)) in
      let d = decoded_alone g.0 in
      record {
        after = next_here words p here ∙ ap (λ k. p + k) g.0;
        groups = ap group d ∙ sym g.1 ∙ sym right.group;
        needs = ap need d ∙ sym right.needs;
        leave = ap leaves d ∙ sym right.leave;
        bounds = ap bound d ∙ sym right.bounds;
        indexes = ap index d ∙ sym right.indexes;
      }

  pub plain_at : group_part e ≡ 0 → PlainAt words size p e
  plain_at h =
      let s = said_at (λ q. omega arith) in
      let g = goes_on (next_at words p) (decode_at words size p) (s.groups ∙ h) in
      record { said = s; used = g.0; follow = g.1 ∙ ap (λ k. k ∷ []) s.after }

  pub return_at : group_part e ≡ 1 → ReturnAt words size p e
  return_at h =
      let s = said_at (λ q. omega arith) in
      let g = returning (next_at words p) (decode_at words size p) (s.groups ∙ h) in
      record { said = s; used = g.0; follow = g.1 }

  pub unused_at : 3 ≤ group_part e → decode_at words size p ≡ Unused
  unused_at h = unused (decode_at words size p) (rw (said_at (λ q. omega arith)).groups h)

  pub short_at : size < p + length_part e → decode_at words size p ≡ Unused
  short_at h = sym (cut words p here size (omega (arith, right.length)))

  pub whole_at : b < 256 → p + length_part e ≤ size → WholeAt words size p b e
  whole_at small h =
      let d = sym (decoded words p here size (omega (arith, right.length))) in
      let f = effects (bytes_after words p) b small in
      record {
        after = next_here words p here ∙ ap (λ k. p + k) (sym right.length);
        decoded = d;
        needs = ap need d ∙ f.0 ∙ ap (λ k. k + extra_of b (byte_at words (p + 1))) (sym right.needs);
        leave = ap leaves d ∙ f.1 ∙ sym right.leave;
      }
