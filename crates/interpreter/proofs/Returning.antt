-- A frame that is taken from its words, with a word pushed on it.
use Prim.Native.Nat.{ℕ, suc, ◌+◌, ◌-◌, ◌≤◌, ◌<◌}
use mathlib.Core.Path.{◌≡◌, sym, ap, ap₂, ◌∙◌, subst}
use mathlib.Core.List.{List}
use native.Mathlib.Omega.{arith}
use lib.ListN.{length, get_or, set}
use lib.Seq.{get_or-set_other}
use Rattle.model.specs.Word.{object_number}
use Rattle.model.specs.Objects.{Objects, objects_at, start, body_words}
use Rattle.model.specs.Method.{temporary_count, literal_count}
use Rattle.plain.specs.Flat.{frame_sender, frame_depth, frame_method, operands_start}
use Rattle.plain.specs.Running.{Runs}
use Rattle.plain.proofs.ReturnLaws.{SenderBounds, sender_bounds}
use Rattle.frames.specs.declared.Active.{Active}
use Rattle.frames.specs.Active.{moved_on, Holdable, Held}
use Rattle.frames.proofs.ActiveLaws.{set_same, put_method, depth_taken, position_taken}
use Rattle.interpreter.specs.Advances.{Returned}

-- its base by another name
pub holdable_at : {n b t : ℕ} {contents bodies stack : List ℕ} (s : ℕ) → s ≡ t → Holdable n b t contents bodies stack → Holdable n b s contents bodies stack
holdable_at {n} {b} {t} {contents} {bodies} {stack} s e h = subst (λ (x : ℕ). Holdable n b x contents bodies stack) (sym e) h

pub taken_from : {n b s t : ℕ} {contents bodies stack : List ℕ} {a : Active} → s ≡ t → Held n b s contents bodies stack a → Held n b t contents bodies stack a
taken_from e h = record { base = h.base ∙ e; same = h.same; stands = h.stands }

module _ {n b top : ℕ} {contents bodies stack : List ℕ} (r : Runs n b top contents bodies stack) (above : 0 < top) {a : Active}
    (h : Held n b (frame_sender stack top) contents bodies stack a) where
  abbrev o : Objects
  o = objects_at n b contents bodies

  abbrev base : ℕ
  base = a.base.0

  bounds : SenderBounds o top base stack
  bounds = subst (λ (s : ℕ). SenderBounds o top s stack) (sym h.base) (sender_bounds r above)

  low : frame_sender stack top + 3 ≤ length stack
  low = let k = bounds in let e = h.base in omega arith

  -- where its operands end
  end_is : a.end.0 ≡ base + (6 + (temporary_count o (frame_method stack base) + frame_depth stack base))
  end_is = let d = depth_taken h low in let e = h.stands.operands in let u = h.stands.above in omega arith

  pub end_room : (a.end.0 < length stack) × (a.end.0 < 65536)
  end_room = let e = end_is in let k = bounds in (omega arith, omega arith)

  module _ (w : ℕ) where
    abbrev after : List ℕ
    after = set stack a.end.0 w

    abbrev f : Active
    f = moved_on a a.position (record { 0 = a.end.0 + 1 })

    position_same : a.position.0 ≡ get_or after (base + 1) 0
    position_same = let e = end_is in position_taken h low ∙ sym (get_or-set_other stack a.end.0 (base + 1) w 0 (omega arith))

    method_same : frame_method stack base ≡ frame_method after base
    method_same = let e = end_is in sym (put_method a stack a.end.0 w (omega arith) (omega arith))

    one_more : a.end.0 + 1 - a.operands.0 ≡ suc (frame_depth stack base)
    one_more = let d = depth_taken h low in let u = h.stands.above in omega arith

    pub returned : Returned n b top contents bodies stack after w f
    returned =
        let s = h.stands in
        record {
          base = h.base;
          words = ap (λ (l : List ℕ). set l (base + 2) (a.end.0 + 1 - a.operands.0)) (set_same after (base + 1) a.position.0 position_same)
              ∙ ap₂ (λ (i d : ℕ). set (set stack i w) (base + 2) d) end_is one_more;
          stands = record {
            code = s.code ∙ ap (λ (k : ℕ). start o (object_number k) + (2 + literal_count o k)) method_same;
            limit = s.limit ∙ ap (λ (k : ℕ). start o (object_number k) + body_words o (object_number k)) method_same;
            operands = s.operands ∙ ap (λ (k : ℕ). operands_start o k base) method_same;
            above = let u = s.above in omega arith;
          };
        }
