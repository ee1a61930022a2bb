-- A running frame's method: its code, the positions that are noted, the instruction that is about to be done.
use Prim.Native.Nat.{ℕ, suc, ◌+◌, ◌-◌, ◌*◌, ◌≤◌, ◌<◌}
use mathlib.Core.Path.{◌≡◌, refl, sym, subst}
use mathlib.Core.Bool.{true}
use mathlib.Core.List.{List}
use native.Mathlib.Omega.{arith}
use native.Mathlib.Decide.{dec_lt}
use lib.Dec.{T}
use Rattle.bytecode.specs.Code.{byte_at, bytes_after, instruction_of, next_at, decode_at}
use Rattle.bytecode.specs.Effect.{usable}
use Rattle.bytecode.specs.declared.Instruction.{Instruction}
use Rattle.bytecode.specs.declared.Instruction.TheVariants.{Unused}
use Rattle.bytecode.proofs.TestLaws.{rule}
use Rattle.bytecode.proofs.DecodeLaws.{decode_short, decode_whole}
use Rattle.model.specs.Limits.{method_kind}
use Rattle.model.specs.Word.{object_number}
use Rattle.model.specs.Objects.{Objects, objects_at, start, body_words, is_kind}
use Rattle.model.specs.Method.{temporary_count, literal_count, code_words, code_size, frame_words}
use Rattle.model.specs.Depth.{note_at, rulesAt, fineAt}
use Rattle.model.specs.Rules.{Right, allowed, method_table}
use Rattle.model.proofs.ChainLaws.{named}
use Rattle.model.proofs.Facts.{inside, most_words, method_facts, method_words}
use Rattle.model.proofs.DepthLaws.{Spot, spot, fine_inside}
use Rattle.plain.specs.State.{Frame}
use Rattle.plain.specs.Flat.{frame_sender, frame_depth, frame_method, frame_position, frame_at}
use Rattle.plain.specs.Running.{Runs, top_frame}
use Rattle.plain.proofs.FrameLaws.{frame_spot}
use Rattle.plain.proofs.RunningLaws.{top_right, is_method, top_bounds, words_cases}
use Rattle.plain.proofs.ReturnLaws.{sender_bounds}
use Rattle.objects.specs.Lent.{Holds}
use Rattle.frames.specs.Active.{Holdable}

never_unused : (q : ℕ) → T (usable q Unused) → ⊥
unfolding usable
never_unused q t = t

-- The bytes of a method's code
pub record Coded (o : Objects) (m : ℕ) : Type 0 where
  pub small : code_size o m < 65536
  pub words : code_size o m ≤ 2 * (body_words o (object_number m) - (2 + literal_count o m))
  pub least : 2 + literal_count o m ≤ body_words o (object_number m)
  pub ends : start o (object_number m) + body_words o (object_number m) ≤ o.b

method_coded : {e : ℕ} {o : Objects} → Right e o → (m : ℕ) → T (is_kind o method_kind m) → Coded o m
unfolding code_size
method_coded {e} {o} r m t =
    let g = named o method_kind m t in
    let w = method_words r m t in
    let i = inside r (object_number m) g.least g.most in
    let k = most_words r in
    let f = (method_facts r m t).holds in
    record { small = omega arith; words = omega arith; least = omega arith; ends = i }

-- The instruction of a running frame
module _ {n b top : ℕ} {contents bodies stack : List ℕ} (r : Runs n b top contents bodies stack) where
  abbrev o : Objects
  o = objects_at n b contents bodies

  abbrev f : Frame
  f = top_frame n b top contents bodies stack

  abbrev m : ℕ
  m = frame_method stack top

  abbrev p : ℕ
  p = frame_position stack top

  pub holds_method : (w : ℕ) → w ≡ m → Holds method_kind n b contents bodies w
  holds_method w e = record { right = (r.edition, r.right); kinds = subst (λ (x : ℕ). T (is_kind o method_kind x)) (sym e) (is_method r) }

  spot_here : Spot r.edition o m p (frame_depth stack top)
  unfolding frame_at
  spot_here = frame_spot o true f (top_right r)

  -- the bytes of the code
  pub coded : Coded o m
  coded = method_coded r.right m (is_method r)

  -- a noted position is inside the code
  pub noted_inside : (q d : ℕ) → note_at (method_table r.edition o m) q ≡ suc d → q < code_size o m
  unfolding fineAt
  noted_inside q d e = fine_inside (code_words o m) (code_size o m) (temporary_count o m) (frame_words o m) (allowed r.edition o m) q d (spot r.edition o m q d e).kept

  pub noted_small : (q d : ℕ) → note_at (method_table r.edition o m) q ≡ suc d → q < 65536
  noted_small q d e = let x = noted_inside q d e in let y = coded.small in omega arith

  pub position_inside : p < code_size o m
  unfolding fineAt
  position_inside = fine_inside (code_words o m) (code_size o m) (temporary_count o m) (frame_words o m) (allowed r.edition o m) p (frame_depth stack top) spot_here.kept

  usable_here : T (usable (next_at (code_words o m) p) (decode_at (code_words o m) (code_size o m) p))
  unfolding rulesAt
  usable_here = rule (rulesAt (code_words o m) (code_size o m) (temporary_count o m) (frame_words o m) (allowed r.edition o m) p (frame_depth stack top)) spot_here.kept 0

  pub next_inside : next_at (code_words o m) p ≤ code_size o m
  next_inside = go (dec_lt (code_size o m) (next_at (code_words o m) p))
    where
      go : Dec (code_size o m < next_at (code_words o m) p) → next_at (code_words o m) p ≤ code_size o m
      go (yes h) =
          absurd (never_unused (next_at (code_words o m) p) (subst (λ (i : Instruction). T (usable (next_at (code_words o m) p) i)) (decode_short (code_words o m) (code_size o m) p h) usable_here))
      go (no h) = omega arith

  pub decode_is : instruction_of (byte_at (code_words o m) p) (bytes_after (code_words o m) p) ≡ decode_at (code_words o m) (code_size o m) p
  decode_is = sym (decode_whole (code_words o m) (code_size o m) p next_inside)

  -- the frame can be taken from its words,
  pub holdable : Holdable n b top contents bodies stack
  holdable =
      let k = top_bounds r in
      let q = position_inside in
      let c = coded.small in
      record { method = holds_method m refl; low = omega arith; small = omega arith; few = omega arith; position = omega arith }

  -- and so can the one below it.
  pub sender_holdable : 0 < top → Holdable n b (frame_sender stack top) contents bodies stack
  sender_holdable h =
      let k = sender_bounds r h in
      let q = k.position in
      let c = (method_coded r.right (frame_method stack (frame_sender stack top)) k.is_method).small in
      let w = words_cases o (frame_method stack (frame_sender stack top)) in
      record { method = record { right = (r.edition, r.right); kinds = k.is_method }; low = omega arith; small = omega arith; few = omega arith; position = omega arith }
