-- The frame that the run loop holds: what the stack stands for, its numbers, its code.
use Prim.Native.Nat.{ℕ, zero, suc, ◌+◌, ◌-◌, ◌/◌, ◌≤◌, ◌<◌}
use mathlib.Core.Path.{◌≡◌, refl, sym, ap, ap₂, ◌∙◌, subst}
use mathlib.Core.Logic.{◌≢◌}
use mathlib.Core.List.{List, [], ◌∷◌}
use native.Mathlib.Omega.{arith}
use lib.Dec.{T}
use lib.ListN.{length, get_or, set, take, drop, length-set}
use lib.Seq.{get_or-set_same, get_or-set_other, drop-set-lt}
use Rattle.model.specs.Limits.{method_kind}
use Rattle.model.specs.Word.{object_number}
use Rattle.model.specs.Objects.{Objects, objects_at, start, body_words, part, is_kind}
use Rattle.model.specs.Method.{header, literal_count, code_words, code_size}
use Rattle.model.proofs.ChainLaws.{named}
use Rattle.model.proofs.Extends.{Extends, words_same, temporaries_same, literal_count_same}
use Rattle.model.specs.declared.CodePosition.{CodePosition}
use Rattle.model.specs.declared.StackPosition.{StackPosition}
use Rattle.plain.specs.Flat.{frame_depth, frame_method, frame_position, frame_receiver, operands_start}
use Rattle.plain.proofs.RunningLaws.{top_bounds}
use Rattle.readers.specs.Header.{temporaries_of}
use Rattle.objects.specs.Lent.{Holds, CodeAt}
use Rattle.objects.specs.declared.Code.{Code}
use Rattle.objects.proofs.Methods.{code_at}
use Rattle.frames.specs.declared.Active.{Active}
use Rattle.frames.specs.Active.{written, Stands, IsActive, Held, Leaving, moved_on, Onward}
use Rattle.frames.proofs.Standing.{holds_method, coded, position_inside}

-- ---- two writes

pub set_twice : (l : List ℕ) (i x y : ℕ) → set (set l i x) i y ≡ set l i y
set_twice [] i x y = refl
set_twice (z ∷ l) zero x y = refl
set_twice (z ∷ l) (suc i) x y = ap (λ (r : List ℕ). z ∷ r) (set_twice l i x y)

pub set_swap : (l : List ℕ) (i j x y : ℕ) → i ≢ j → set (set l i x) j y ≡ set (set l j y) i x
set_swap [] i j x y h = refl
set_swap (z ∷ l) zero zero x y h = absurd (h refl)
set_swap (z ∷ l) zero (suc j) x y h = refl
set_swap (z ∷ l) (suc i) zero x y h = refl
set_swap (z ∷ l) (suc i) (suc j) x y h = ap (λ (r : List ℕ). z ∷ r) (set_swap l i j x y (λ e. h (ap suc e)))

pub set_same : (l : List ℕ) (i w : ℕ) → w ≡ get_or l i 0 → set l i w ≡ l
set_same [] i w e = refl
set_same (z ∷ l) zero w e = ap (λ (x : ℕ). x ∷ l) e
set_same (z ∷ l) (suc i) w e = ap (λ (r : List ℕ). z ∷ r) (set_same l i w e)

-- ---- what the stack stands for

module _ (a : Active) (stack : List ℕ) where
  pub length_written : length (written a stack) ≡ length stack
  length_written =
      length-set (set stack (a.base.0 + 1) a.position.0) (a.base.0 + 2) (a.end.0 - a.operands.0)
      ∙ length-set stack (a.base.0 + 1) a.position.0

  -- its words above position and depth are the stack's
  pub word_written : (i : ℕ) → a.base.0 + 3 ≤ i → get_or (written a stack) i 0 ≡ get_or stack i 0
  word_written i h =
      get_or-set_other (set stack (a.base.0 + 1) a.position.0) (a.base.0 + 2) i (a.end.0 - a.operands.0) 0 (omega arith)
      ∙ get_or-set_other stack (a.base.0 + 1) i a.position.0 0 (omega arith)

  -- and so are parts above them
  pub part_written : (i k : ℕ) → a.base.0 + 3 ≤ i → part (written a stack) i k ≡ part stack i k
  part_written i k h =
      ap (take k)
      (drop-set-lt i (set stack (a.base.0 + 1) a.position.0) (a.base.0 + 2) (a.end.0 - a.operands.0) (omega arith)
      ∙ drop-set-lt i stack (a.base.0 + 1) a.position.0 (omega arith))

  -- the frame moved on
  pub moves_on : (q : CodePosition) (e : StackPosition)
      → written (moved_on a q e) stack ≡ set (set (written a stack) (a.base.0 + 1) q.0) (a.base.0 + 2) (e.0 - a.operands.0)
  moves_on q e =
      sym
      (ap (λ (l : List ℕ). set l (a.base.0 + 2) (e.0 - a.operands.0))
      (set_swap (set stack (a.base.0 + 1) a.position.0) (a.base.0 + 2) (a.base.0 + 1) (a.end.0 - a.operands.0) q.0 (omega arith)
      ∙ ap (λ (l : List ℕ). set l (a.base.0 + 2) (a.end.0 - a.operands.0)) (set_twice stack (a.base.0 + 1) a.position.0 q.0))
      ∙ set_twice (set stack (a.base.0 + 1) q.0) (a.base.0 + 2) (a.end.0 - a.operands.0) (e.0 - a.operands.0))

-- a word written above its position and depth
module _ (a : Active) (stack : List ℕ) (at w : ℕ) (h : a.base.0 + 3 ≤ at) where
  put_written : written a (set stack at w) ≡ set (written a stack) at w
  put_written =
      ap (λ (l : List ℕ). set l (a.base.0 + 2) (a.end.0 - a.operands.0)) (set_swap stack at (a.base.0 + 1) w a.position.0 (omega arith))
      ∙ set_swap (set stack (a.base.0 + 1) a.position.0) at (a.base.0 + 2) w (a.end.0 - a.operands.0) (omega arith)

  pub puts : (q : CodePosition) (e : StackPosition)
      → written (moved_on a q e) (set stack at w) ≡ set (set (set (written a stack) at w) (a.base.0 + 1) q.0) (a.base.0 + 2) (e.0 - a.operands.0)
  puts q e =
      moves_on a (set stack at w) q e ∙ ap (λ (l : List ℕ). set (set l (a.base.0 + 1) q.0) (a.base.0 + 2) (e.0 - a.operands.0)) put_written

  pub put_method : a.base.0 + 4 ≤ at → frame_method (set stack at w) a.base.0 ≡ frame_method stack a.base.0
  put_method k = get_or-set_other stack at (a.base.0 + 3) w 0 (omega arith)

-- ---- the frame's numbers

pub record Ends (a : Active) (stack : List ℕ) : Type 0 where
  pub low : a.base.0 + 18 ≤ length stack
  pub small : a.base.0 + 18 ≤ 65536
  pub first : a.base.0 + 6 ≤ a.operands.0
  pub above : a.operands.0 ≤ a.end.0
  pub inside : a.end.0 ≤ length stack
  pub most : a.end.0 ≤ 65536
  pub deep : a.end.0 - a.operands.0 ≤ 32

module _ {n b : ℕ} {contents bodies stack : List ℕ} {a : Active} (r : IsActive n b contents bodies stack a) where
  abbrev o : Objects
  o = objects_at n b contents bodies

  abbrev v : List ℕ
  v = written a stack

  abbrev m : ℕ
  m = frame_method stack a.base.0

  fits : a.base.0 + 18 ≤ length stack
  fits = let t = top_bounds r.runs in let l = length_written a stack in omega arith

  pub method_read : frame_method v a.base.0 ≡ m
  method_read = word_written a stack (a.base.0 + 3) (omega arith)

  pub position_read : frame_position v a.base.0 ≡ a.position.0
  position_read =
      let l = length-set stack (a.base.0 + 1) a.position.0 in
      get_or-set_other (set stack (a.base.0 + 1) a.position.0) (a.base.0 + 2) (a.base.0 + 1) (a.end.0 - a.operands.0) 0 (omega arith)
      ∙ get_or-set_same stack (a.base.0 + 1) a.position.0 0 (let k = fits in omega arith)

  pub depth_read : frame_depth v a.base.0 ≡ a.end.0 - a.operands.0
  depth_read =
      let l = length-set stack (a.base.0 + 1) a.position.0 in
      get_or-set_same (set stack (a.base.0 + 1) a.position.0) (a.base.0 + 2) (a.end.0 - a.operands.0) 0 (let k = fits in omega arith)

  pub receiver_read : frame_receiver v a.base.0 ≡ frame_receiver stack a.base.0
  receiver_read = word_written a stack (a.base.0 + 5) (omega arith)

  pub active_method : (w : ℕ) → w ≡ m → Holds method_kind n b contents bodies w
  active_method w e = holds_method r.runs w (e ∙ sym method_read)

  pub operands_read : a.operands.0 ≡ operands_start o (frame_method v a.base.0) a.base.0
  operands_read = r.stands.operands ∙ ap (λ (k : ℕ). operands_start o k a.base.0) (sym method_read)

  pub ends : Ends a stack
  ends =
      let t = top_bounds r.runs in
      let l = length_written a stack in
      let d = depth_read in
      let s = operands_read in
      let u = r.stands.above in
      record { low = omega arith; small = omega arith; first = omega arith; above = u; inside = omega arith; most = omega arith; deep = omega arith }

  pub position_below : a.position.0 < code_size o m
  position_below =
      subst (λ (x : ℕ). x < code_size o m) position_read
      (subst (λ (k : ℕ). frame_position v a.base.0 < code_size o k) method_read (position_inside r.runs))

  pub code_small : code_size o m < 65536
  code_small = subst (λ (k : ℕ). code_size o k < 65536) method_read (coded r.runs).small

  pub leaving : Leaving stack a
  leaving = let k = ends in let p = position_below in let s = code_small in (omega arith, omega arith, r.stands.above, omega arith)

-- ---- a frame taken from its words

module _ (n b : ℕ) (contents bodies stack : List ℕ) (t : StackPosition) where
  abbrev oₑ : Objects
  oₑ = objects_at n b contents bodies

  abbrev mₑ : ℕ
  mₑ = frame_method stack t.0

  pub entered : (c : Code) (word temporaries operands : ℕ) → CodeAt n b contents bodies mₑ c → word ≡ header oₑ mₑ → temporaries ≡ temporaries_of word
      → operands ≡ t.0 + 6 + temporaries
      → Held n b t.0 contents bodies stack (record {
        base = t;
        code = c.from;
        limit = c.end;
        operands = record { 0 = operands };
        position = record { 0 = frame_position stack t.0 };
        end = record { 0 = operands + frame_depth stack t.0 };
      })
  entered c word temporaries operands q e d f =
      record {
        base = refl;
        same = ap (λ (l : List ℕ). set l (t.0 + 2) (operands + frame_depth stack t.0 - operands)) (set_same stack (t.0 + 1) (frame_position stack t.0) refl)
            ∙ set_same stack (t.0 + 2) (operands + frame_depth stack t.0 - operands) (omega arith);
        stands = record { code = q.from; limit = q.end; operands = f ∙ ap (λ (k : ℕ). t.0 + 6 + k) (d ∙ ap temporaries_of e); above = omega arith };
      }

module _ {n b top : ℕ} {contents bodies stack : List ℕ} {a : Active} (h : Held n b top contents bodies stack a) (low : top + 3 ≤ length stack) where
  pub depth_taken : a.end.0 - a.operands.0 ≡ frame_depth stack a.base.0
  depth_taken =
      let l = length-set stack (a.base.0 + 1) a.position.0 in
      let e = h.base in
      sym (get_or-set_same (set stack (a.base.0 + 1) a.position.0) (a.base.0 + 2) (a.end.0 - a.operands.0) 0 (omega arith))
      ∙ ap (λ (x : List ℕ). get_or x (a.base.0 + 2) 0) h.same

  pub position_taken : a.position.0 ≡ frame_position stack a.base.0
  position_taken =
      let e = h.base in
      sym (get_or-set_other (set stack (a.base.0 + 1) a.position.0) (a.base.0 + 2) (a.base.0 + 1) (a.end.0 - a.operands.0) 0 (omega arith)
      ∙ get_or-set_same stack (a.base.0 + 1) a.position.0 0 (omega arith))
      ∙ ap (λ (x : List ℕ). get_or x (a.base.0 + 1) 0) h.same

-- ---- its code as a part of the bodies

pub record Lends (n b : ℕ) (contents bodies stack : List ℕ) (a : Active) : Type 0 where
  pub ordered : a.code ≤ a.limit
  pub inside : a.limit ≤ length bodies
  pub words : take (a.limit - a.code) (drop a.code bodies) ≡ code_words (objects_at n b contents bodies) (frame_method stack a.base.0)

pub lends : {n b : ℕ} {contents bodies stack : List ℕ} {a : Active} → IsActive n b contents bodies stack a → Lends n b contents bodies stack a
lends {n} {b} {contents} {bodies} {stack} {a} r =
    let c = code_at (active_method r (frame_method stack a.base.0) refl) refl refl refl in
    let f = c.from in
    let e = c.end in
    let x = r.stands.code in
    let y = r.stands.limit in
    let from : a.code ≡ _ = x ∙ sym f in
    let end : a.limit ≡ _ = y ∙ sym e in
    record {
      ordered = let k = c.ordered in omega arith;
      inside = let k = c.inside in omega arith;
      words = ap₂ (λ (u v : ℕ). take (v - u) (drop u bodies)) from end ∙ c.words;
    }

-- ---- the frame after a bytecode that leaves it on top

module _ (n' b' : ℕ) (contents' bodies' : List ℕ) {n b : ℕ} {contents bodies stack : List ℕ} {a : Active} (r : IsActive n b contents bodies stack a)
    (x : Extends (objects_at n b contents bodies) (objects_at n' b' contents' bodies')) where
  abbrev oₓ : Objects
  oₓ = objects_at n b contents bodies

  abbrev o' : Objects
  o' = objects_at n' b' contents' bodies'

  abbrev mₓ : ℕ
  mₓ = frame_method stack a.base.0

  is_kind_lem : T (is_kind oₓ method_kind mₓ)
  is_kind_lem = (active_method r mₓ refl).kinds

  starts : start o' (object_number mₓ) ≡ start oₓ (object_number mₓ)
  starts = let h = named oₓ method_kind mₓ is_kind_lem in x.entries (mₓ / 2) 2 h.least h.most (omega arith)

  long : body_words o' (object_number mₓ) ≡ body_words oₓ (object_number mₓ)
  long = let h = named oₓ method_kind mₓ is_kind_lem in words_same x (object_number mₓ) h.least h.most

  pub stands_onward : {stack' : List ℕ} (q : CodePosition) (e : StackPosition) → Onward a stack stack' e.0 → Stands n' b' contents' bodies' stack' (moved_on a q e)
  stands_onward q e w =
      let s = r.stands in
      let p = sym w.method in
      record {
        code = s.code ∙ ap₂ (λ (u v : ℕ). u + (2 + v)) (sym starts) (sym (literal_count_same x r.runs.right mₓ is_kind_lem))
            ∙ ap (λ (k : ℕ). start o' (object_number k) + (2 + literal_count o' k)) p;
        limit = s.limit ∙ ap₂ ◌+◌ (sym starts) (sym long) ∙ ap (λ (k : ℕ). start o' (object_number k) + body_words o' (object_number k)) p;
        operands = s.operands ∙ ap (λ (k : ℕ). a.base.0 + 6 + k) (sym (temporaries_same x r.runs.right mₓ is_kind_lem)) ∙ ap (λ (k : ℕ). operands_start o' k a.base.0) p;
        above = w.above;
      }
