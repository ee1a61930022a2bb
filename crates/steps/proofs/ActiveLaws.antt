-- The instruction of the frame that the run loop holds, and what a bytecode's writes are in it.
use Prim.Native.Nat.{ℕ, ◌+◌, ◌-◌, ◌*◌, ◌≤◌, ◌<◌}
use mathlib.Core.Path.{◌≡◌, refl, sym, ap, ◌∙◌, subst}
use mathlib.Core.List.{List}
use native.Mathlib.Omega.{arith}
use lib.ListN.{length, set, take, drop}
use Rattle.bytecode.specs.Code.{byte_at, bytes_after, instruction_of, next_at}
use Rattle.bytecode.specs.declared.Instruction.{Instruction}
use Rattle.model.specs.Word.{object_number}
use Rattle.model.specs.Objects.{Objects, objects_at, body_words}
use Rattle.model.specs.Method.{literal_count, code_words, code_size}
use Rattle.model.proofs.Parts.{length_part}
use Rattle.model.specs.declared.CodePosition.{CodePosition}
use Rattle.model.specs.declared.StackPosition.{StackPosition}
use Rattle.plain.specs.Flat.{frame_method, frame_position}
use Rattle.plain.specs.Running.{At, Moved}
use Rattle.frames.specs.declared.Active.{Active}
use Rattle.frames.specs.Active.{written, moved_on, IsActive}
use Rattle.frames.proofs.Standing.{coded, next_inside, decode_is}
use Rattle.frames.proofs.ActiveLaws.{method_read, position_read, depth_read, operands_read, position_below, code_small, ends, lends, moves_on, puts, put_method}
use Rattle.steps.specs.declared.Event.{Event}
use Rattle.steps.specs.declared.Event.TheVariants.{Next}
use Rattle.steps.specs.Events.{HereAt, Doing, Pushed, here_of, answered, Says}
use Rattle.steps.proofs.MoveLaws.{same_two, same_three}

abbrev at_bytes : List ℕ → ℕ → Instruction
at_bytes c q = instruction_of (byte_at c q) (bytes_after c q)

-- ---- its instruction

module _ {n b : ℕ} {contents bodies stack : List ℕ} {a : Active} (r : IsActive n b contents bodies stack a) where
  abbrev o : Objects
  o = objects_at n b contents bodies

  abbrev m : ℕ
  m = frame_method stack a.base.0

  abbrev v : List ℕ
  v = written a stack

  abbrev p : ℕ
  p = a.position.0

  -- the code's words as they are lent
  abbrev lent : List ℕ
  lent = take (a.limit - a.code) (drop a.code bodies)

  next_read : next_at lent p ≡ next_at (code_words o (frame_method v a.base.0)) (frame_position v a.base.0)
  next_read = λ j. next_at (((lends r).words ∙ ap (code_words o) (sym (method_read r))) j) (sym (position_read r) j)

  bytes_read : at_bytes lent p ≡ at_bytes (code_words o (frame_method v a.base.0)) (frame_position v a.base.0)
  bytes_read = λ j. at_bytes (((lends r).words ∙ ap (code_words o) (sym (method_read r))) j) (sym (position_read r) j)

  -- the instruction is whole
  pub whole : (next_at lent p ≤ 2 * length lent) × (p < 65536)
  whole =
      let l = lends r in
      let k = length_part bodies a.code (a.limit - a.code) (let x = l.ordered in let y = l.inside in omega arith) in
      let e = r.stands.code in
      let f = r.stands.limit in
      let x = subst (λ (y : ℕ). next_at lent p ≤ code_size o y) (method_read r) (let u = next_inside r.runs in let z = next_read in omega arith) in
      let w = subst (λ (y : ℕ). code_size o y ≤ 2 * (body_words o (object_number y) - (2 + literal_count o y))) (method_read r) (coded r.runs).words in
      let s = code_small r in
      let q = position_below r in
      (omega arith, omega arith)

  pub doing : (next : ℕ) (i : Instruction) → i ≡ at_bytes lent p → next ≡ next_at lent p → Doing n b contents bodies stack a next i
  doing next i e d =
      record { active = r; at = record { runs = r.runs; behind = d ∙ next_read; decoded = e ∙ bytes_read ∙ decode_is r.runs } }

  -- The frame with its instruction, as the laws speak of it
  here_of_lem : {next : ℕ} {i : Instruction} → At n b a.base.0 contents bodies v next i → HereAt n b a.base.0 contents bodies v (here_of stack a next) i
  here_of_lem at = record { at = at; is_method = sym (method_read r); is_operands = operands_read r; is_depth = sym (depth_read r) }

-- ---- what events say, by the words that are written

module _ {n b : ℕ} {contents bodies stack : List ℕ} {a : Active} {next : ℕ} {i : Instruction} (d : Doing n b contents bodies stack a next i) where
  pub here : HereAt n b a.base.0 contents bodies (written a stack) (here_of stack a next) i
  here = here_of_lem d.active d.at

  -- nothing is written but position and depth
  pub says_moved : (q : CodePosition) (e : StackPosition) (k : ℕ) → e.0 - a.operands.0 ≡ k → a.operands.0 ≤ e.0
      → ((s : List ℕ) → s ≡ set (set (written a stack) (a.base.0 + 1) q.0) (a.base.0 + 2) k → Moved n b a.base.0 contents bodies (written a stack) bodies s)
      → Says n b contents a bodies stack bodies stack (Next q e)
  says_moved q e k c h g =
      (g (written (moved_on a q e) stack) (moves_on a stack q e ∙ same_two (written a stack) refl refl refl c), record { method = refl; above = h })

  -- a word in the place of the `taken` uppermost operands
  pub says_answered : (taken w at : ℕ) (q : CodePosition) (e : StackPosition) (stack' : List ℕ) → stack' ≡ set stack at w → q.0 ≡ next
      → at ≡ a.end.0 - taken → e.0 ≡ a.end.0 - taken + 1 → taken ≤ a.end.0 - a.operands.0
      → ((s : List ℕ) → s ≡ answered (written a stack) a.base.0 (here_of stack a next) taken w → Moved n b a.base.0 contents bodies (written a stack) bodies s)
      → Says n b contents a bodies stack bodies stack' (Next q e)
  says_answered taken w at q e stack' c g p t l m =
      let k = ends d.active in
      subst (λ (s : List ℕ). Says n b contents a bodies stack bodies s (Next q e)) (sym c) (
        m (written (moved_on a q e) (set stack at w)) (puts a stack at w (omega arith) q e ∙ same_three (written a stack) (omega arith) refl refl g refl
            (omega arith)),
        record { method = put_method a stack at w (omega arith) (omega arith); above = omega arith },
      )

  -- a push
  pub says_pushed : (w : ℕ) (stack' : List ℕ) (r : Event) → Pushed stack a next w stack' r
      → ((s : List ℕ) → s ≡ answered (written a stack) a.base.0 (here_of stack a next) 0 w → Moved n b a.base.0 contents bodies (written a stack) bodies s)
      → Says n b contents a bodies stack bodies stack' r
  says_pushed w stack' r p m =
      let k = ends d.active in
      subst (Says n b contents a bodies stack bodies stack') (sym p.event)
      (says_answered 0 w a.end.0 (record { 0 = next }) (record { 0 = a.end.0 + 1 }) stack' p.words refl (omega arith) (omega arith) (omega arith) m)
