-- What the byte at a position and its entry say of the instruction there: its rules at a depth, its successors and the depth after it.
use Prim.Native.Nat.{ℕ, ◌+◌, ◌-◌, ◌*◌, ◌/◌, ◌%◌, ◌<◌, ◌≤◌}
use mathlib.Core.Path.{◌≡◌, refl, sym, ap, ◌∙◌}
use mathlib.Core.Bool.{Bool, true, false, ◌&&◌}
use mathlib.Core.List.{List, [], ◌∷◌}
use native.Mathlib.Omega.{arith}
use borrow.Author.Tests.{le-leb, lt-leb}
use lib.Dec.{ltb, leb}
use lib.ListN.{length, get_or}
use Rattle.bytecode.specs.Code.{bytes_after, instruction_of, length_of, next_at, decode_at}
use Rattle.bytecode.specs.Effect.{need, leaves, usable, successors}
use Rattle.bytecode.specs.Table.{group, extra_of, group_part, length_part, need_part, leaves_part, bound_part, index_part}
use Rattle.bytecode.specs.declared.Instruction.{Instruction}
use Rattle.bytecode.specs.declared.Instruction.TheVariants.{Jump, JumpOn, Unused}
use Rattle.bytecode.proofs.Choice.{if_le}
use Rattle.bytecode.proofs.CodeLaws.{jump_short, jump_on_short, length_middle, length_jump}
use Rattle.bytecode.proofs.EntryLaws.{goes_on, group_of_lem}
use Rattle.bytecode.proofs.PositionLaws.{WholeAt, decoded_alone, plain_at, return_at, unused_at, short_at, whole_at}
use Rattle.model.specs.Depth.{successorsAt, depthAfterAt, rulesAt, fineAt}
use Rattle.flow.specs.Index.{indexed, indexed_by}
use Rattle.flow.specs.Walk.{alike, Step, fineIn, Here, Expand}
use Rattle.flow.specs.declared.Went.{Went}
use Rattle.flow.specs.declared.Went.TheVariants.{Stuck}
use Rattle.flow.proofs.StepLaws.{step_as, step_no}
use Rattle.flow.proofs.InstructionLaws.{said, return_indexed, extended_goes_on, jump_long, jump_on_long}

and_true : (a : Bool) → a && true ≡ a
and_true true = refl
and_true false = refl

module _ {counts words : List ℕ} {size room p d b e : ℕ} (small : b < 256) (h : Here counts words size room p d b e) where
  abbrev here : Instruction
  here = decode_at words size p

  abbrev following : ℕ → ℕ
  following = bytes_after words p

  abbrev x : ℕ
  x = following 1

  -- a long jump's second byte stands in the words
  pub second_inside : 160 ≤ b → b < 176 → p + length_part e ≤ size → (p + 1) / 2 < length words
  second_inside l u whole =
      let k : length_part e ≡ 2 = h.entry.length ∙ length_jump b (omega arith) l u in
      let c = h.covered in
      omega arith

  fine_of : usable (next_at words p) here ≡ true → fineIn counts words size room p d ≡ indexed_by counts here && leb (need here) d
  unfolding fineAt rulesAt
  fine_of u =
      let deep : leb (get_or counts 2 0 + d) (get_or counts 2 0 + room) ≡ true = le-leb (get_or counts 2 0 + d) (get_or counts 2 0 + room) (let s = h.shallow in omega arith) in
      rw (u, deep, and_true (leb (need here) d)) refl

  fine_unused : here ≡ Unused → fineIn counts words size room p d ≡ false
  unfolding fineAt rulesAt usable
  fine_unused z = rw z refl

  follow_of : successorsAt words size p ≡ successors (next_at words p) here
  unfolding successorsAt
  follow_of = refl

  after_of : (λ q. depthAfterAt words size p q d) ≡ alike (d - need here + leaves here)
  unfolding depthAfterAt
  after_of = refl

  whole_here : p + length_part e ≤ size → WholeAt words size p b e
  whole_here whole = whole_at words size p b e h.inside h.byte h.entry small whole

  next_at_lem : p + length_part e ≤ size → (k : ℕ) → length_of b ≡ k → next_at words p ≡ p + k
  next_at_lem whole k l = (whole_here whole).after ∙ ap (λ (j : ℕ). p + j) (h.entry.length ∙ l)

  module _ {t s : List ℕ} {waiting : ℕ} {t' s' : List ℕ} {r : Went} where
    expand_as : (ok : Bool) (qs : List ℕ) (k : ℕ) → fineIn counts words size room p d ≡ ok → successorsAt words size p ≡ qs → d - need here + leaves here ≡ k
        → Step room ok qs (alike k) t s waiting t' s' r → Expand counts words size room p d t s waiting t' s' r
    expand_as ok qs k f g i z = step_as f g (after_of ∙ ap alike i) z

    -- group 0
    pub expand_plain : group_part e ≡ 0
        → Step room (ltb (index_part e) (get_or counts (bound_part e) 0) && leb (need_part e) d) ((p + 1) ∷ []) (alike (d - need_part e + leaves_part e)) t s waiting t' s' r
        → Expand counts words size room p d t s waiting t' s' r
    expand_plain g z =
        let a = plain_at words size p b e h.inside h.byte h.entry g in
        let w = decoded_alone words size p b e h.inside h.byte h.entry (group_of_lem b (λ q. let v = h.entry.group in omega arith)).0 in
        let i : indexed_by counts here ≡ ltb (index_part e) (get_or counts (bound_part e) 0) =
        ap (indexed_by counts) w ∙ said counts h.one b small (sym h.entry.group ∙ g)
        ∙ sym (λ k. ltb (h.entry.indexes k) (get_or counts (h.entry.bounds k) 0)) in
        expand_as (ltb (index_part e) (get_or counts (bound_part e) 0) && leb (need_part e) d) ((p + 1) ∷ []) (d - need_part e + leaves_part e)
        (fine_of a.used ∙ (λ k. i k && leb (a.said.needs k) d))
        (follow_of ∙ a.follow)
        (λ k. d - a.said.needs k + a.said.leave k)
        z

    pub expand_return : group_part e ≡ 1 → Step room (leb (need_part e) d) [] (alike (d - need_part e + leaves_part e)) t s waiting t' s' r → Expand counts words size room p d t s waiting t' s' r
    expand_return g z =
        let a = return_at words size p b e h.inside h.byte h.entry g in
        let i : indexed_by counts here ≡ true = return_indexed counts here (a.said.groups ∙ g) in
        expand_as (leb (need_part e) d) [] (d - need_part e + leaves_part e)
        (fine_of a.used ∙ (λ k. i k && leb (a.said.needs k) d))
        (follow_of ∙ a.follow)
        (λ k. d - a.said.needs k + a.said.leave k)
        z

    -- 128 to 134
    pub expand_extended : 128 ≤ b → b < 135 → p + length_part e ≤ size
        → Step room (indexed_by counts (instruction_of b following) && leb (need_part e + extra_of b x) d) ((p + length_part e) ∷ [])
        (alike (d - (need_part e + extra_of b x) + leaves_part e)) t s waiting t' s' r
        → Expand counts words size room p d t s waiting t' s' r
    expand_extended l u whole z =
        let a = whole_here whole in
        let g = goes_on (next_at words p) here (ap group a.decoded ∙ extended_goes_on following b l u) in
        expand_as (indexed_by counts (instruction_of b following) && leb (need_part e + extra_of b x) d) ((p + length_part e) ∷ []) (d - (need_part e + extra_of b x) + leaves_part e)
        (fine_of g.0 ∙ (λ k. indexed_by counts (a.decoded k) && leb (a.needs k) d))
        (follow_of ∙ g.1 ∙ ap (λ (k : ℕ). k ∷ []) a.after)
        (λ k. d - a.needs k + a.leave k)
        z

    -- jumps, by the instruction that is there
    as_jump : (ahead back to : ℕ) → here ≡ Jump ahead back → next_at words p + ahead ≡ back + to
        → Step room true (to ∷ []) (alike d) t s waiting t' s' r → Expand counts words size room p d t s waiting t' s' r
    as_jump ahead back to i q z =
        let ok : leb back (next_at words p + ahead) ≡ true = le-leb back (next_at words p + ahead) (omega arith) in
        expand_as true (to ∷ []) d
        (fine_of (ap (usable (next_at words p)) i ∙ jump_usable ok) ∙ (λ k. indexed_by counts (i k) && leb (need (i k)) d) ∙ jump_fine)
        (follow_of ∙ ap (successors (next_at words p)) i ∙ jump_follow)
        ((λ k. d - need (i k) + leaves (i k)) ∙ jump_after)
        z
      where
        jump_usable : leb back (next_at words p + ahead) ≡ true → usable (next_at words p) (Jump ahead back) ≡ true
        jump_usable ok = unfold usable in ok

        jump_fine : indexed_by counts (Jump ahead back) && leb (need (Jump ahead back)) d ≡ true
        jump_fine = unfold indexed in unfold need in le-leb 0 d (omega arith)

        jump_follow : successors (next_at words p) (Jump ahead back) ≡ to ∷ []
        jump_follow = unfold successors in if_le back (next_at words p + ahead) ((next_at words p + ahead - back) ∷ []) [] (omega arith) ∙ ap (λ (k : ℕ). k ∷ []) (omega arith)

        jump_after : d - need (Jump ahead back) + leaves (Jump ahead back) ≡ d
        jump_after = unfold need in unfold leaves in omega arith

    as_fork : (c : Bool) (ahead next to : ℕ) → here ≡ JumpOn c ahead → next_at words p ≡ next → next + ahead ≡ to
        → Step room (leb 1 d) (next ∷ to ∷ []) (alike (d - 1)) t s waiting t' s' r → Expand counts words size room p d t s waiting t' s' r
    as_fork c ahead next to i f q z =
        expand_as (leb 1 d) (next ∷ to ∷ []) (d - 1)
        (fine_of (ap (usable (next_at words p)) i ∙ fork_usable) ∙ (λ k. indexed_by counts (i k) && leb (need (i k)) d) ∙ fork_fine)
        (follow_of ∙ ap (successors (next_at words p)) i ∙ fork_follow)
        ((λ k. d - need (i k) + leaves (i k)) ∙ fork_after)
        z
      where
        fork_usable : usable (next_at words p) (JumpOn c ahead) ≡ true
        fork_usable = unfold usable in refl

        fork_fine : indexed_by counts (JumpOn c ahead) && leb (need (JumpOn c ahead)) d ≡ leb 1 d
        fork_fine = unfold indexed in unfold need in refl

        fork_follow : successors (next_at words p) (JumpOn c ahead) ≡ next ∷ to ∷ []
        fork_follow = unfold successors in (λ k. f k ∷ (f k + ahead) ∷ []) ∙ ap (λ (k : ℕ). next ∷ k ∷ []) q

        fork_after : d - need (JumpOn c ahead) + leaves (JumpOn c ahead) ≡ d - 1
        fork_after = unfold need in unfold leaves in omega arith

    module _ (whole : p + length_part e ≤ size) where
      pub expand_jump : 144 ≤ b → b < 152 → Step room true ((p + 2 + b % 8) ∷ []) (alike d) t s waiting t' s' r → Expand counts words size room p d t s waiting t' s' r
      expand_jump l u z =
          as_jump (b % 8 + 1) 0 (p + 2 + b % 8) ((whole_here whole).decoded ∙ jump_short b following l u) (omega (arith, next_at_lem whole 1 (length_middle b (omega arith) (omega arith)))) z

      pub expand_fork : 152 ≤ b → b < 160 → Step room (leb 1 d) ((p + 1) ∷ (p + 2 + b % 8) ∷ []) (alike (d - 1)) t s waiting t' s' r → Expand counts words size room p d t s waiting t' s' r
      expand_fork l u z =
          as_fork false (b % 8 + 1) (p + 1) (p + 2 + b % 8) ((whole_here whole).decoded ∙ jump_on_short b following l u) (next_at_lem whole 1 (length_middle b (omega arith) u)) (omega arith) z

      pub expand_long : 160 ≤ b → b < 168 → (to : ℕ) → p + 2 + b % 8 * 256 + x ≡ 1024 + to → Step room true (to ∷ []) (alike d) t s waiting t' s' r
          → Expand counts words size room p d t s waiting t' s' r
      expand_long l u to q z =
          as_jump (b % 8 * 256 + x) 1024 to ((whole_here whole).decoded ∙ jump_long b following l u) (omega (arith, next_at_lem whole 2 (length_jump b (omega arith) l (omega arith)))) z

      pub expand_fork_long : 168 ≤ b → b < 176 → Step room (leb 1 d) ((p + 2) ∷ (p + 2 + b % 4 * 256 + x) ∷ []) (alike (d - 1)) t s waiting t' s' r
          → Expand counts words size room p d t s waiting t' s' r
      expand_fork_long l u z =
          let i = jump_on_long b following l u in
          as_fork i.0 (b % 4 * 256 + x) (p + 2) (p + 2 + b % 4 * 256 + x) ((whole_here whole).decoded ∙ i.1) (next_at_lem whole 2 (length_jump b (omega arith) (omega arith) u)) (omega arith) z

  -- where it is stuck at once
  module _ {t s : List ℕ} {waiting : ℕ} {t' s' : List ℕ} where
    stuck_as : fineIn counts words size room p d ≡ false → Expand counts words size room p d t s waiting t' s' Stuck
    stuck_as f = step_no f

    pub expand_unused : 3 ≤ group_part e → Expand counts words size room p d t s waiting t' s' Stuck
    expand_unused g = stuck_as (fine_unused (unused_at words size p b e h.inside h.byte h.entry g))

    pub expand_short : size < p + length_part e → Expand counts words size room p d t s waiting t' s' Stuck
    expand_short g = stuck_as (fine_unused (short_at words size p b e h.inside h.byte h.entry g))

    -- a jump before position 0
    pub expand_before : p + length_part e ≤ size → 160 ≤ b → b < 168 → p + 2 + b % 8 * 256 + x < 1024 → Expand counts words size room p d t s waiting t' s' Stuck
    unfolding fineAt rulesAt usable
    expand_before whole l u q =
        let a = whole_here whole in
        let i : here ≡ Jump (b % 8 * 256 + x) 1024 = a.decoded ∙ jump_long b following l u in
        let v = next_at_lem whole 2 (length_jump b (omega arith) l (omega arith)) in
        let no : leb 1024 (next_at words p + (b % 8 * 256 + x)) ≡ false = lt-leb 1024 (next_at words p + (b % 8 * 256 + x)) (omega arith) in
        stuck_as (rw (i, no) refl)
