-- Reached positions and the depth table (01, "Code", third paragraph): what they are, and how they are computed.
-- The proof that the computation decides the statement is `decides` in proofs/DepthLaws.antt.
use Rattle.std.specs.Prelude.{ℕ, zero, suc, ◌+◌, ◌*◌, ◌≡◌, Bool, true, false, T, leb, eqb, get_or, set, replicate}
use mathlib.Core.List.{List, [], ◌∷◌, ◌++◌, map, Memᴰ}
use Rattle.std.proofs.Math.Option.{Option, none, some}
use Rattle.bytecode.specs.Test.{all_of}
use Rattle.bytecode.specs.Code.{next_at, decode_at}
use Rattle.bytecode.specs.Effect.{need, depth_after, usable, successors}
use Rattle.bytecode.specs.declared.Instruction.{Instruction}

-- The statement, for code whose positions have these successors and whose instruction at p keeps its rules at depth d where `fine p d`
-- says so, and leaves its successor q the depth `after p q d`.

-- Position 0 is reached, and all that follow a reached position.
pub data Reached (next : ℕ → List ℕ) : ℕ → Type 0 where
  first : Reached next 0
  onward : {p q : ℕ} → Reached next p → Memᴰ q (next p) → Reached next q

-- Position 0 has depth 0, every reached instruction keeps its rules, and each successor has the depth that it leaves it.
pub record DepthTable (fine : ℕ → ℕ → Bool) (next : ℕ → List ℕ) (after : ℕ → ℕ → ℕ → ℕ) (t : ℕ → ℕ) : Type 0 where
  pub start : t 0 ≡ 0
  pub kept : (p : ℕ) → Reached next p → T (fine p (t p))
  pub along : (p q : ℕ) → Reached next p → Memᴰ q (next p) → t q ≡ after p q (t p)

abbrev pub HasTable : (ℕ → ℕ → Bool) → (ℕ → List ℕ) → (ℕ → ℕ → ℕ → ℕ) → Type 0
HasTable fine next after = (t : ℕ → ℕ) × DepthTable fine next after t

-- The computation. `notes` has a number for each byte of the code: 0 where nothing is known, else one more than the depth there.
-- `pending` are positions to visit, each with its depth. `again` is the rest of the walk, as a function so that it waits.
module _ (fine : ℕ → ℕ → Bool) (next : ℕ → List ℕ) (after : ℕ → ℕ → ℕ → ℕ) where
  abbrev pub following : ℕ → ℕ → List (ℕ × ℕ)
  following p d = map (λ q. (q, after p q d)) (next p)

  -- a position not seen yet: it keeps its rules, and its successors are to be visited
  abbrev pub expanded : (List ℕ → List (ℕ × ℕ) → Option (List ℕ)) → List ℕ → ℕ → ℕ → List (ℕ × ℕ) → Bool → Option (List ℕ)
  expanded again notes p d pending true = again (set notes p (suc d)) (following p d ++ pending)
  expanded again notes p d pending false = none

  -- a position seen before: the two depths are equal
  abbrev pub compared : (List ℕ → List (ℕ × ℕ) → Option (List ℕ)) → List ℕ → List (ℕ × ℕ) → Bool → Option (List ℕ)
  compared again notes pending true = again notes pending
  compared again notes pending false = none

  abbrev pub visited : (List ℕ → List (ℕ × ℕ) → Option (List ℕ)) → List ℕ → ℕ → ℕ → List (ℕ × ℕ) → ℕ → Option (List ℕ)
  visited again notes p d pending zero = expanded again notes p d pending (fine p d)
  visited again notes p d pending (suc e) = compared again notes pending (eqb e d)

  unfoldable pub walk : ℕ → List ℕ → List (ℕ × ℕ) → Option (List ℕ)
  walk zero notes pending = none
  walk (suc fuel) notes [] = some notes
  walk (suc fuel) notes (x ∷ pending) =
      visited (λ t q. walk fuel t q) notes x.0 x.1 pending (get_or notes x.0 0)

-- A position is expanded once and has at most two successors: 2 · size + 2 turns are enough.
unfoldable pub walk_from : (ℕ → ℕ → Bool) → (ℕ → List ℕ) → (ℕ → ℕ → ℕ → ℕ) → ℕ → Option (List ℕ)
walk_from fine next after size = walk fine next after (2 * size + 2) (replicate size 0) ((0, 0) ∷ [])

abbrev pub is_some : {A : Type 0} → Option A → Bool
is_some none = false
is_some (some a) = true

-- what is noted at a position, nothing where there is no table
abbrev pub note_at : Option (List ℕ) → ℕ → ℕ
note_at none p = 0
note_at (some notes) p = get_or notes p 0

-- Code of `size` bytes in these words
module _ (words : List ℕ) (size : ℕ) where
  unfoldable pub successorsAt : ℕ → List ℕ
  successorsAt p = successors (next_at words p) (decode_at words size p)

  -- every instruction leaves all its successors the same depth today
  unfoldable pub depthAfterAt : ℕ → ℕ → ℕ → ℕ
  depthAfterAt p q d = depth_after (decode_at words size p) d

  -- in a method with these temporaries and frame words. `allowed` are the rules of a single instruction that do not speak of depth.
  module _ (temporaries limit : ℕ) (allowed : Instruction → Bool) where
    -- whole, inside the code, used, and no jump before position 0; its own rules; the operands that it needs; temporaries and operands
    -- fit the frame
    unfoldable pub rulesAt : ℕ → ℕ → List Bool
    rulesAt p d =
        usable (next_at words p) (decode_at words size p) ∷
        allowed (decode_at words size p) ∷
        leb (need (decode_at words size p)) d ∷
        leb (temporaries + d) limit ∷
        []

    unfoldable pub fineAt : ℕ → ℕ → Bool
    fineAt p d = all_of (rulesAt p d)

    -- Sound code, as 01 has it: a depth table exists.
    abbrev pub Sound : Type 0
    Sound = HasTable fineAt successorsAt depthAfterAt

    unfoldable pub depthTable : Option (List ℕ)
    depthTable = walk_from fineAt successorsAt depthAfterAt size
