-- What the functions of the walk ask of and promise each other. `t` are the notes, `s` the pending positions, of which the first `waiting` count.
use Rattle.std.specs.Prelude.{ℕ, suc, ◌+◌, ◌-◌, ◌*◌, ◌<◌, ◌≤◌, ◌≡◌, ◌⊎◌, Bool, true, false, ◌&&◌, T, length, get_or, replicate}
use mathlib.Core.List.{List, [], ◌∷◌, Memᴰ}
use Rattle.std.proofs.Math.Option.{Option, none, some}
use Rattle.bytecode.specs.Code.{byte_at}
use Rattle.bytecode.specs.Table.{Entry, IsTable}
use Rattle.bytecode.specs.declared.Instruction.{Instruction}
use Rattle.model.specs.Depth.{HasTable, successorsAt, depthAfterAt, fineAt, depthTable, is_some}
use Rattle.model.proofs.Marks.{zeros}
use Rattle.model.proofs.WalkLaws.{At}
use Rattle.flow.specs.Index.{indexed_by}
use Rattle.flow.specs.declared.Went.{Went}
use Rattle.flow.specs.declared.Went.TheVariants.{Fresh, Known, Stuck}

-- the most code bytes that an image has room for, and the most words of a frame for temporaries and operands
abbrev pub most_code : ℕ
most_code = 48000

abbrev pub most_depth : ℕ
most_depth = 32

abbrev pub Noted : List ℕ → ℕ → ℕ → Type 0
Noted t p d = get_or t p 0 ≡ suc d

-- one more than the positions that are pending, 0 where it is stuck
unfoldable pub pending_after : Went → ℕ
pending_after (Fresh k p d) = suc k
pending_after (Known k p d) = suc k
pending_after Stuck = 0

-- it goes on with so many
pub record Goes (r : Went) (k : ℕ) : Type 0 where
  pub count : pending_after r ≡ suc k

-- what it says of the last of them
pub record Latest (t s : List ℕ) (r : Went) : Type 0 where
  pub last : (k p d : ℕ) → r ≡ Fresh k p d → (0 < k) × (get_or s (k - 1) 0 ≡ p) × Noted t p d

-- The sum has two uses: each position is pushed once, so that there is room for it; and it falls with each turn.
pub record Asks (t s : List ℕ) (waiting room : ℕ) : Type 0 where
  pub count : waiting + zeros t ≤ length t
  pub long : length t ≤ length s
  pub small : length t ≤ most_code
  pub shallow : room ≤ most_depth

-- Position p has the depth d now: it had it before, or is new and pending.
pub record Visited (room : ℕ) (t s : List ℕ) (waiting p d : ℕ) (t' s' : List ℕ) (waiting' : ℕ) : Type 0 where
  pub within : d ≤ room
  pub lengths : (length t' ≡ length t) × (length s' ≡ length s)
  pub count : waiting' + zeros t' ≡ waiting + zeros t
  pub more : waiting ≤ waiting'
  pub here : Noted t' p d
  pub kept : (q k : ℕ) → Noted t q k → Noted t' q k
  pub grown : (q k : ℕ) → Noted t' q k → Noted t q k ⊎ ((q ≡ p) × (k ≡ d) × (waiting < waiting'))
  pub stack : (k : ℕ) → k < waiting → get_or s' k 0 ≡ get_or s k 0
  pub pushed : (k : ℕ) → waiting ≤ k → k < waiting' → get_or s' k 0 ≡ p

-- too deep, outside, or noted with another depth
abbrev pub Refused : ℕ → List ℕ → ℕ → ℕ → Type 0
Refused room t p d = (room < d) ⊎ ((length t ≤ p) ⊎ ((e : ℕ) × Noted t p e × (e ≡ d → ⊥)))

pub record Visit (room : ℕ) (t s : List ℕ) (waiting p d : ℕ) (t' s' : List ℕ) (r : Went) : Type 0 where
  pub goes : (k : ℕ) → Goes r k → Visited room t s waiting p d t' s' k
  pub ends : r ≡ Stuck → Refused room t p d
  pub latest : Latest t' s' r

-- all positions of a list, in turn, position q with depth d q
unfoldable pub Visits : ℕ → List ℕ → (ℕ → ℕ) → List ℕ → List ℕ → ℕ → List ℕ → List ℕ → Went → Type 0
Visits room [] d t s waiting t' s' r = (t' ≡ t) × (s' ≡ s) × Goes r waiting × Latest t s r
Visits room (q ∷ qs) d t s waiting t' s' r =
    (Refused room t q (d q) × (r ≡ Stuck))
    ⊎ ((t₁ : List ℕ) × (s₁ : List ℕ) × (waiting₁ : ℕ) × Visited room t s waiting q (d q) t₁ s₁ waiting₁ × Visits room qs d t₁ s₁ waiting₁ t' s' r)

-- the same where the instruction keeps its rules
pub record Step (room : ℕ) (ok : Bool) (qs : List ℕ) (d : ℕ → ℕ) (t s : List ℕ) (waiting : ℕ) (t' s' : List ℕ) (r : Went) : Type 0 where
  pub holds : ok ≡ true → Visits room qs d t s waiting t' s' r
  pub fails : ok ≡ false → r ≡ Stuck

-- one depth for every position
abbrev pub alike : ℕ → ℕ → ℕ
alike d = λ q. d

-- nobody
abbrev pub Nobody : ℕ → Type 0
Nobody p = ⊥

-- p is among the pending
abbrev pub Pending : List ℕ → ℕ → ℕ → Type 0
Pending s waiting p = (k : ℕ) × (k < waiting) × (get_or s k 0 ≡ p)

module _ (fine : ℕ → ℕ → Bool) (next : ℕ → List ℕ) (after : ℕ → ℕ → ℕ → ℕ) (room : ℕ) where
  -- a position is dealt with: it keeps its rules, and what follows is noted
  pub record Done (t : List ℕ) (p d : ℕ) : Type 0 where
    pub holds : T (fine p d)
    pub along : (q : ℕ) → Memᴰ q (next p) → Noted t q (after p q d)

  -- The invariant: each noted position is reached with its depth, and is busy, pending or dealt with.
  pub record Walk (t s : List ℕ) (waiting : ℕ) (Busy : ℕ → Type 0) : Type 0 where
    pub count : waiting + zeros t ≤ length t
    pub first : Noted t 0 0
    pub path : (p d : ℕ) → Noted t p d → At next after p d
    pub within : (p d : ℕ) → Noted t p d → d ≤ room
    pub queued : (k : ℕ) → k < waiting → (d : ℕ) × Noted t (get_or s k 0) d
    pub done : (p d : ℕ) → Noted t p d → Busy p ⊎ (Pending s waiting p ⊎ Done t p d)

  -- a turn keeps it and uses something up, or shows that there is no table
  pub record Turn (t s : List ℕ) (waiting : ℕ) (t' s' : List ℕ) (r : Went) : Type 0 where
    pub goes : (k : ℕ) → Goes r k → Walk t' s' k Nobody × (k + zeros t' < waiting + zeros t)
    pub ends : r ≡ Stuck → HasTable fine next after → ⊥
    pub latest : Latest t' s' r

-- the rules of an instruction: those on its index, and more
abbrev pub rule_by : List ℕ → (Instruction → Bool) → Instruction → Bool
rule_by counts more i = indexed_by counts i && more i

-- The walk over code of `size` bytes, by counts of which number 2 is the temporaries; with room for so many operands beside them
module _ (counts words : List ℕ) (size room : ℕ) where
  abbrev pub fineIn : ℕ → ℕ → Bool
  fineIn = fineAt words size (get_or counts 2 0) (get_or counts 2 0 + room) (indexed_by counts)

  -- b is the byte at p, and e its entry
  pub record Here (p d b e : ℕ) : Type 0 where
    pub one : get_or counts 0 0 ≡ 1
    pub inside : p < size
    pub covered : size ≤ 2 * length words
    pub byte : b ≡ byte_at words p
    pub entry : Entry b e
    pub shallow : d ≤ room

  abbrev pub Expand : ℕ → ℕ → List ℕ → List ℕ → ℕ → List ℕ → List ℕ → Went → Type 0
  Expand p d t s waiting t' s' r = Step room (fineIn p d) (successorsAt words size p) (λ q. depthAfterAt words size p q d) t s waiting t' s' r

  -- with further rules of an instruction
  module _ (more : Instruction → Bool) where
    abbrev pub fineBy : ℕ → ℕ → Bool
    fineBy = fineAt words size (get_or counts 2 0) (get_or counts 2 0 + room) (rule_by counts more)

    abbrev pub tableBy : Option (List ℕ)
    tableBy = depthTable words size (get_or counts 2 0) (get_or counts 2 0 + room) (rule_by counts more)

    pub record Walking (t s : List ℕ) (waiting : ℕ) : Type 0 where
      pub walk : Walk fineBy (successorsAt words size) (depthAfterAt words size) room t s waiting Nobody

    -- at p, the last of the pending positions, with its depth
    pub record WalkingAt (t s : List ℕ) (waiting p d : ℕ) : Type 0 where
      pub walking : Walking t s waiting
      pub left : 0 < waiting
      pub last : get_or s (waiting - 1) 0 ≡ p
      pub noted : Noted t p d

    pub record TurnAt (t s : List ℕ) (waiting : ℕ) (t' s' : List ℕ) (r : Went) : Type 0 where
      pub goes : (k : ℕ) → Goes r k → Walking t' s' k × (k + zeros t' < waiting + zeros t)
      pub ends : r ≡ Stuck → tableBy ≡ none
      pub latest : Latest t' s' r

-- what does not change on the way
pub record Static (table counts words : List ℕ) (room : ℕ) (t s : List ℕ) : Type 0 where
  pub entries : IsTable table
  pub one : get_or counts 0 0 ≡ 1
  pub covered : length t ≤ 2 * length words
  pub long : length t ≤ length s
  pub small : length t ≤ most_code
  pub shallow : room ≤ most_depth

-- r says whether there is a table, and t is it
unfoldable pub Answer : Option (List ℕ) → List ℕ → Bool → Type 0
Answer o t true = o ≡ some t
Answer o t false = o ≡ none

-- The walk's contract. What it is lent: the table of entries, words that hold the code, room to keep pending positions
pub record Lent (table words : List ℕ) (limit : ℕ) (notes pending : List ℕ) : Type 0 where
  pub entries : IsTable table
  pub covered : length notes ≤ 2 * length words
  pub long : length notes ≤ length pending
  pub small : length notes ≤ most_code
  pub shallow : limit ≤ most_depth

-- the notes of a depth table, all 0 where there is none
abbrev pub notes_of : ℕ → Option (List ℕ) → List ℕ
notes_of size none = replicate size 0
notes_of size (some t) = t

pub record Walked (found : Option (List ℕ)) (size : ℕ) (notes : List ℕ) (r : Bool) : Type 0 where
  pub answer : r ≡ is_some found
  pub noted : notes ≡ notes_of size found
