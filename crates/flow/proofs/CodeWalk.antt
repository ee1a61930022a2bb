-- The walk over code: what is known of the position that a turn takes, what a turn comes to, and what the end says of the depth table.
use Prim.Native.Nat.{ℕ, zero, suc, ◌+◌, ◌-◌, ◌/◌, ◌<◌, ◌≤◌}
use mathlib.Core.Path.{◌≡◌, refl, sym, ap, ◌∙◌}
use mathlib.Core.Bool.{Bool, true, false, ◌&&◌}
use mathlib.Core.List.{List, [], ◌∷◌}
use mathlib.Core.Option.{Option, none, some}
use native.Mathlib.Omega.{arith}
use lib.Dec.{T, leb→le}
use lib.ListN.{length, get_or, set, replicate, length-set}
use lib.Seq.{get_or-set_same}
use Rattle.bytecode.specs.Code.{byte_at, next_at, decode_at}
use Rattle.bytecode.specs.Effect.{usable}
use Rattle.bytecode.specs.Table.{Entry}
use Rattle.bytecode.specs.declared.Instruction.{Instruction}
use Rattle.bytecode.proofs.TestLaws.{rule}
use Rattle.model.specs.Depth.{first, successorsAt, depthAfterAt, rulesAt, fineAt, depthTable}
use Rattle.model.proofs.DepthLaws.{fine_inside}
use Rattle.flow.specs.Index.{indexed, indexed_by}
use Rattle.flow.specs.Walk.{Noted, Asks, Step, fineIn, rule_by, fineBy, tableBy, Here, Expand, Walking, WalkingAt, TurnAt, Static, Answer, Lent, Walked, most_code, most_depth}
use Rattle.flow.specs.declared.Went.{Went}
use Rattle.flow.specs.declared.Went.TheVariants.{Stuck}
use Rattle.flow.proofs.StepLaws.{step_no, step_as}
use Rattle.flow.proofs.InvariantLaws.{turn_law, ended, begun}
use Rattle.flow.proofs.UniqueLaws.{table_is, table_none}

pub noted_inside : (t : List ℕ) (p d : ℕ) → Noted t p d → p < length t
noted_inside [] p d e = absurd (let z : ◌≡◌ {A = ℕ} 0 (suc d) = e in omega arith)
noted_inside (x ∷ xs) zero d e = omega arith
noted_inside (x ∷ xs) (suc p) d e = let h = noted_inside xs p d e in omega arith

-- a further rule beside those of the index
module _ (counts words : List ℕ) (size room : ℕ) (more : Instruction → Bool) (p d : ℕ) where
  fine_refused : more (decode_at words size p) ≡ false → fineBy counts words size room more p d ≡ false
  unfolding fineAt rulesAt
  fine_refused e = rw e (broken (usable (next_at words p) (decode_at words size p)) (indexed_by counts (decode_at words size p)) _)
    where
      broken : (u i r : Bool) → u && ((i && false) && r) ≡ false
      broken true true r = refl
      broken true false r = refl
      broken false i r = refl

  fine_expanded : more (decode_at words size p) ≡ true → fineBy counts words size room more p d ≡ fineIn counts words size room p d
  unfolding fineAt rulesAt
  fine_expanded e = rw (e, and_true (indexed_by counts (decode_at words size p))) refl
    where
      and_true : (i : Bool) → i && true ≡ i
      and_true true = refl
      and_true false = refl

-- a depth that keeps the rules is within the room
fine_deep : (words : List ℕ) (size temporaries room : ℕ) (r : Instruction → Bool) (p d : ℕ) → T (fineAt words size temporaries (temporaries + room) r p d) → d ≤ room
unfolding fineAt rulesAt
fine_deep words size temporaries room r p d f =
    let h = leb→le (temporaries + d) (temporaries + room) (rule (rulesAt words size temporaries (temporaries + room) r p d) f 3) in
    omega arith

module _ {table counts words : List ℕ} {room : ℕ} {more : Instruction → Bool} {t s : List ℕ} {waiting p d : ℕ} (a : Static table counts words room t s)
    (w : WalkingAt counts words (length t) room more t s waiting p d) where
  abbrev size : ℕ
  size = length t

  pub at_inside : p < size
  at_inside = noted_inside t p d w.noted

  pub at_asks : Asks t s (waiting - 1) room
  at_asks = let c = w.walking.walk.count in let l = w.left in record { count = omega arith; long = a.long; small = a.small; shallow = a.shallow }

  pub at_fetch : p / 2 < length words
  at_fetch = let c = a.covered in let i = at_inside in omega arith

  pub at_here : (b e : ℕ) → b ≡ byte_at words p → Entry b e → Here counts words size room p d b e
  at_here b e h g =
      record { one = a.one; inside = at_inside; covered = a.covered; byte = h; entry = g; shallow = w.walking.walk.within p d w.noted }

  at_turn : {t' s' : List ℕ} {r : Went} → Step room (fineBy counts words size room more p d) (successorsAt words size p) (λ q. depthAfterAt words size p q d) t s (waiting - 1) t' s' r
      → TurnAt counts words size room more t s waiting t' s' r
  at_turn {t'} {s'} {r} x =
      let l = w.left in
      let turn = turn_law (fineBy counts words size room more) (successorsAt words size) (depthAfterAt words size) room size
      (fine_inside words size (get_or counts 2 0) (get_or counts 2 0 + room) (rule_by counts more))
      (fine_deep words size (get_or counts 2 0) room (rule_by counts more))
      t s waiting (waiting - 1) p d refl (omega arith) (sym w.last) w.noted w.walking.walk t' s' r x in
      record {
        goes = λ j e. (record { walk = (turn.goes j e).0 }, (turn.goes j e).1);
        ends = λ e. table_none words size (get_or counts 2 0) (get_or counts 2 0 + room) (rule_by counts more) (turn.ends e);
        latest = turn.latest;
      }

  -- a further rule is broken, or all of them hold
  pub turn_refused : more (decode_at words size p) ≡ false → TurnAt counts words size room more t s waiting t s Stuck
  turn_refused e = at_turn (step_no (fine_refused counts words size room more p d e))

  pub turn_expanded : {t' s' : List ℕ} {r : Went} → more (decode_at words size p) ≡ true → Expand counts words size room p d t s (waiting - 1) t' s' r
      → TurnAt counts words size room more t s waiting t' s' r
  turn_expanded e x = at_turn (step_as (fine_expanded counts words size room more p d e) refl refl x)

pub static_again : {table counts words : List ℕ} {room : ℕ} {t s t' s' : List ℕ} → length t' ≡ length t → length s' ≡ length s
    → Static table counts words room t s → Static table counts words room t' s'
static_again e f a =
    record { entries = a.entries; one = a.one; covered = rw e a.covered; long = rw (e, f) a.long; small = rw e a.small; shallow = a.shallow }

-- begin and end
pub starts : (counts words : List ℕ) (room : ℕ) (more : Instruction → Bool) (t s : List ℕ) (size : ℕ) → t ≡ replicate size 0 → 0 < size → size ≤ length s → size ≤ most_code
    → room ≤ most_depth → WalkingAt counts words (length (set t 0 1)) room more (set t 0 1) (set s 0 0) 1 0 0
starts counts words room more t s size e some-code long small shallow =
    let size₁ = length (set t 0 1) in
    let w = begun (fineBy counts words size₁ room more) (successorsAt words size₁) (depthAfterAt words size₁) room size t s e some-code long small shallow in
    record { walking = record { walk = w }; left = omega arith; last = get_or-set_same s 0 0 0 (omega arith); noted = w.first }

pub finishes : {counts words : List ℕ} {size room : ℕ} {more : Instruction → Bool} {t s : List ℕ} {waiting : ℕ} → length t ≡ size → waiting ≡ 0
    → Walking counts words size room more t s waiting → tableBy counts words size room more ≡ some t
finishes {counts} {words} {size} {room} {more} {t} {s} l e w =
    table_is words size (get_or counts 2 0) (get_or counts 2 0 + room) (rule_by counts more) t
    (ended (fineBy counts words size room more) (successorsAt words size) (depthAfterAt words size) room size
    (fine_inside words size (get_or counts 2 0) (get_or counts 2 0 + room) (rule_by counts more))
    (fine_deep words size (get_or counts 2 0) room (rule_by counts more))
    t s l (rw e at w.walk))

-- no code, and no room for the temporaries
module _ (words : List ℕ) (size temporaries limit : ℕ) (r : Instruction → Bool) where
  pub no_code : size ≡ 0 → depthTable words size temporaries limit r ≡ none
  no_code e =
      table_none words size temporaries limit r
      (λ h. let k = fine_inside words size temporaries limit r 0 (h.0 0) (h.1.kept 0 first) in omega arith)

  pub no_room : limit < temporaries → depthTable words size temporaries limit r ≡ none
  unfolding fineAt rulesAt
  no_room l =
      table_none words size temporaries limit r
      (λ h. let k = leb→le (temporaries + h.0 0) limit (rule (rulesAt words size temporaries limit r 0 (h.0 0)) (h.1.kept 0 first) 3) in omega arith)

-- the walk's answer
pub walked_none : {o : Option (List ℕ)} {size : ℕ} {t : List ℕ} → o ≡ none → t ≡ replicate size 0 → Walked o size t false
walked_none e h = record { answer = rw e refl; noted = rw e h }

pub walked_some : {o : Option (List ℕ)} {size : ℕ} {t : List ℕ} → o ≡ some t → Walked o size t true
walked_some e = record { answer = rw e refl; noted = rw e refl }

pub answered_some : (o : Option (List ℕ)) (t : List ℕ) (r : Bool) → r ≡ true → Answer o t r → o ≡ some t
unfolding Answer
answered_some o t r e a = rw e at a

pub answered_none : (o : Option (List ℕ)) (t : List ℕ) (r : Bool) → r ≡ false → Answer o t r → o ≡ none
unfolding Answer
answered_none o t r e a = rw e at a

-- the limit is the temporaries and the room
pub table_as : (words : List ℕ) (size fields temporaries literals limit : ℕ) (more : Instruction → Bool) (t : List ℕ) → temporaries ≤ limit → length t ≡ size
    → depthTable words size temporaries limit (λ i. indexed fields temporaries literals i && more i)
    ≡ tableBy (1 ∷ fields ∷ temporaries ∷ literals ∷ []) words (length (set t 0 1)) (limit - temporaries) more
table_as words size fields temporaries literals limit more t h e =
    let p : size ≡ length (set t 0 1) = sym (length-set t 0 1 ∙ e) in
    let q : limit ≡ temporaries + (limit - temporaries) = omega arith in
    λ i. depthTable words (p i) temporaries (q i) (λ j. indexed fields temporaries literals j && more j)

pub cleared_as : (t z y : List ℕ) (size : ℕ) → length t ≡ size → length z ≡ length (set t 0 1) → y ≡ replicate (length z) 0 → y ≡ replicate size 0
cleared_as t z y size e f g = g ∙ ap (λ (k : ℕ). replicate k 0) (f ∙ length-set t 0 1 ∙ e)

pub static_start : {table words : List ℕ} {fields temporaries literals limit : ℕ} {notes pending : List ℕ} (t : List ℕ) → Lent table words limit notes pending → length t ≡ length notes
    → Static table (1 ∷ fields ∷ temporaries ∷ literals ∷ []) words (limit - temporaries) (set t 0 1) (set pending 0 0)
static_start {pending = pending} t a e =
    record {
      entries = a.entries;
      one = refl;
      covered = let x = a.covered in omega (arith, length-set t 0 1);
      long = let x = a.long in omega (arith, length-set t 0 1, length-set pending 0 0);
      small = let x = a.small in omega (arith, length-set t 0 1);
      shallow = let x = a.shallow in omega arith;
    }
