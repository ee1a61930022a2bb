-- What the functions of the third pass ask of and promise each other.
use Rattle.std.specs.Prelude.{ℕ, suc, ◌+◌, ◌*◌, ◌<◌, ◌≤◌, ◌≡◌, ◌⊎◌, Bool, true, ◌&&◌, List, T, length, get_or}
use Rattle.bytecode.specs.Test.{all_of}
use Rattle.bytecode.specs.Table.{IsTable}
use Rattle.bytecode.specs.declared.Instruction.{Instruction}
use Rattle.model.specs.Limits.{method_kind}
use Rattle.model.specs.Objects.{Objects, objects_at, is_kind, body_end}
use Rattle.model.specs.Method.{code_words, code_size}
use Rattle.model.specs.Depth.{is_some}
use Rattle.model.specs.Rules.{method_table, rule7}
use Rattle.model.specs.Notes.{notes_from, MethodNoted, NotedBefore}
use Rattle.flow.specs.Index.{indexed}
use Rattle.flow.specs.Linked.{linked}
use Rattle.flow.specs.Walk.{most_code}
use Rattle.methods.specs.Asked.{Ready, SendAsked}
use Rattle.methods.specs.Passes.{shape_rules, shapes, code_fine, codes}

-- method m, whose words are right, in an image whose counts are there
pub record Asked (table : List ℕ) (n b : ℕ) (contents bodies counts : List ℕ) (m : ℕ) : Type 0 where
  pub entries : IsTable table
  pub ready : Ready n b contents bodies
  pub sends : SendAsked n b contents bodies counts
  pub is_method : T (is_kind (objects_at n b contents bodies) method_kind m)
  pub shape : T (all_of (shape_rules (objects_at n b contents bodies) m))

-- its code
pub record CodeLent (o : Objects) (m : ℕ) (words : List ℕ) (size : ℕ) : Type 0 where
  pub is_words : words ≡ code_words o m
  pub is_size : size ≡ code_size o m
  pub covered : size ≤ 2 * length words
  pub small : size ≤ most_code

-- no notes, and none from a word of the bodies on
abbrev pub Blank : List ℕ → Type 0
Blank notes = (i : ℕ) → get_or notes i 0 ≡ 0

abbrev pub BlankFrom : ℕ → List ℕ → Type 0
BlankFrom w notes = (i : ℕ) → 2 * w ≤ i → get_or notes i 0 ≡ 0

-- the rules of an instruction of method m, by counts of fields, temporaries and literals
abbrev pub rule_of : Objects → ℕ → ℕ → ℕ → ℕ → Instruction → Bool
rule_of o m fields temporaries literals i = indexed fields temporaries literals i && linked o m i

-- one method walked: the others' notes stay
pub record MethodWalked (e : ℕ) (o : Objects) (m : ℕ) (notes notes' : List ℕ) (r : Bool) : Type 0 where
  pub answer : r ≡ is_some (method_table e o m)
  pub noted : MethodNoted e o notes' m
  pub others : (i : ℕ) → (i < notes_from o m) ⊎ (notes_from o m + code_size o m ≤ i) → get_or notes' i 0 ≡ get_or notes i 0

-- what the pass is lent
pub record PassLent (table : List ℕ) (n b : ℕ) (contents bodies counts : List ℕ) (notes pending : ℕ) : Type 0 where
  pub entries : IsTable table
  pub ready : Ready n b contents bodies
  pub sends : SendAsked n b contents bodies counts
  pub shaped : T (shapes (objects_at n b contents bodies))
  pub room : 2 * b ≤ notes
  pub long : 2 * b ≤ pending

-- object k, where it is a method
pub record ObjectNoted (e : ℕ) (o : Objects) (k : ℕ) (notes notes' : List ℕ) (r : Bool) : Type 0 where
  pub answer : r ≡ code_fine e o k
  pub noted : NotedBefore e o notes k → NotedBefore e o notes' (suc k)
  pub blank : BlankFrom (body_end o k) notes'

-- all objects
pub record CodesNoted (e : ℕ) (o : Objects) (notes : List ℕ) (r : Bool) : Type 0 where
  pub answer : r ≡ codes e o
  pub noted : r ≡ true → NotedBefore e o notes (suc o.n)

-- and rule 7
pub record MethodsNoted (e : ℕ) (o : Objects) (notes : List ℕ) (r : Bool) : Type 0 where
  pub answer : r ≡ rule7 e o
  pub noted : r ≡ true → NotedBefore e o notes (suc o.n)
