-- There is at most one table of notes: what a walk ends with is the depth table.
use Prim.Native.Nat.{ℕ, zero, suc, pred}
use mathlib.Core.Path.{◌≡◌, refl, sym, ap, ◌∙◌}
use mathlib.Core.Bool.{Bool}
use mathlib.Core.List.{List}
use mathlib.Core.Option.{Option, none, some}
use lib.Dec.{T}
use lib.ListN.{get_or}
use lib.Seq.{ext_get_or}
use Rattle.bytecode.specs.declared.Instruction.{Instruction}
use Rattle.model.specs.Depth.{HasTable, successorsAt, depthAfterAt, fineAt, depthTable, is_some}
use Rattle.model.proofs.WalkLaws.{at_reached, at_depth, Notes}
use Rattle.model.proofs.DepthLaws.{decides, table_notes}

module _ (fine : ℕ → ℕ → Bool) (next : ℕ → List ℕ) (after : ℕ → ℕ → ℕ → ℕ) (size : ℕ) where
  abbrev NotesOf : List ℕ → Type 0
  NotesOf t = Notes fine next after size t

  -- a note of one table is in the other
  carried : (t t' : List ℕ) → NotesOf t → NotesOf t' → (p d : ℕ) → get_or t p 0 ≡ suc d → get_or t' p 0 ≡ suc d
  carried t t' a b p d e =
      let path = a.path p d e in
      b.reached p (at_reached path) ∙ ap suc (at_depth fine next after (λ q. pred (get_or t' q 0)) b.table path)

  same_note : (t t' : List ℕ) → NotesOf t → NotesOf t' → (p v v' : ℕ) → get_or t p 0 ≡ v → get_or t' p 0 ≡ v' → v ≡ v'
  same_note t t' a b p zero zero e e' = refl
  same_note t t' a b p (suc d) v' e e' = sym (carried t t' a b p d e) ∙ e'
  same_note t t' a b p zero (suc d) e e' = sym e ∙ carried t' t b a p d e'

  unique : (t t' : List ℕ) → NotesOf t → NotesOf t' → t ≡ t'
  unique t t' a b = ext_get_or 0 t t' (a.long ∙ sym b.long) (λ p h. same_note t t' a b p (get_or t p 0) (get_or t' p 0) refl refl)

module _ (words : List ℕ) (size temporaries limit : ℕ) where
  abbrev Table : (Instruction → Bool) → Option (List ℕ)
  Table r = depthTable words size temporaries limit r

  abbrev NotesBy : (Instruction → Bool) → List ℕ → Type 0
  NotesBy r t = Notes (fineAt words size temporaries limit r) (successorsAt words size) (depthAfterAt words size) size t

  abbrev Has : (Instruction → Bool) → Type 0
  Has r = HasTable (fineAt words size temporaries limit r) (successorsAt words size) (depthAfterAt words size)

  -- what a walk over the code ends with is the table
  pub table_is : (r : Instruction → Bool) (t : List ℕ) → NotesBy r t → Table r ≡ some t
  table_is r t a = go (Table r) refl ((decides words size temporaries limit r).0 ((λ p. pred (get_or t p 0)), a.table))
    where
      go : (x : Option (List ℕ)) → Table r ≡ x → T (is_some x) → x ≡ some t
      go none e s = absurd s
      go (some t') e s =
          ap some (unique (fineAt words size temporaries limit r) (successorsAt words size) (depthAfterAt words size) size t' t
          (table_notes words size temporaries limit r t' e) a)

  pub table_none : (r : Instruction → Bool) → (Has r → ⊥) → Table r ≡ none
  table_none r n = go (Table r) refl
    where
      go : (x : Option (List ℕ)) → Table r ≡ x → x ≡ none
      go none e = refl
      go (some t) e = absurd (n ((λ p. pred (get_or t p 0)), (table_notes words size temporaries limit r t e).table))
