-- Stores, by the place.
use Prim.Native.Nat.{ℕ, ◌+◌, ◌-◌}
use mathlib.Core.Path.{◌≡◌, sym, ap, ◌∙◌, subst}
use mathlib.Core.List.{List}
use mathlib.Core.Option.{Option}
use lib.ListN.{get_or, take, set}
use Rattle.bytecode.specs.declared.Place.TheVariants.{Field, Temporary, LiteralVariable}
use Rattle.model.specs.Word.{object_number}
use Rattle.model.specs.Objects.{objects_at}
use Rattle.model.specs.Method.{literal}
use Rattle.model.specs.Primitive.{store_word}
use Rattle.plain.specs.State.{moved_to, with_temporaries}
use Rattle.plain.specs.Step.{leads_to, no_lookup, ◌>>=◌, on_top, stored_field, stored}
use Rattle.plain.specs.Flat.{frame_receiver}
use Rattle.plain.specs.FlatCalls.{at_front}
use Rattle.plain.specs.Running.{Moved, running_at, top_frame, rest_frames}
use Rattle.plain.proofs.RunningLaws.{receiver_is}
use Rattle.steps.specs.Events.{Here, StoringAt}
use Rattle.steps.proofs.MoveLaws.{goes_temporary}
use Rattle.steps.proofs.PlaceLaws.{own_field, temporary_below, temporary_at, literal_at, variable_below, variable_field, store_runs, store_place, store_left, stores, stores_in}

module _ {n b top : ℕ} {contents bodies stack : List ℕ} {h : Here} {left : ℕ} where
  pub store_field : {j : ℕ} (z : StoringAt n b top contents bodies stack h (Field j) left) (bodies' stack' : List ℕ)
      → bodies' ≡ at_front (store_word (objects_at n b contents bodies) (object_number (frame_receiver stack top)) j (get_or stack (h.operands + (h.depth - 1)) 0)).bodies bodies
      → stack' ≡ set (set stack (top + 1) h.next) (top + 2) left → Moved n b top contents bodies stack bodies' stack'
  unfolding stored
  store_field {j} z bodies' stack' e q =
      subst (λ (l : List ℕ). Moved n b top contents bodies stack bodies' l) (sym q)
      (stores_in z (frame_receiver stack top) j bodies' (own_field (store_runs z) j (store_place z))
      (λ edition receiver selector room. stores z edition receiver selector room ∙ ap (λ (x : ℕ). stored_field (running_at edition receiver selector n b top contents bodies stack)
      (moved_to (top_frame n b top contents bodies stack) h.next (take left (top_frame n b top contents bodies stack).operands))
      (rest_frames n b top contents bodies stack) x j (get_or stack (h.operands + (h.depth - 1)) 0)) (receiver_is (store_runs z))) e)

  pub store_temporary : {j : ℕ} (z : StoringAt n b top contents bodies stack h (Temporary j) left) (stack' : List ℕ)
      → stack' ≡ set (set (set stack (top + 6 + j) (get_or stack (h.operands + (h.depth - 1)) 0)) (top + 1) h.next) (top + 2) left → Moved n b top contents bodies stack bodies stack'
  unfolding stored
  store_temporary {j} z stack' q =
      subst (λ (l : List ℕ). Moved n b top contents bodies stack bodies l) (sym q)
      (goes_temporary z.here h.next left j (get_or stack (h.operands + (h.depth - 1)) 0) (store_left z) (temporary_below (store_runs z) j (store_place z))
      (λ edition receiver selector room. stores z edition receiver selector room
      ∙ ap (λ (x : Option ℕ). x >>= λ old. leads_to (on_top (running_at edition receiver selector n b top contents bodies stack)
      (with_temporaries (moved_to (top_frame n b top contents bodies stack) h.next (take left (top_frame n b top contents bodies stack).operands))
      (set (top_frame n b top contents bodies stack).temporaries j (get_or stack (h.operands + (h.depth - 1)) 0))) (rest_frames n b top contents bodies stack))
      no_lookup) (temporary_at (store_runs z) j (store_place z))))

  pub store_variable : {j : ℕ} (z : StoringAt n b top contents bodies stack h (LiteralVariable j) left) (v : ℕ) (bodies' stack' : List ℕ)
      → v ≡ literal (objects_at n b contents bodies) h.method j → bodies' ≡ at_front (store_word (objects_at n b contents bodies) (object_number v) 1
      (get_or stack (h.operands + (h.depth - 1)) 0)).bodies bodies
      → stack' ≡ set (set stack (top + 1) h.next) (top + 2) left → Moved n b top contents bodies stack bodies' stack'
  unfolding stored
  store_variable {j} z v bodies' stack' p e q =
      subst (λ (l : List ℕ). Moved n b top contents bodies stack bodies' l) (sym q)
      (stores_in z v 1 bodies' (variable_field (store_runs z) j v h.method z.here.is_method (store_place z) p)
      (λ edition receiver selector room. stores z edition receiver selector room
      ∙ ap (λ (x : Option ℕ). x >>= λ y. stored_field (running_at edition receiver selector n b top contents bodies stack)
      (moved_to (top_frame n b top contents bodies stack) h.next (take left (top_frame n b top contents bodies stack).operands))
      (rest_frames n b top contents bodies stack) y 1 (get_or stack (h.operands + (h.depth - 1)) 0))
      (literal_at (store_runs z) j v h.method z.here.is_method (variable_below (store_runs z) j (store_place z)) p)) e)
