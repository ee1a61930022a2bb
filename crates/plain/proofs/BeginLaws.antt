-- Begin and drop from a right state lead to right states; begin is refused by the numbers of its own rules only.
use Prim.Native.Nat.{ℕ}
use mathlib.Core.Path.{◌≡◌, refl}
use mathlib.Core.Bool.{true, ◌&&◌}
use mathlib.Core.List.{List, [], ◌∷◌}
use native.Mathlib.Omega.{arith}
use borrow.Author.Tests.{eqb-true}
use lib.Dec.{T, eqb}
use lib.ListN.{length}
use Rattle.bytecode.specs.Test.{every}
use Rattle.bytecode.proofs.Choice.{if_cases}
use Rattle.bytecode.proofs.TestLaws.{true→T, and_left, and_right}
use Rattle.std.specs.Prelude.{Option, Some, None}
use Rattle.model.specs.declared.Pointer.{Pointer}
use Rattle.model.specs.Limits.{bytes_kind}
use Rattle.model.specs.Word.{is_valid}
use Rattle.model.specs.Objects.{Objects, class_of, is_kind}
use Rattle.model.specs.Method.{argument_count, frame_size}
use Rattle.model.specs.Lookup.{lookup}
use Rattle.model.specs.Rules.{rule8}
use Rattle.model.specs.Image.{Room}
use Rattle.model.proofs.Extends.{Extends, extends_refl}
use Rattle.model.proofs.Unchanged.{start_same}
use Rattle.plain.specs.Registers.{running, finished}
use Rattle.plain.specs.State.{Plain, objects, with_objects, with_frames, new_frame, fits_stack}
use Rattle.plain.specs.Step.{Activation, answered, entered, unfit, activate}
use Rattle.plain.specs.Calls.{Begun, begun, declined, begin_activated, begin_found, begin, dropped}
use Rattle.plain.proofs.FrameLaws.{FramesRight, fits}
use Rattle.plain.proofs.StepLaws.{Valid}
use Rattle.plain.proofs.Preserve.{World, Shape, runs, ends, Activates, activates, new_right}
use Rattle.plain.proofs.StateLaws.{PlainRight, goes, rests}
use Rattle.plain.proofs.After.{After}
use Rattle.plain.proofs.RunLaws.{Worlds}

-- drop
pub dropped_right : (room : Room) (p : Plain) → PlainRight room p → PlainRight room (dropped p)
unfolding dropped
dropped_right room p r =
    record { image = r.image; contents = r.contents; bodies = r.bodies; starts = r.starts; stands = rests refl refl refl refl }

-- a number that begin gives is not 3 or 11
pub record OwnNumber (k : ℕ) : Type 0 where
  pub not_3 : k ≡ 3 → ⊥
  pub not_11 : k ≡ 11 → ⊥

pub record BegunRight (room : Room) (p p' : Plain) : Type 0 where
  pub right : PlainRight room p'
  pub extends : Extends (objects p) (objects p')
  pub shape : Shape room.stack p'
  pub bottom : p'.registers.top ≡ 0

abbrev pub BeginGoes : Room → Plain → Begun → Type 0
BeginGoes room p (begun p') = BegunRight room p p'
BeginGoes room p (declined k) = OwnNumber k

module _ (room : Room) (worlds : Worlds room) (p : Plain) (r : PlainRight room p) where
  abbrev o : Objects
  o = objects p

  abbrev edition : ℕ
  edition = p.registers.edition

  world : World (After edition room) edition room o
  world = worlds edition o r.image r.contents r.bodies

  module _ (receiver : ℕ) (arguments : List ℕ) (v : T (is_valid o.n receiver)) (va : Valid o.n arguments) where
    activated_begins : (m : ℕ) → T (is_kind o Rattle.model.specs.Limits.method_kind m) → argument_count o m ≡ length arguments → (x : Activation)
        → Activates (After edition room) room edition o world m receiver x
        → BeginGoes room p (begin_activated room p m receiver arguments x)
    activated_begins m k c (answered w o') a =
        let e : Shape room.stack (with_frames (with_objects p o') [] finished 0 w) = ends refl a.1 refl refl in
        record {
          right = record {
            image = a.0.right;
            contents = a.0.contents;
            bodies = a.0.bodies;
            starts = start_same a.0.extends
                p.registers.start_receiver p.registers.start_selector r.starts;
            stands = goes e;
          };
          extends = a.0.extends;
          shape = e;
          bottom = refl;
        }
    activated_begins m k c entered a =
        if_cases (BeginGoes room p) (fits_stack room.stack 0 (frame_size o m)) _ _
        (λ q.
        let f = new_right (After edition room) room edition o world m receiver arguments k v va c a.0 a.1 0 in
        let g : FramesRight edition o room.stack true 0 (new_frame o 0 m receiver arguments ∷ []) = unfold new_frame in (f, fits room.stack 0 (frame_size o m) (true→T q), refl, refl) in
        let e : Shape room.stack (with_frames p (new_frame o 0 m receiver arguments ∷ []) running 0 0) = runs refl refl g in
        record { right = record { image = r.image; contents = r.contents; bodies = r.bodies; starts = r.starts; stands = goes e }; extends = extends_refl o; shape = e; bottom = refl })
        (λ q. record { not_3 = λ z. omega arith; not_11 = λ z. omega arith })
    activated_begins m k c unfit a = record { not_3 = λ z. omega arith; not_11 = λ z. omega arith }

    found_begins : (selector : ℕ) (x : Option Pointer) → lookup o selector (class_of o receiver) ≡ x → BeginGoes room p (begin_found room p receiver arguments x)
    found_begins selector None e = record { not_3 = λ z. omega arith; not_11 = λ z. omega arith }
    found_begins selector (Some m) e =
        if_cases (BeginGoes room p) (eqb (argument_count o m.0) (length arguments)) _ _
        (λ q.
        let c = eqb-true (argument_count o m.0) (length arguments) q in
        activated_begins m.0 (world.lookup_method selector (class_of o receiver) m.0 e) c (activate edition room o m.0 receiver arguments)
        (activates (After edition room) room edition o world m.0 receiver arguments v va c))
        (λ q. record { not_3 = λ z. omega arith; not_11 = λ z. omega arith })

  pub begins : (receiver selector : ℕ) (arguments : List ℕ) → BeginGoes room p (begin room p receiver selector arguments)
  unfolding begin
  begins receiver selector arguments =
      if_cases (BeginGoes room p) (eqb p.registers.phase running) _ _ (λ q. record { not_3 = λ z. omega arith; not_11 = λ z. omega arith })
      (λ q. if_cases (BeginGoes room p) (rule8 o receiver selector arguments) _ _
      (λ e. let t = words (true→T e) in found_begins receiver arguments t.0 t.1 selector (lookup o selector (class_of o receiver)) refl)
      (λ e. record { not_3 = λ z. omega arith; not_11 = λ z. omega arith }))
    where
      words : T (rule8 o receiver selector arguments) → T (is_valid o.n receiver) × Valid o.n arguments
      words t = unfold rule8 in (
        and_left (is_valid o.n receiver) (is_kind o bytes_kind selector && every (is_valid o.n) arguments) t,
        and_right (is_kind o bytes_kind selector) (every (is_valid o.n) arguments) (and_right (is_valid o.n receiver) (is_kind o bytes_kind selector && every (is_valid o.n) arguments) t),
      )
