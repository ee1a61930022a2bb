-- Check's test of a flat state, by its parts.
use Prim.Native.Nat.{suc}
use mathlib.Core.Path.{◌≡◌, refl, ap, ◌∙◌}
use mathlib.Core.Bool.{Bool, true, false, ◌&&◌}
use mathlib.Core.List.{List}
use lib.Dec.{leb, eqb}
use lib.ListN.{length}
use Rattle.bytecode.specs.Test.{when◌then◌else◌, all_of}
use Rattle.model.specs.Word.{is_valid}
use Rattle.plain.specs.Registers.{finished, last_phase, has_frames}
use Rattle.plain.specs.State.{Frame}
use Rattle.plain.specs.Cache.{cache_fine}
use Rattle.plain.specs.Flat.{Flat, flat_objects, frames_from, if_frames, plain_of}
use Rattle.plain.specs.Check.{image_rules, frames_fine, is_empty, plain_rules, plain_fine, state_fine}

module _ (s : Flat) where
  abbrev pub imagePart : Bool
  imagePart = all_of (image_rules s.registers.edition (flat_objects s) s.registers.start_receiver s.registers.start_selector)

  abbrev pub phasePart : Bool
  phasePart = leb s.registers.phase last_phase

  abbrev pub valuePart : Bool
  valuePart = when eqb s.registers.phase finished then is_valid s.registers.n s.registers.value else eqb s.registers.value 0

  abbrev pub framesPart : Bool
  framesPart =
      when has_frames s.registers.phase
      then frames_fine s.registers.edition (flat_objects s) (length s.stack) true s.registers.top (frames_from (suc s.registers.top) (flat_objects s) s.stack s.registers.top)
      else eqb s.registers.top 0

  abbrev pub cachePart : Bool
  cachePart = cache_fine (flat_objects s) s.cache

  pub state_parts : state_fine s ≡ (imagePart && (phasePart && (valuePart && (framesPart && cachePart))))
  unfolding state_fine plain_fine plain_rules plain_of
  state_parts =
      ap (λ (d : Bool). (imagePart && (phasePart && (valuePart && (d && true)))) && cachePart) (by_frames (has_frames s.registers.phase)
      (frames_from (suc s.registers.top) (flat_objects s) s.stack s.registers.top))
      ∙ regroup imagePart phasePart valuePart framesPart cachePart
    where
      and_true : (b : Bool) → (b && true) ≡ b
      and_true true = refl
      and_true false = refl

      by_frames : (h : Bool) (fs : List Frame)
          → (when h then frames_fine s.registers.edition (flat_objects s) (length s.stack) true s.registers.top (if_frames h fs) else (eqb s.registers.top 0 && is_empty (if_frames h fs)))
          ≡ (when h then frames_fine s.registers.edition (flat_objects s) (length s.stack) true s.registers.top fs else eqb s.registers.top 0)
      by_frames true fs = unfold when◌then◌else◌ in refl
      by_frames false fs = unfold when◌then◌else◌ in and_true (eqb s.registers.top 0)

      regroup : (a b c d e : Bool) → ((a && (b && (c && (d && true)))) && e) ≡ (a && (b && (c && (d && e))))
      regroup true true true true e = refl
      regroup true true true false e = refl
      regroup true true false d e = refl
      regroup true false c d e = refl
      regroup false b c d e = refl
