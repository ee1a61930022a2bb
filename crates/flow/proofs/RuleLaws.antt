-- The rules of a single instruction in two parts, with no objects and with them.
use Prim.Native.Nat.{ℕ}
use mathlib.Core.Path.{◌≡◌, refl, ap, ◌∙◌}
use mathlib.Core.Bool.{Bool, true, false, ◌&&◌}
use lib.Dec.{ltb}
use Rattle.bytecode.specs.declared.Place.{Place}
use Rattle.bytecode.specs.declared.Place.TheVariants.{Field, Temporary, Literal, LiteralVariable}
use Rattle.bytecode.specs.declared.Instruction.{Instruction}
use Rattle.bytecode.specs.declared.Instruction.TheVariants.{Push, Store, PopStore, PushSelf, PushConstant, ReturnSelf, ReturnConstant, ReturnTop, Pop, Duplicate, Jump, JumpOn, Send, SuperSend, SpecialSend, Unused}
use Rattle.model.specs.Objects.{Objects, field_count}
use Rattle.model.specs.Method.{home, temporary_count, literal_count, code_words, code_size, frame_words}
use Rattle.model.specs.Depth.{depthTable}
use Rattle.model.specs.Rules.{place_fine, is_writable, allowed, method_table}
use Rattle.flow.specs.Index.{placeIndexed, indexed}
use Rattle.flow.specs.Linked.{place_linked, linked}

and_true : (a : Bool) → a ≡ a && true
and_true true = refl
and_true false = refl

and_assoc : (a b c : Bool) → a && (b && c) ≡ (a && b) && c
and_assoc true b c = refl
and_assoc false b c = refl

module _ (o : Objects) (m : ℕ) where
  abbrev pub indexedIn : Instruction → Bool
  indexedIn = indexed (field_count o (home o m)) (temporary_count o m) (literal_count o m)

  place_split : (p : Place) → place_fine o m p ≡ placeIndexed (field_count o (home o m)) (temporary_count o m) (literal_count o m) p && place_linked o m p
  unfolding place_fine placeIndexed place_linked
  place_split (Field i) = and_true (ltb i (field_count o (home o m)))
  place_split (Temporary i) = and_true (ltb i (temporary_count o m))
  place_split (Literal i) = and_true (ltb i (literal_count o m))
  place_split (LiteralVariable i) = refl

  store_split : (p : Place) → is_writable p && place_fine o m p ≡ (is_writable p && placeIndexed (field_count o (home o m)) (temporary_count o m) (literal_count o m) p) && place_linked o m p
  store_split p =
      ap (λ (x : Bool). is_writable p && x) (place_split p)
      ∙ and_assoc (is_writable p) (placeIndexed (field_count o (home o m)) (temporary_count o m) (literal_count o m) p) (place_linked o m p)

  pub split : (edition : ℕ) (i : Instruction) → allowed edition o m i ≡ indexedIn i && linked o m i
  unfolding allowed indexed linked
  split edition (Push p) = place_split p
  split edition (Store p) = store_split p
  split edition (PopStore p) = store_split p
  split edition PushSelf = refl
  split edition (PushConstant w) = refl
  split edition ReturnSelf = refl
  split edition (ReturnConstant w) = refl
  split edition ReturnTop = refl
  split edition Pop = refl
  split edition Duplicate = refl
  split edition (Jump a b) = refl
  split edition (JumpOn x a) = refl
  split edition (Send l n) = refl
  split edition (SuperSend l n) = refl
  split edition (SpecialSend k) = refl
  split edition Unused = refl

  -- so a method's table is that of both parts together
  pub table_split : (edition : ℕ) → method_table edition o m ≡ depthTable (code_words o m) (code_size o m) (temporary_count o m) (frame_words o m) (λ i. indexedIn i && linked o m i)
  unfolding method_table
  table_split edition = λ k. depthTable (code_words o m) (code_size o m) (temporary_count o m) (frame_words o m) (λ i. split edition i k)
