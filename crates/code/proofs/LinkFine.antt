-- What an instruction asks of the objects, as code tests it
use Prim.Native.Nat.{ℕ, ◌+◌, ◌-◌, ◌/◌, ◌<◌}
use mathlib.Core.Path.{◌≡◌, refl, sym, ap, ap₂, ◌∙◌, subst}
use mathlib.Core.Bool.{Bool, true, ◌||◌}
use mathlib.Core.List.{List}
use mathlib.Core.Logic.{◌⊎◌, inl, inr}
use native.Mathlib.Omega.{arith}
use borrow.Author.Tests.{ne_eqb}
use Rattle.bytecode.specs.Code.{send_of, decode_at}
use Rattle.bytecode.specs.Effect.{special_count, need}
use Rattle.bytecode.specs.Table.{place_index, need_part, Entry as TableEntry}
use Rattle.bytecode.specs.declared.Instruction.{Instruction}
use Rattle.bytecode.specs.declared.Place.{Place}
use Rattle.bytecode.specs.declared.Place.TheVariants.{Field, Temporary, Literal, LiteralVariable}
use Rattle.bytecode.specs.declared.Instruction.TheVariants.{Push, Store, PopStore, PushSelf, PushConstant, ReturnSelf, ReturnConstant, ReturnTop, Pop, Duplicate, Jump, JumpOn, Send, SuperSend, SpecialSend, Unused}
use Rattle.bytecode.proofs.Choice.{if_lt}
use Rattle.bytecode.proofs.CodeLaws.{is_send}
use Rattle.model.specs.Limits.{method_kind, selectors_object, special_selectors}
use Rattle.model.specs.Word.{pointer}
use Rattle.model.specs.Objects.{Objects, body_word}
use Rattle.model.specs.Method.{literal}
use Rattle.model.proofs.Unchanged.{Small, small_at}
use Rattle.model.specs.Rules.{variable_fine, send_fine, special_selector}
use Rattle.flow.specs.Linked.{place_linked, linked}
use Rattle.readers.specs.Places.{Entry, Inside}
use Rattle.readers.proofs.InsideLaws.{entry_here, method_inside, selectors_inside}
use Rattle.rules.proofs.RuleFacts.{known_at}
use Rattle.methods.proofs.ShapeLaws.{literals_held}
use Rattle.code.specs.Asked.{Asked}

-- a special send needs its receiver and its arguments
pub special_need : (k e : ℕ) → k < 32 → TableEntry (176 + k) e → need_part e ≡ 1 + special_count k
unfolding need send_of
special_need k e h x =
    x.needs
    ∙ ap need (is_send (176 + k) _ (omega arith) ∙ if_lt (176 + k) 208 (SpecialSend (176 + k - 176)) _ (omega arith))
    ∙ ap (λ (j : ℕ). 1 + special_count j) (omega arith)

module _ (o : Objects) (m k : ℕ) where
  pub special_same : k ≡ 22 → true ≡ linked o m (SpecialSend k)
  unfolding linked
  special_same e = subst (λ (j : ℕ). true ≡ linked o m (SpecialSend j)) (sym e) refl

  pub special_class : k ≡ 23 → true ≡ linked o m (SpecialSend k)
  unfolding linked
  special_class e = subst (λ (j : ℕ). true ≡ linked o m (SpecialSend j)) (sym e) refl

  pub special_sent : {s a : ℕ} → (k ≡ 22 → ⊥) → (k ≡ 23 → ⊥) → s ≡ body_word o 5 k → a ≡ special_count k → send_fine o s a ≡ linked o m (SpecialSend k)
  unfolding linked
  special_sent h g e f =
      ap₂ (send_fine o) e f
      ∙ sym (ap₂ (λ (x y : Bool). x || (y || send_fine o (special_selector o k) (special_count k))) (ne_eqb k 22 h) (ne_eqb k 23 g))

-- a literal that is sent
pub literal_sent : (o : Objects) (m i n : ℕ) {w : ℕ} → w ≡ body_word o (m / 2) (2 + i) → send_fine o w n ≡ send_fine o (literal o m i) n
literal_sent o m i n e = ap (λ (v : ℕ). send_fine o v n) e

-- a place that is told
module _ (o : Objects) (m : ℕ) {p : Place} where
  pub place_free : {q : Place} → p ≡ q → true ≡ place_linked o m q → true ≡ place_linked o m p
  place_free e f = f ∙ ap (place_linked o m) (sym e)

  pub place_alone : ((x : ℕ) × (p ≡ Field x)) ⊎ (((x : ℕ) × (p ≡ Temporary x)) ⊎ ((x : ℕ) × (p ≡ Literal x))) → true ≡ place_linked o m p
  unfolding place_linked
  place_alone (inl h) = place_free h.1 refl
  place_alone (inr (inl h)) = place_free h.1 refl
  place_alone (inr (inr h)) = place_free h.1 refl

  pub place_variable : {i w : ℕ} → p ≡ LiteralVariable i → w ≡ body_word o (m / 2) (2 + i) → variable_fine o w ≡ place_linked o m p
  unfolding place_linked
  place_variable e f = ap (variable_fine o) f ∙ ap (place_linked o m) (sym e)

-- an instruction that is told
pub told : (o : Objects) (m : ℕ) {i j : Instruction} {b : Bool} → i ≡ j → b ≡ linked o m j → b ≡ linked o m i
told o m e f = f ∙ ap (linked o m) (sym e)

module _ (o : Objects) (m : ℕ) where
  pub told_place : {i : Instruction} {p : Place} {b : Bool} → (i ≡ Push p) ⊎ ((i ≡ Store p) ⊎ (i ≡ PopStore p)) → b ≡ place_linked o m p → b ≡ linked o m i
  unfolding linked
  told_place (inl e) f = told o m e f
  told_place (inr (inl e)) f = told o m e f
  told_place (inr (inr e)) f = told o m e f

  pub told_send : {i : Instruction} {l n : ℕ} {b : Bool} → (i ≡ Send l n) ⊎ (i ≡ SuperSend l n) → b ≡ send_fine o (literal o m l) n → b ≡ linked o m i
  unfolding linked
  told_send (inl e) f = told o m e f
  told_send (inr e) f = told o m e f

  -- the others ask nothing
  pub told_nothing : (i : Instruction) → ((p : Place) → i ≡ Push p → ⊥) → ((p : Place) → i ≡ Store p → ⊥) → ((p : Place) → i ≡ PopStore p → ⊥)
      → ((l n : ℕ) → i ≡ Send l n → ⊥) → ((l n : ℕ) → i ≡ SuperSend l n → ⊥) → ((k : ℕ) → i ≡ SpecialSend k → ⊥) → true ≡ linked o m i
  unfolding linked
  told_nothing (Push p) h1 h2 h3 h4 h5 h6 = absurd (h1 p refl)
  told_nothing (Store p) h1 h2 h3 h4 h5 h6 = absurd (h2 p refl)
  told_nothing (PopStore p) h1 h2 h3 h4 h5 h6 = absurd (h3 p refl)
  told_nothing PushSelf h1 h2 h3 h4 h5 h6 = refl
  told_nothing (PushConstant w) h1 h2 h3 h4 h5 h6 = refl
  told_nothing ReturnSelf h1 h2 h3 h4 h5 h6 = refl
  told_nothing (ReturnConstant w) h1 h2 h3 h4 h5 h6 = refl
  told_nothing ReturnTop h1 h2 h3 h4 h5 h6 = refl
  told_nothing Pop h1 h2 h3 h4 h5 h6 = refl
  told_nothing Duplicate h1 h2 h3 h4 h5 h6 = refl
  told_nothing (Jump a b) h1 h2 h3 h4 h5 h6 = refl
  told_nothing (JumpOn x a) h1 h2 h3 h4 h5 h6 = refl
  told_nothing (Send l n) h1 h2 h3 h4 h5 h6 = absurd (h4 l n refl)
  told_nothing (SuperSend l n) h1 h2 h3 h4 h5 h6 = absurd (h5 l n refl)
  told_nothing (SpecialSend k) h1 h2 h3 h4 h5 h6 = absurd (h6 k refl)
  told_nothing Unused h1 h2 h3 h4 h5 h6 = refl

-- the words that are read of a method and of object 5
module _ {table contents bodies counts : List ℕ} {n b m : ℕ} (a : Asked table n b contents bodies counts m) where
  pub method_entry : Entry n (m / 2) contents
  method_entry = entry_here a.ready.laid method_kind m a.is_method

  pub method_word : (i : ℕ) → i < 2 → Inside n b contents bodies m i
  method_word i h = let held = literals_held a.ready.laid m a.is_method a.shape in method_inside held.laid 0 held.is_method (let s = held.holds in omega arith) (omega arith)

  pub special_word : (k : ℕ) → k < special_selectors → Inside n b contents bodies (pointer selectors_object) k
  special_word k h = let f = known_at a.ready.edition _ a.ready.classes in selectors_inside a.ready.laid f.selectors f.selectors_size h

-- the numbers of a decoded instruction
pub decoded_small : (words : List ℕ) (size p : ℕ) {i : Instruction} → i ≡ decode_at words size p → Small i
decoded_small words size p e = subst Small (sym e) (small_at words size p)

pub told_small : {i j : Instruction} → i ≡ j → Small i → Small j
told_small e s = subst Small e s

pub variable_small : {p : Place} {i : ℕ} → p ≡ LiteralVariable i → place_index p < 64 → i < 64
unfolding place_index
variable_small e s = subst (λ (q : Place). place_index q < 64) e s
