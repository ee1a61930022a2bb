-- What the code's answer to an activation says of plain's, and of the buffers.
use Rattle.std.specs.Prelude.{ℕ, ◌≡◌, List, T, length, get_or, Option, Some, None}
use Rattle.model.specs.Limits.{method_kind}
use Rattle.model.specs.Word.{is_valid}
use Rattle.model.specs.Objects.{Objects, objects_at, is_kind}
use Rattle.model.specs.Rules.{IsRight}
use Rattle.model.specs.Image.{Room}
use Rattle.plain.specs.Step.{Activation, answered, unfit, entering, activate}
use Rattle.plain.specs.FlatCalls.{at_front}
use Rattle.activation.specs.declared.Activated.{Activated}
use Rattle.activation.specs.declared.Activated.TheVariants.{Answer, Frame, Unfit}

-- Right objects, a method and a valid receiver
pub record Activable (n b : ℕ) (contents bodies : List ℕ) (m receiver : ℕ) : Type 0 where
  pub right : IsRight (objects_at n b contents bodies)
  pub method : T (is_kind (objects_at n b contents bodies) method_kind m)
  pub valid : T (is_valid n receiver)

-- An answer without a frame: the objects after it stand in the buffers.
pub record Answers (x : Activation) (w n b : ℕ) (contents bodies contents' bodies' : List ℕ) : Type 0 where
  pub after : Objects
  pub answer : x ≡ answered w after
  pub count : after.n ≡ n
  pub size : after.b ≡ b
  pub entries : contents' ≡ at_front after.contents contents
  pub words : bodies' ≡ at_front after.bodies bodies

-- No answer: the buffers are as they were.
pub record Leaves (x y : Activation) (contents bodies contents' bodies' : List ℕ) : Type 0 where
  pub leads : x ≡ y
  pub entries : contents' ≡ contents
  pub words : bodies' ≡ bodies

-- What a primitive leads to: its answer, or a frame where it fails
unfoldable pub outcome : Option ℕ → ℕ → ℕ → Activated
outcome (Some w) n b = Answer w n b
outcome None n b = Frame

abbrev pub ActivatedIs : Activation → Activation → List ℕ → List ℕ → List ℕ → List ℕ → Activated → Type 0
ActivatedIs x frame contents bodies contents' bodies' (Answer w n b) = Answers x w n b contents bodies contents' bodies'
ActivatedIs x frame contents bodies contents' bodies' Frame = Leaves x frame contents bodies contents' bodies'
ActivatedIs x frame contents bodies contents' bodies' Unfit = Leaves x unfit contents bodies contents' bodies'

-- in an edition, for all arguments of which these are the first two, 0 where there are fewer, and whatever the lengths of stack and cache
abbrev pub Activates : ℕ → ℕ → ℕ → List ℕ → List ℕ → ℕ → ℕ → ℕ → ℕ → List ℕ → List ℕ → Activated → Type 0
Activates e n b contents bodies m receiver first second contents' bodies' r =
    (arguments : List ℕ) → first ≡ get_or arguments 0 0 → second ≡ get_or arguments 1 0 → (room : Room) → room.contents ≡ length contents → room.bodies ≡ length bodies
    → ActivatedIs (activate e room (objects_at n b contents bodies) m receiver arguments) (entering (objects_at n b contents bodies) m receiver) contents bodies contents' bodies' r
