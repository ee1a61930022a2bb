-- What a begin leads to, in the answer and in the buffers.
use Rattle.std.specs.Prelude.{ℕ, ◌*◌, ◌≡◌, false, List, [], ◌∷◌, eqb, length, take, Result, Ok, Err}
use Rattle.model.specs.Limits.{entry_words}
use Rattle.model.specs.Objects.{Objects, objects_at}
use Rattle.model.specs.Rules.{Right}
use Rattle.plain.specs.Registers.{running, finished}
use Rattle.plain.specs.State.{Frame, Plain, with_objects, with_frames}
use Rattle.plain.specs.Calls.{Begun, begun, declined, begin}
use Rattle.plain.specs.FlatCalls.{at_front, laid}
use Rattle.begins.specs.declared.Beginning.{Beginning}
use Rattle.begins.specs.declared.Beginning.TheVariants.{Answered, Entered}
use Rattle.model.specs.declared.numbers.Refusal.{Refusal}
use Rattle.model.specs.Numbers.{number_of}

-- Right objects, and the words of a message to them
pub record Starts (e n b : ℕ) (contents bodies stack : List ℕ) (w s : ℕ) (arguments : List ℕ) : Type 0 where
  pub right : Right e (objects_at n b contents bodies)

-- A plain state with the objects of the buffers: start words, phase, top, value and frames may be any.
abbrev pub state_over : ℕ → ℕ → ℕ → ℕ → ℕ → ℕ → List Frame → ℕ → ℕ → List ℕ → List ℕ → Plain
state_over e receiver selector phase top value frames n b contents bodies =
    record {
      registers = record { n = n; b = b; start_receiver = receiver; start_selector = selector; phase = phase; top = top; value = value; edition = e };
      contents = take (entry_words * n) contents;
      bodies = take b bodies;
      frames = frames;
    }

-- Answered without a frame
pub record Answers (x : Begun) (p : Plain) (w n b : ℕ) (contents bodies stack contents' bodies' stack' : List ℕ) : Type 0 where
  pub after : Objects
  pub leads : x ≡ begun (with_frames (with_objects p after) [] finished 0 w)
  pub count : after.n ≡ n
  pub size : after.b ≡ b
  pub entries : contents' ≡ at_front after.contents contents
  pub words : bodies' ≡ at_front after.bodies bodies
  pub frames : stack' ≡ stack

-- The first frame is made.
pub record Enters (x : Begun) (p : Plain) (contents bodies stack contents' bodies' stack' : List ℕ) : Type 0 where
  pub first : Frame
  pub leads : x ≡ begun (with_frames p (first ∷ []) running 0 0)
  pub entries : contents' ≡ contents
  pub words : bodies' ≡ bodies
  pub frames : stack' ≡ laid stack 0 (first ∷ [])

-- Refused: nothing changes.
pub record Refuses (x : Begun) (k : ℕ) (contents bodies stack contents' bodies' stack' : List ℕ) : Type 0 where
  pub leads : x ≡ declined k
  pub entries : contents' ≡ contents
  pub words : bodies' ≡ bodies
  pub frames : stack' ≡ stack

abbrev pub BeginIs : Begun → Plain → List ℕ → List ℕ → List ℕ → List ℕ → List ℕ → List ℕ → Result Beginning Refusal → Type 0
BeginIs x p contents bodies stack contents' bodies' stack' (Ok (Answered w n b)) = Answers x p w n b contents bodies stack contents' bodies' stack'
BeginIs x p contents bodies stack contents' bodies' stack' (Ok Entered) = Enters x p contents bodies stack contents' bodies' stack'
BeginIs x p contents bodies stack contents' bodies' stack' (Err k) = Refuses x (number_of k) contents bodies stack contents' bodies' stack'

-- in every state over these objects that does not run
abbrev pub Begins : ℕ → ℕ → ℕ → List ℕ → List ℕ → List ℕ → ℕ → ℕ → List ℕ → List ℕ → List ℕ → List ℕ → Result Beginning Refusal → Type 0
Begins e n b contents bodies stack w s arguments contents' bodies' stack' r =
    (receiver selector phase top value cache : ℕ) (frames : List Frame) → eqb phase running ≡ false
    → BeginIs (begin (record { contents = length contents; bodies = length bodies; stack = length stack; cache = cache })
    (state_over e receiver selector phase top value frames n b contents bodies) w s arguments)
    (state_over e receiver selector phase top value frames n b contents bodies) contents bodies stack contents' bodies' stack' r
