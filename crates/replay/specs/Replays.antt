-- What a replay leaves: the theorem over lists of calls, for the calls that were made.
use Rattle.std.specs.Prelude.{ℕ, ◌≡◌, List, length, Result, Ok, Err}
use Rattle.model.specs.declared.numbers.Refusal.{Refusal}
use Rattle.model.specs.Numbers.{number_of}
use Rattle.model.specs.Image.{accepted}
use Rattle.plain.specs.Registers as R
use Rattle.plain.specs.Calls.{loaded, done, refused_by}
use Rattle.plain.specs.Flat.{Flat, flat, room_of, plain_of}
use Rattle.plain.specs.Check.{check}
use Rattle.plain.specs.FlatCalls.{gives, flat_load}
use Rattle.plain.specs.CallLists.{Agrees, last_state}
use Rattle.calls.specs.Plays.{answers_after, calls_made}
use Rattle.machine.specs.State.{state}
use Rattle.machine.specs.declared.Made.{Made}

-- The image was loaded, from the state s: the two machines agree on the calls, as the theorem says; the state and the answers are the flat
-- machine's.
pub record Makes (s : Flat) (image calls answers : List ℕ) (k : ℕ) (s' : Flat) (answers' : List ℕ) : Type 0 where
  pub start : Flat
  pub load : flat_load s image ≡ gives done start
  pub plain : plain_of start ≡ loaded image
  pub agrees : Agrees (room_of s) (calls_made calls answers) start (loaded image)
  pub last : s' ≡ last_state start (calls_made calls answers)
  pub made : k ≡ length (calls_made calls answers)
  pub written : answers' ≡ answers_after start (calls_made calls answers) answers
  pub checks : check s' ≡ accepted

-- The image was refused by k.
pub record Declines (s : Flat) (image answers : List ℕ) (k : ℕ) (s' : Flat) (answers' : List ℕ) : Type 0 where
  pub load : flat_load s image ≡ gives (refused_by k) s'
  pub unwritten : answers' ≡ answers

abbrev pub Replays : Flat → List ℕ → List ℕ → List ℕ → List ℕ → List ℕ → List ℕ → List ℕ → List ℕ → Result Made Refusal → Type 0
Replays s image calls answers contents bodies stack cache answers' (Ok m) = Makes s image calls answers m.calls (state m.registers contents bodies stack cache) answers'
Replays s image calls answers contents bodies stack cache answers' (Err k) = Declines s image answers (number_of k) (flat R.no_registers contents bodies stack cache) answers'
