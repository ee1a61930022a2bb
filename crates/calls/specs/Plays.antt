-- What a list of calls leaves: the flat calls, one after another.
use Rattle.std.specs.Prelude.{ℕ, ◌*◌, ◌/◌, min, ◌≡◌, List, [], ◌∷◌, ◌++◌, length, take, drop}
use Rattle.model.specs.Image.{Verdict, accepted, refused}
use Rattle.plain.specs.Calls.{Call, Answer}
use Rattle.plain.specs.Flat.{Flat, room_of, plain_of}
use Rattle.plain.specs.Check.{check}
use Rattle.plain.specs.FlatCalls.{Given, gives, no_answer, flat_call}
use Rattle.plain.specs.CallLists.{Agrees, last_state}
use Rattle.calls.specs.Encoding.{calls_of, answer_size, all_words_of}

-- The answers of a list of calls; the state after them is `last_state`. (No call is without an answer where check accepts the state.)
abbrev pub answered : Given → (Flat → List Answer) → List Answer
answered (gives a s) rest = a ∷ rest s
answered no_answer rest = []

unfoldable pub answers_of : Flat → List Call → List Answer
answers_of s [] = []
answers_of s (c ∷ cs) = answered (flat_call s c) (λ s'. answers_of s' cs)

-- The calls that are made: those for whose answers there is room, and no more than a 32-bit number counts
abbrev pub most_calls : ℕ
most_calls = 4294967295

abbrev pub answer_room : List ℕ → ℕ
answer_room answers = min (length answers / answer_size) most_calls

unfoldable pub calls_made : List ℕ → List ℕ → List Call
calls_made calls answers = take (answer_room answers) (calls_of calls)

-- What is in `answers` after calls from a state: their answers, and behind them what was there
abbrev pub answers_after : Flat → List Call → List ℕ → List ℕ
answers_after s cs answers = all_words_of (answers_of s cs) ++ drop (answer_size * length cs) answers

-- Calls made from a state s: k of them, leaving s' and answers'
pub record Plays (calls answers : List ℕ) (s : Flat) (k : ℕ) (s' : Flat) (answers' : List ℕ) : Type 0 where
  pub last : s' ≡ last_state s (calls_made calls answers)
  pub made : k ≡ length (calls_made calls answers)
  pub written : answers' ≡ answers_after s (calls_made calls answers) answers

-- Play: the number of calls made, the state and the answers after them; or the number of the refusal, state and answers as they were
pub data Played : Type 0 where
  played : ℕ → Flat → List ℕ → Played
  unplayed : ℕ → Flat → List ℕ → Played

abbrev pub played_all : Flat → List Call → List ℕ → Played
played_all s cs answers = played (length cs) (last_state s cs) (answers_after s cs answers)

abbrev pub play_if : Verdict → Flat → List ℕ → List ℕ → Played
play_if accepted s calls answers = played_all s (calls_made calls answers) answers
play_if (refused k) s calls answers = unplayed k s answers

-- 3 and 11 refuse the whole list.
unfoldable pub flat_play : Flat → List ℕ → List ℕ → Played
flat_play s calls answers = play_if (check s) s calls answers

-- The theorem's conclusion for the list: where check accepts the state, the two machines agree on the calls that play makes, and check accepts
-- what they leave. (proofs/Playing.antt has the proof.)
pub record PlaysRight (s : Flat) (calls answers : List ℕ) : Type 0 where
  pub agrees : Agrees (room_of s) (calls_made calls answers) s (plain_of s)
  pub checks : check (last_state s (calls_made calls answers)) ≡ accepted

abbrev pub PlaysAlike : Flat → List ℕ → List ℕ → Type 0
PlaysAlike s calls answers = check s ≡ accepted → PlaysRight s calls answers
