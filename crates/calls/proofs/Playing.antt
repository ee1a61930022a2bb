-- The loop over the calls of a list.
use Prim.Native.Nat.{ℕ, suc, ◌+◌, ◌-◌, ◌*◌, ◌≤◌, ◌<◌}
use mathlib.Core.Path.{◌≡◌, refl, sym, ap, ap₂, ◌∙◌, subst}
use mathlib.Core.List.{List, [], ◌∷◌, ◌++◌, append_assoc, append-nil}
use native.Mathlib.Omega.{arith}
use native.Mathlib.Nat.{sub-zero}
use lib.ListN.{length, take, drop, take-append-drop}
use lib.Seq.{sets, length-sets, drop-drop}
use Rattle.model.specs.Image.{Verdict, accepted, refused}
use Rattle.plain.specs.Calls.{Call, Answer}
use Rattle.plain.specs.Flat.{Flat, room_of, plain_of}
use Rattle.plain.specs.Check.{check}
use Rattle.plain.specs.FlatCalls.{gives, flat_call}
use Rattle.plain.specs.CallLists.{last_state}
use Rattle.plain.proofs.Theorem.{from_checked}
use Rattle.calls.specs.Encoding.{size_at, call_at, calls_of, answer_size, answer_words, all_words_of}
use Rattle.calls.specs.Plays.{answers_of, answer_room, calls_made, Plays, played, unplayed, play_if, flat_play, PlaysAlike}
use Rattle.calls.proofs.Lists.{within, ends_within, left, left_full, left_none, left_more, last_more, answers_more, all_words, put_before, put_behind}
use Rattle.plain.proofs.Consequences.{call_checks, last_checks}

-- k calls are made, the next one stands at i: what is left leads from here where all calls lead from the start.
pub record Inv (words answers₀ : List ℕ) (s₀ s : Flat) (answers : List ℕ) (i k : ℕ) : Type 0 where
  pub room : k ≤ answer_room answers₀
  pub position : k ≤ i
  pub inside : i ≤ length words
  pub last : last_state s₀ (calls_made words answers₀) ≡ last_state s (left (answer_room answers₀ - k) (length words - k) i words)
  pub made : length (calls_made words answers₀) ≡ k + length (left (answer_room answers₀ - k) (length words - k) i words)
  pub written : all_words_of (answers_of s₀ (calls_made words answers₀)) ≡ take (answer_size * k) answers ++ all_words_of (answers_of s (left (answer_room answers₀ - k) (length words - k) i words))
  pub behind : drop (answer_size * k) answers ≡ drop (answer_size * k) answers₀
  pub long : length answers ≡ length answers₀
  pub checks : check s ≡ accepted
  pub contents : length s.contents ≡ length s₀.contents
  pub bodies : length s.bodies ≡ length s₀.bodies
  pub stack : length s.stack ≡ length s₀.stack
  pub cache : length s.cache ≡ length s₀.cache

pub starts : (words answers : List ℕ) (s : Flat) → check s ≡ accepted → Inv words answers s s answers 0 0
unfolding calls_made calls_of
starts words answers s e =
    record {
      room = omega arith;
      position = omega arith;
      inside = omega arith;
      last = ap (last_state s) all;
      made = ap (λ (cs : List Call). length cs) all
          ∙ zero_plus (length (left (answer_room answers - 0) (length words - 0) 0 words));
      written = ap (λ (cs : List Call). all_words_of (answers_of s cs)) all;
      behind =
          refl;
      long = refl;
      checks = e;
      contents = refl;
      bodies = refl;
      stack = refl;
      cache = refl;
    }
  where
    zero_plus : (x : ℕ) → x ≡ 0 + x
    zero_plus x = omega arith

    all : left (answer_room answers) (length words) 0 words ≡ left (answer_room answers - 0) (length words - 0) 0 words
    all = λ i. left (sym (sub-zero (answer_room answers)) i) (sym (sub-zero (length words)) i) 0 words

module _ (words answers₀ : List ℕ) (s₀ s : Flat) (answers : List ℕ) (i k : ℕ) (inv : Inv words answers₀ s₀ s answers i k) where
  abbrev rest : List Call
  rest = left (answer_room answers₀ - k) (length words - k) i words

  -- no call is left
  ended : rest ≡ [] → Plays words answers₀ s₀ k s answers
  unfolding last_state answers_of all_words_of
  ended e =
      record { last = sym (inv.last ∙ ap (last_state s) e); made = sym counted; written = sym written' }
    where
      plus_zero : (x : ℕ) → x + 0 ≡ x
      plus_zero x = omega arith

      counted : length (calls_made words answers₀) ≡ k
      counted = inv.made ∙ ap (λ (cs : List Call). k + length cs) e ∙ plus_zero k

      written' : all_words_of (answers_of s₀ (calls_made words answers₀)) ++ drop (answer_size * length (calls_made words answers₀)) answers₀ ≡ answers
      written' =
          ap₂ (λ (x y : List ℕ). x ++ y)
          (inv.written ∙ ap (λ (cs : List Call). take (answer_size * k) answers ++ all_words_of (answers_of s cs)) e ∙ append-nil (take (answer_size * k) answers))
          (ap (λ (n : ℕ). drop (answer_size * n) answers₀) counted ∙ sym inv.behind)
          ∙ take-append-drop (answer_size * k) answers

  pub ends_full : (room : ℕ) → room ≡ answer_room answers₀ → room ≤ k → Plays words answers₀ s₀ k s answers
  ends_full room is h = ended (left_full (answer_room answers₀ - k) (length words - k) i words (omega arith))

  pub ends_none : size_at words i ≡ 0 → Plays words answers₀ s₀ k s answers
  ends_none z = ended (left_none (answer_room answers₀ - k) (length words - k) i words z)

  -- one more call
  module _ (room : ℕ) (is : room ≡ answer_room answers₀) (below : k < room) (n : ℕ) (sized : n ≡ size_at words i) (some : 1 ≤ n) where
    free : k < answer_room answers₀
    free = subst (λ (m : ℕ). k < m) is below

    pub stands : 1 ≤ size_at words i
    stands = let e = sized in omega arith

    pub fits : answer_size * k + answer_size ≤ length answers
    fits = let f = free in let l = inv.long in omega arith

    pub ends_inside : i + n ≤ length words
    ends_inside = let e = sized in let w = ends_within words i stands in omega arith

    module _ (a : Answer) (s' : Flat) (answers' : List ℕ) (made : gives a s' ≡ flat_call s (call_at words i)) (noted : answers' ≡ sets answers (answer_size * k) (answer_words a))
        (lc : length s'.contents ≡ length s.contents) (lb : length s'.bodies ≡ length s.bodies)
        (ls : length s'.stack ≡ length s.stack) (lk : length s'.cache ≡ length s.cache) where
      abbrev rest' : List Call
      rest' = left (answer_room answers₀ - (k + 1)) (length words - (k + 1)) (i + n) words

      more : rest ≡ call_at words i ∷ rest'
      more =
          left_more (answer_room answers₀ - k) (answer_room answers₀ - (k + 1)) (length words - k) (length words - (k + 1)) i words (let f = free in omega arith)
          (let a = inv.position in let b = within words i stands in omega arith) stands
          ∙ ap (λ (j : ℕ). call_at words i ∷ left (answer_room answers₀ - (k + 1)) (length words - (k + 1)) (i + j) words) (sym sized)

      times : (x : ℕ) → answer_size * (x + 1) ≡ answer_size * x + answer_size
      times x = omega arith

      last' : last_state s rest ≡ last_state s' rest'
      last' = ap (last_state s) more ∙ last_more s s' a (call_at words i) rest' made

      before : take (answer_size * (k + 1)) answers' ≡ take (answer_size * k) answers ++ answer_words a
      before =
          ap₂ (λ (x : ℕ) (l : List ℕ). take x l) (times k) noted
          ∙ put_before answers (answer_words a) (answer_size * k) answer_size (all_words a) fits

      words' : all_words_of (answers_of s rest) ≡ answer_words a ++ all_words_of (answers_of s' rest')
      words' = ap (λ (cs : List Call). all_words_of (answers_of s cs)) more ∙ ap all_words_of (answers_more s s' a (call_at words i) rest' made) ∙ (unfold all_words_of in refl)

      written' : all_words_of (answers_of s₀ (calls_made words answers₀)) ≡ take (answer_size * (k + 1)) answers' ++ all_words_of (answers_of s' rest')
      written' =
          inv.written ∙ ap (λ (l : List ℕ). take (answer_size * k) answers ++ l) words'
          ∙ sym (append_assoc (take (answer_size * k) answers) (answer_words a) (all_words_of (answers_of s' rest')))
          ∙ ap (λ (l : List ℕ). l ++ all_words_of (answers_of s' rest')) (sym before)

      behind' : drop (answer_size * (k + 1)) answers' ≡ drop (answer_size * (k + 1)) answers₀
      behind' =
          ap₂ (λ (x : ℕ) (l : List ℕ). drop x l) (times k) noted
          ∙ put_behind answers (answer_words a) (answer_size * k) answer_size (all_words a) fits
          ∙ sym (drop-drop answer_size (answer_size * k) answers) ∙ ap (drop answer_size) inv.behind ∙ drop-drop answer_size (answer_size * k) answers₀
          ∙ ap (λ (x : ℕ). drop x answers₀) (sym (times k))

      made' : length (calls_made words answers₀) ≡ (k + 1) + length rest'
      made' = inv.made ∙ ap (λ (cs : List Call). k + length cs) more ∙ moved k (length rest')
        where
          moved : (x y : ℕ) → x + suc y ≡ (x + 1) + y
          moved x y = omega arith

      pub goes_on : Inv words answers₀ s₀ s' answers' (i + n) (k + 1)
      goes_on =
          record {
            room = let f = free in omega arith;
            position = let a = inv.position in let b = stands in let e = sized in omega arith;
            inside = ends_inside;
            last = inv.last ∙ last';
            made = made';
            written = written';
            behind = behind';
            long = ap (λ (l : List ℕ). length l) noted ∙ length-sets answers (answer_size * k) (answer_words a) ∙ inv.long;
            checks = call_checks s s' a (call_at words i) inv.checks made;
            contents = lc ∙ inv.contents;
            bodies = lb ∙ inv.bodies;
            stack = ls ∙ inv.stack;
            cache = lk ∙ inv.cache;
          }

-- ---- what play promises

pub plays_alike : (s : Flat) (calls answers : List ℕ) → PlaysAlike s calls answers
plays_alike s calls answers e =
    let a = from_checked s e (calls_made calls answers) in
    record { agrees = a; checks = last_checks (room_of s) (calls_made calls answers) s (plain_of s) a e }

module _ (s : Flat) (calls answers : List ℕ) where
  pub play_refused : (k : ℕ) → refused k ≡ check s → unplayed k s answers ≡ flat_play s calls answers
  unfolding flat_play
  play_refused k e = ap (λ (v : Verdict). play_if v s calls answers) e

  pub play_made : (k : ℕ) (s' : Flat) (answers' : List ℕ) → accepted ≡ check s → Plays calls answers s k s' answers' → played k s' answers' ≡ flat_play s calls answers
  unfolding flat_play
  play_made k s' answers' e p = (λ i. played (p.made i) (p.last i) (p.written i)) ∙ ap (λ (v : Verdict). play_if v s calls answers) e
