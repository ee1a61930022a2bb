-- Sends that fail, by computation (02, M-104). Class B is below A, which has a method under object 6, doesNotUnderstand:, and one that pushes its field; the class
-- of integers has a method under object 6 too. bar, in B, sends a selector with one argument to self, or by super to a literal. foo is nowhere.
use Prim.Native.Nat.{ℕ}
use mathlib.Core.Path.{◌≡◌, refl}
use mathlib.Core.List.{List, [], ◌∷◌}
use lib.ListN.{length, replicate}
use Rattle.bytecode.specs.Constant.{nil_word}
use Rattle.model.specs.Objects.{part}
use Rattle.plain.specs.Registers.{no_registers}
use Rattle.plain.specs.Flat.{Flat}
use Rattle.plain.specs.FlatCalls.{Given, flat_load, flat_begin, flat_run}
use Rattle.plain.specs.Program.{line, step80}
use Rattle.plain.proofs.Computing.{computing}
use Rattle.plain.proofs.Images.{Object, object, edition_with, state_of, read_by}

-- classes, lists and methods are of class 9
abbrev class : ℕ → ℕ → ℕ → ℕ → Object
class superclass dictionary fields form = object 18 2 4 (superclass ∷ dictionary ∷ fields ∷ form ∷ [])

abbrev list : List ℕ → Object
list words = object 18 3 (length words) words

abbrev method : ℕ → List ℕ → Object
method size words = object 18 4 size words

-- by edition and start selector: the method under object 6 in A, the one that pushes a field, and bar
unfoldable pub message_image : ℕ → ℕ → Object → Object → Object → List ℕ
unfolding edition_with
message_image edition start failure field bar =
    edition_with edition 50 start
    (object 20 0 0 [] ∷
    object 20 0 0 [] ∷
    object 20 0 0 [] ∷
    class nil_word 34 1 7 ∷
    list (replicate 32 nil_word) ∷
    object 24 1 1 (24832 ∷ []) ∷
    class nil_word 22 5 1 ∷
    class nil_word 22 1 3 ∷
    class nil_word 22 1 7 ∷
    class nil_word 22 1 1 ∷
    list [] ∷
    class nil_word 22 1 5 ∷
    object 24 1 1 (25088 ∷ []) ∷
    object 24 1 1 (25344 ∷ []) ∷
    class nil_word 32 3 1 ∷
    list (12 ∷ 36 ∷ 40 ∷ 38 ∷ []) ∷
    list (12 ∷ 42 ∷ []) ∷
    failure ∷
    field ∷
    object 24 1 1 (25600 ∷ []) ∷
    method 6 (8449 ∷ 8 ∷ 4220 ∷ []) ∷
    class 30 46 3 1 ∷
    list (28 ∷ 48 ∷ []) ∷
    bar ∷
    object 44 0 1 (81 ∷ []) ∷
    [])

-- under object 6: code that returns the message; primitive 110 before that code
abbrev returns_message : Object
returns_message = method 6 (8449 ∷ 30 ∷ 4220 ∷ [])

abbrev identity : Object
identity = method 10 (57605 ∷ 30 ∷ 733 ∷ 1 ∷ 4220 ∷ [])

abbrev pushes_field : Object
pushes_field = method 6 (1 ∷ 30 ∷ 124 ∷ [])

-- in its place, flag 6 with field 0
abbrev answers_field : Object
answers_field = method 4 (49153 ∷ 30 ∷ [])

-- or a super send of foo from A, which has no superclass
abbrev from_root : Object
from_root = method 10 (3 ∷ 30 ∷ 26 ∷ 28805 ∷ 124 ∷ [])

-- bar: foo with the argument 1 to self; a selector by super to a literal
abbrev sends_foo : Object
sends_foo = method 11 (3 ∷ 44 ∷ 26 ∷ 28790 ∷ 33568 ∷ 31744 ∷ [])

abbrev super : ℕ → ℕ → Object
super selector pushed = method 12 (5 ∷ 44 ∷ selector ∷ pushed ∷ 8581 ∷ 124 ∷ [])

-- The message is the second object that is made; without messages the send halts. By super object 6 is sought above B as the selector was: A's method runs on
-- an object of B, nil as selector included, and not on the integer 1, whose own class is not asked; one that primitive 110 answers is. A method that was found and
-- cannot run on the integer, or has no field to answer, makes a failed send in the same way. From a root nothing is found.
pub record MessageSends : Type 0 where
  pub sent : step80 (message_image 2 28 returns_message pushes_field sends_foo) ≡ line 2 6 54
  pub unsent : step80 (message_image 1 28 returns_message pushes_field sends_foo) ≡ line 3 2 0
  pub above : step80 (message_image 2 28 returns_message pushes_field (super 26 50)) ≡ line 2 5 54
  pub no_selector : step80 (message_image 2 28 returns_message pushes_field (super nil_word 50)) ≡ line 2 5 54
  pub unfit : step80 (message_image 2 28 returns_message pushes_field (super 26 3)) ≡ line 3 1 0
  pub answered : step80 (message_image 2 28 identity pushes_field (super 26 3)) ≡ line 2 3 4
  pub no_field : step80 (message_image 2 28 identity answers_field (super 40 3)) ≡ line 2 3 4
  pub first_unfit : step80 (message_image 2 28 identity pushes_field (super 40 3)) ≡ line 2 3 4
  pub both_unfit : step80 (message_image 2 28 returns_message pushes_field (super 40 3)) ≡ line 3 1 0
  pub root : step80 (message_image 2 40 returns_message from_root sends_foo) ≡ line 3 1 0

pub message_sends : MessageSends
unfolding computing message_image
message_sends =
    record { sent = refl; unsent = refl; above = refl; no_selector = refl; unfit = refl; answered = refl; no_field = refl; first_unfit = refl; both_unfit = refl; root = refl }

-- The array stands first, with the argument, then the message: its selector and the array. Where the stack has no room for the frame, in phase 5, nothing is made.
abbrev lent : ℕ → Flat
lent stack =
    record { registers = no_registers; contents = replicate 108 0; bodies = replicate 95 0; stack = replicate stack 0; cache = replicate 256 0 }

unfoldable pub ran : Object → ℕ → Given
ran bar stack = flat_run (state_of (flat_begin (state_of (flat_load (lent stack) (message_image 2 28 returns_message pushes_field bar))) 50 28 [])) 3

unfoldable pub after : ℕ → Flat
unfolding ran
after stack = state_of (ran sends_foo stack)

pub record Made : Type 0 where
  pub objects : (after 36).registers.n ≡ 27
  pub words : (after 36).registers.b ≡ 95
  pub entries : part (after 36).contents 100 8 ≡ 16 ∷ 0 ∷ 92 ∷ 1 ∷ 14 ∷ 0 ∷ 93 ∷ 2 ∷ []
  pub bodies : part (after 36).bodies 92 3 ≡ 3 ∷ 26 ∷ 52 ∷ []
  pub argument : part (after 36).stack 18 7 ≡ 0 ∷ 0 ∷ 0 ∷ 36 ∷ 0 ∷ 50 ∷ 54 ∷ []
  pub phase : (after 35).registers.phase ≡ 5
  pub none : (after 35).registers.n ≡ 25
  pub no_words : (after 35).registers.b ≡ 92
  pub no_entries : part (after 35).contents 100 8 ≡ replicate 8 0
  pub no_bodies : part (after 35).bodies 92 3 ≡ replicate 3 0

pub made : Made
unfolding computing message_image after
made =
    record { objects = refl; words = refl; entries = refl; bodies = refl; argument = refl; phase = refl; none = refl; no_words = refl; no_entries = refl; no_bodies = refl }

-- The dictionaries that object 6 was sought in, not those that the failed search read before: two from B's objects, one above B by super. None where the frame does not fit.
pub record Read : Type 0 where
  pub from_b : read_by (ran sends_foo 36) ≡ 2
  pub above_b : read_by (ran (super 26 50) 36) ≡ 1
  pub halted : read_by (ran sends_foo 35) ≡ 0

pub read : Read
unfolding computing message_image ran
read = record { from_b = refl; above_b = refl; halted = refl }
