-- Images for the examples, written object by object.
use Prim.Native.Nat.{ℕ, ◌+◌, ◌*◌}
use mathlib.Core.List.{List, [], ◌∷◌, ◌++◌}
use lib.ListN.{length, replicate}
use Rattle.bytecode.specs.Constant.{nil_word}
use Rattle.model.specs.Image.{bytes_of}
use Rattle.plain.specs.Registers.{no_registers}
use Rattle.plain.specs.Flat.{Flat}
use Rattle.plain.specs.Calls.{done, refused_by, result, wrote}
use Rattle.plain.specs.FlatCalls.{Given, gives, no_answer}

-- An object: its class, kind and size, and the words of its body
pub record Object : Type 0 where
  pub class : ℕ
  pub kind : ℕ
  pub size : ℕ
  pub body : List ℕ

abbrev pub object : ℕ → ℕ → ℕ → List ℕ → Object
object class kind size body = record { class = class; kind = kind; size = size; body = body }

-- contents of objects whose bodies start at a place, and their bodies
unfoldable pub contents_from : ℕ → List Object → List ℕ
contents_from start [] = []
contents_from start (x ∷ xs) = x.class ∷ x.kind ∷ start ∷ x.size ∷ contents_from (start + length x.body) xs

unfoldable pub bodies_of : List Object → List ℕ
bodies_of [] = []
bodies_of (x ∷ xs) = x.body ++ bodies_of xs

-- an image of an edition, with its start words
unfoldable pub edition_with : ℕ → ℕ → ℕ → List Object → List ℕ
unfolding contents_from bodies_of
edition_with edition receiver selector xs =
    bytes_of ((edition ∷ length xs ∷ length (bodies_of xs) ∷ receiver ∷ selector ∷ []) ++ (contents_from 0 xs ++ bodies_of xs))

unfoldable pub image_with : ℕ → ℕ → List Object → List ℕ
unfolding edition_with
image_with = edition_with 1

-- A class of class 6: superclass, dictionary, F and form, the last two as words
abbrev pub class : ℕ → ℕ → ℕ → ℕ → Object
class superclass dictionary fields form = object 12 2 4 (superclass ∷ dictionary ∷ fields ∷ form ∷ [])

abbrev pub list : List ℕ → Object
list words = object 12 3 (length words) words

abbrev pub method : ℕ → List ℕ → Object
method size words = object 12 4 size words

abbrev pub no_selectors : Object
no_selectors = list (replicate 32 nil_word)

-- 01's image of twelve objects: 4, the class of integers, has one method, which adds 2 to its receiver
unfoldable pub add_two : ℕ → List ℕ
unfolding image_with
add_two receiver =
    image_with receiver 20
    (object 14 0 0 [] ∷
    object 14 0 0 [] ∷
    object 14 0 0 [] ∷
    class nil_word 18 1 7 ∷
    no_selectors ∷
    class nil_word 16 1 7 ∷
    class nil_word 16 1 1 ∷
    list [] ∷
    list (20 ∷ 22 ∷ []) ∷
    object 24 1 1 (24832 ∷ []) ∷
    method 8 (1 ∷ 8 ∷ 28791 ∷ 45180 ∷ []) ∷
    class nil_word 16 1 5 ∷
    [])

-- Buffers of so many words, all alike; the state that a call left, and the dictionaries that a run read
abbrev pub buffers : ℕ → ℕ → ℕ → Flat
buffers objects stack fill =
    record { registers = no_registers; contents = replicate (4 * objects) fill; bodies = replicate 90 fill; stack = replicate stack fill; cache = replicate 256 fill }

abbrev pub state_of : Given → Flat
state_of (gives a s) = s
state_of no_answer = record { registers = no_registers; contents = []; bodies = []; stack = []; cache = [] }

abbrev pub read_by : Given → ℕ
read_by (gives done s) = 0
read_by (gives (refused_by k) s) = 0
read_by (gives (result phase count value reach dictionaries) s) = dictionaries
read_by (gives (wrote k) s) = 0
read_by no_answer = 0
