-- Super sends to another receiver than self, by computation (docs/DECISIONS.md, "Super sends to another receiver").
-- Class B is below A, both with one field; C is apart, with one field. bar, in B, pushes a literal, sends it foo by super, and returns the
-- answer; foo is in A, and B has another, which answers its receiver.
use Prim.Native.Nat.{ℕ, ◌+◌, ◌*◌}
use mathlib.Core.Path.{◌≡◌, refl}
use mathlib.Core.List.{List, [], ◌∷◌}
use Rattle.bytecode.specs.Constant.{nil_word}
use Rattle.model.specs.Image.{accepted, refused}
use Rattle.plain.specs.Registers.{not_understood}
use Rattle.plain.specs.State.{Frame}
use Rattle.plain.specs.Step.{Stepped, leads_to, halts, missing, entered, activated, looked, popped, step}
use Rattle.plain.specs.Flat.{Flat, room_of, plain_of}
use Rattle.plain.specs.Check.{check}
use Rattle.plain.specs.FlatCalls.{laid, with_plain, flat_load, flat_begin, flat_run}
use Rattle.plain.specs.Program.{line, step80}
use Rattle.plain.proofs.Computing.{computing}
use Rattle.plain.proofs.Images.{Object, object, class, list, method, no_selectors, image_with, buffers, state_of}

unfoldable pub super_image : Object → ℕ → List ℕ
unfolding image_with
super_image foo pushed =
    image_with 36 28
    (object 14 0 0 [] ∷
    object 14 0 0 [] ∷
    object 14 0 0 [] ∷
    class nil_word 16 1 7 ∷
    no_selectors ∷
    class nil_word 16 1 7 ∷
    class nil_word 16 1 1 ∷
    list [] ∷
    class nil_word 22 3 1 ∷
    class 18 24 3 1 ∷
    list (26 ∷ 32 ∷ []) ∷
    list (26 ∷ 42 ∷ 28 ∷ 34 ∷ []) ∷
    object 30 1 1 (24832 ∷ []) ∷
    object 30 1 1 (25088 ∷ []) ∷
    class nil_word 16 1 5 ∷
    foo ∷
    method 12 (5 ∷ 20 ∷ 26 ∷ pushed ∷ (33 * 256 + 133) ∷ 124 ∷ []) ∷
    object 20 0 1 (81 ∷ []) ∷
    object 40 0 1 (83 ∷ []) ∷
    class nil_word 16 3 1 ∷
    method 4 (40961 ∷ 20 ∷ []) ∷
    [])

-- foo as code that pushes field 0 and returns it; as flag 5; as flag 6, field 0; as primitive 111
abbrev field_code : Object
field_code = method 6 (1 ∷ 18 ∷ 124 ∷ [])

abbrev answers_receiver : Object
answers_receiver = method 4 (40961 ∷ 18 ∷ [])

abbrev answers_field : Object
answers_field = method 4 (49153 ∷ 18 ∷ [])

abbrev primitive_class : Object
primitive_class = method 9 (57349 ∷ 18 ∷ 223 ∷ 1 ∷ 30720 ∷ [])

-- Sent to the integer 1, foo's code would run on a receiver without field 0: the state before is right,
unfoldable before : Flat
before = state_of (flat_run (state_of (flat_begin (state_of (flat_load (buffers 21 60 0) (super_image field_code 3))) 36 28 [])) 1)

before_right : check before ≡ accepted
unfolding computing before super_image
before_right = refl

-- the letter of 01 would make the frame,
abbrev by_letter : Flat → List Frame → Stepped
by_letter s [] = missing
by_letter s (f ∷ rest) = activated (room_of s) (plain_of s) (popped f 3 1) rest 32 3 [] (looked 26 18 32 1) (halts not_understood) entered

abbrev after_step : Flat → Stepped → Flat
after_step s (leads_to p l) = with_plain s p (laid s.stack p.registers.top p.frames) s.cache
after_step s (halts c) = s
after_step s missing = s

unfoldable after : Flat
after = after_step before (by_letter before (plain_of before).frames)

-- and leave a state that check refuses;
after_wrong : check after ≡ refused 11
unfolding computing before after super_image
after_wrong = refl

-- the step halts instead.
halts_before : step (room_of before) (plain_of before) ≡ halts not_understood
unfolding computing before super_image
halts_before = refl

-- In whole runs: the same, and flag 6 without the field; then where the letter holds: flag 5, a primitive that succeeds, flag 6 with the
-- field present; and self as the receiver.
pub record SuperSends : Type 0 where
  pub code : step80 (super_image field_code 3) ≡ line 3 1 0
  pub no_field : step80 (super_image answers_field 3) ≡ line 3 1 0
  pub receiver : step80 (super_image answers_receiver 3) ≡ line 2 3 3
  pub primitive : step80 (super_image primitive_class 3) ≡ line 2 3 8
  pub field : step80 (super_image answers_field 38) ≡ line 2 3 83
  pub self : step80 (super_image field_code 36) ≡ line 2 5 81

pub super_sends : SuperSends
unfolding computing super_image
super_sends = record { code = refl; no_field = refl; receiver = refl; primitive = refl; field = refl; self = refl }
