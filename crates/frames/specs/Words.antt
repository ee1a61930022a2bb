-- The words of a new frame (01, "Plain machine"): sender, position 0, depth 0, method, 0, receiver, arguments, nil in the other temporaries.
use Rattle.std.specs.Prelude.{ℕ, ◌-◌, List, ◌∷◌, ◌++◌, length, replicate}
use Rattle.bytecode.specs.Constant.{nil_word}

abbrev pub new_words : ℕ → ℕ → ℕ → ℕ → List ℕ → List ℕ
new_words sender method receiver temporaries arguments =
    sender ∷ 0 ∷ 0 ∷ method ∷ 0 ∷ receiver ∷ (arguments ++ replicate (temporaries - length arguments) nil_word)
