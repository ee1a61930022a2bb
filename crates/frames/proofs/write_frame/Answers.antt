-- Six words, then the arguments, then nil.
use mathlib.Core.List.{List, [], ◌∷◌, ◌++◌}
use Prim.Native.Nat.{ℕ, ◌≤◌, ◌-◌, ◌+◌}
use mathlib.Core.Path.{◌≡◌, sym, ap, ◌∙◌}
use native.Mathlib.Omega.{arith}
use lib.ListN.{length, length-set, take, replicate}
use lib.Seq.{sets, length-sets, length-take-le}
use Rattle.bytecode.specs.Constant.{nil_word}
use Rattle.model.specs.Limits.{frame_header_words}
use Rattle.model.proofs.Parts.{sets_append}
use Rattle.frames.proofs.write_frame.Goals as goal

abbrev header : ℕ → ℕ → ℕ → List ℕ
header sender method receiver = sender ∷ 0 ∷ 0 ∷ method ∷ 0 ∷ receiver ∷ []

finish : (l arguments : List ℕ) (count temporaries : ℕ) → count ≤ length arguments
    → sets l frame_header_words (take count arguments ++ replicate (temporaries - length (take count arguments)) nil_word)
    ≡ sets (sets l frame_header_words (take count arguments)) (frame_header_words + count) (replicate (temporaries - count) nil_word)
finish l arguments count temporaries h =
    sets_append l frame_header_words (take count arguments) (replicate (temporaries - length (take count arguments)) nil_word)
    ∙ ap (λ (k : ℕ). sets (sets l frame_header_words (take count arguments)) (frame_header_words + k) (replicate (temporaries - k) nil_word)) (length-take-le count arguments h)

pub bounds-words-1 : goal.bounds-words-1
bounds-words-1 c = simp length-set (omega arith)

pub bounds-words-2 : goal.bounds-words-2
bounds-words-2 c = simp length-set (omega arith)

pub bounds-words-3 : goal.bounds-words-3
bounds-words-3 c = simp length-set (omega arith)

pub bounds-words-4 : goal.bounds-words-4
bounds-words-4 c = simp length-set (omega arith)

pub bounds-words-5 : goal.bounds-words-5
bounds-words-5 c = simp length-set (omega arith)

pub copy-requires : goal.copy-requires
copy-requires c = (simp length-set (omega arith), omega arith)

pub fill-requires : goal.fill-requires
fill-requires c =
    let args = c.args in
    let l = c.copy.auto.words ∙ length-sets args.words.now 0 (header args.sender.0 args.method.0 args.receiver) in omega arith

pub shape_of-words : goal.shape_of-words
shape_of-words c =
    let args = c.args in
    c.fill.auto.words ∙ c.copy.auto.words ∙ length-sets args.words.now 0 (header args.sender.0 args.method.0 args.receiver)

pub returns : goal.returns
returns c =
    let args = c.args in
    c.fill.ensures
    ∙ ap (λ (l : List ℕ). sets l (frame_header_words + args.count) (replicate {A = ℕ} (args.temporaries - args.count) nil_word)) c.copy.ensures
    ∙ sym (finish (sets args.words.now 0 (header args.sender.0 args.method.0 args.receiver)) args.arguments.now args.count args.temporaries (omega arith))
