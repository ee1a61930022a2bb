-- The words of a new frame in the stack, and the frame as it is held.
use Prim.Native.Nat.{ℕ, suc, ◌+◌, ◌-◌, ◌≤◌, ◌<◌}
use mathlib.Core.Path.{◌≡◌, refl, sym, ap, ◌∙◌, subst}
use mathlib.Core.List.{List, [], ◌∷◌, ◌++◌}
use native.Mathlib.Omega.{arith}
use lib.ListN.{length, get_or, set, replicate, length-set}
use lib.Seq.{sets, get_or-set_same, get_or-set_other}
use Rattle.bytecode.specs.Constant.{nil_word}
use Rattle.model.specs.Word.{object_number}
use Rattle.model.specs.Objects.{Objects, objects_at, start, body_words}
use Rattle.model.specs.Method.{literal_count}
use Rattle.plain.specs.Flat.{frame_method, operands_start}
use Rattle.frames.specs.Words.{new_words}
use Rattle.frames.specs.declared.Active.{Active}
use Rattle.frames.specs.Active.{Fresh, Held}
use Rattle.frames.proofs.ActiveLaws.{set_same}

-- a word below those that are written
sets_below : (ws l : List ℕ) (j i : ℕ) → i < j → get_or (sets l j ws) i 0 ≡ get_or l i 0
sets_below [] l j i h = refl
sets_below (w ∷ ws) l j i h = sets_below ws (set l j w) (suc j) i (omega arith) ∙ get_or-set_other l j i w 0 (omega arith)

-- the second, third and fourth of them
pub record Written (l : List ℕ) (j x y z : ℕ) : Type 0 where
  pub second : get_or l (j + 1) 0 ≡ x
  pub third : get_or l (j + 2) 0 ≡ y
  pub fourth : get_or l (j + 3) 0 ≡ z

four_written : (w x y z : ℕ) (ws l : List ℕ) (j : ℕ) → j + 4 ≤ length l → Written (sets l j (w ∷ x ∷ y ∷ z ∷ ws)) j x y z
four_written w x y z ws l j h =
    let k₁ = length-set l j w in
    let k₂ = length-set (set l j w) (suc j) x in
    let k₃ = length-set (set (set l j w) (suc j) x) (suc (suc j)) y in
    record {
      second = ap (λ (i : ℕ). get_or (sets l j (w ∷ x ∷ y ∷ z ∷ ws)) i 0) (one j) ∙ sets_below (y ∷ z ∷ ws) (set (set l j w) (suc j) x) (suc (suc j)) (suc j) (omega arith)
          ∙ get_or-set_same (set l j w) (suc j) x 0 (omega arith);
      third = ap (λ (i : ℕ). get_or (sets l j (w ∷ x ∷ y ∷ z ∷ ws)) i 0) (two j)
          ∙ sets_below (z ∷ ws) (set (set (set l j w) (suc j) x) (suc (suc j)) y) (suc (suc (suc j))) (suc (suc j)) (omega arith)
          ∙ get_or-set_same (set (set l j w) (suc j) x) (suc (suc j)) y 0 (omega arith);
      fourth = ap (λ (i : ℕ). get_or (sets l j (w ∷ x ∷ y ∷ z ∷ ws)) i 0) (three j)
          ∙ sets_below ws (set (set (set (set l j w) (suc j) x) (suc (suc j)) y) (suc (suc (suc j))) z) (suc (suc (suc (suc j)))) (suc (suc (suc j))) (omega arith)
          ∙ get_or-set_same (set (set (set l j w) (suc j) x) (suc (suc j)) y) (suc (suc (suc j))) z 0 (omega arith);
    }
  where
    one : (i : ℕ) → i + 1 ≡ suc i
    one i = omega arith

    two : (i : ℕ) → i + 2 ≡ suc (suc i)
    two i = omega arith

    three : (i : ℕ) → i + 3 ≡ suc (suc (suc i))
    three i = omega arith

module _ (n b : ℕ) (contents bodies : List ℕ) {f : Active} {m : ℕ} (fresh : Fresh (objects_at n b contents bodies) m f) (l stack' : List ℕ) (sender receiver temporaries : ℕ) (arguments : List ℕ)
    (e : stack' ≡ sets l f.base.0 (new_words sender m receiver temporaries arguments)) (fits : f.base.0 + 6 ≤ length l) where
  abbrev base : ℕ
  base = f.base.0

  abbrev o : Objects
  o = objects_at n b contents bodies

  new_words_lem : Written stack' base 0 0 m
  new_words_lem =
      subst (λ (x : List ℕ). Written x base 0 0 m) (sym e)
      (four_written sender 0 0 m (0 ∷ receiver ∷ (arguments ++ replicate (temporaries - length arguments) nil_word)) l base (omega arith))

  pub new_method : frame_method stack' base ≡ m
  new_method = new_words_lem.fourth

  pub new_held : Held n b base contents bodies stack' f
  new_held =
      record {
        base = refl;
        same = ap (λ (x : List ℕ). set x (base + 2) (f.end.0 - f.operands.0)) (set_same stack' (base + 1) f.position.0 (fresh.position ∙ sym new_words_lem.second))
            ∙ set_same stack' (base + 2) (f.end.0 - f.operands.0) (let z = fresh.none in let y = new_words_lem.third in omega arith);
        stands = record {
          code = subst (λ (x : ℕ). f.code ≡ start o (object_number x) + (2 + literal_count o x)) (sym new_method) fresh.code;
          limit = subst (λ (x : ℕ). f.limit ≡ start o (object_number x) + body_words o (object_number x)) (sym new_method) fresh.limit;
          operands = subst (λ (x : ℕ). f.operands.0 ≡ operands_start o x base) (sym new_method) fresh.operands;
          above = let z = fresh.none in omega arith;
        };
      }
