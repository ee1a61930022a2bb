-- Where a method's code lies, and its table by the walk
use Prim.Native.Nat.{ℕ, zero, suc, ◌+◌, ◌-◌, ◌*◌, ◌/◌, ◌≤◌, ◌<◌}
use mathlib.Core.Path.{◌≡◌, refl, sym, ap, ap₂, ◌∙◌, subst}
use mathlib.Core.Logic.{◌⊎◌, inl, inr}
use mathlib.Core.Bool.{Bool}
use mathlib.Core.List.{List, [], ◌∷◌, ◌++◌}
use mathlib.Core.Option.{Option, none, some}
use native.Mathlib.Omega.{arith}
use native.Mathlib.Decide.{dec_lt}
use lib.Dec.{T, leb→le}
use lib.ListN.{length, get_or, take, drop, replicate, get_or-replicate, get_or-append}
use lib.Seq.{length-take-le, get_or-take, get_or-drop, get_or-append-add}
use Rattle.bytecode.proofs.TestLaws.{rule}
use Rattle.model.specs.Limits.{class_kind, method_kind}
use Rattle.model.specs.Objects.{Objects, objects_at, is_kind, start, size, body_words, body_end, fields_word, field_count, sized_in_bytes, part}
use Rattle.model.specs.Method.{home, temporary_count, literal_count, code_words, code_size, frame_words}
use Rattle.model.specs.Depth.{depthTable, note_at}
use Rattle.model.specs.Rules.{method_table}
use Rattle.model.specs.Notes.{notes_from}
use Rattle.model.proofs.ChainLaws.{named}
use Rattle.model.proofs.Facts.{in_bytes}
use Rattle.model.proofs.Parts.{length_part, part_same}
use Rattle.flow.specs.Walk.{Walked, notes_of}
use Rattle.flow.proofs.RuleLaws.{table_split}
use Rattle.rules.proofs.RuleFacts.{class_at}
use Rattle.methods.specs.Passes.{shape_rules}
use Rattle.code.specs.Asked.{Asked, CodeLent, Blank, BlankFrom, rule_of, MethodWalked}

-- the table by what is read of the method
pub table_here : {o : Objects} {m : ℕ} {words : List ℕ} {size fields temporaries literals limit w : ℕ} (edition : ℕ) → CodeLent o m words size
    → fields ≡ field_count o w → w ≡ home o m → temporaries ≡ temporary_count o m → literals ≡ literal_count o m → limit ≡ frame_words o m
    → depthTable words size temporaries limit (rule_of o m fields temporaries literals) ≡ method_table edition o m
table_here {o} {m} {fields = fields} {temporaries} {literals} {limit} edition c f h t l r =
    ap₂ (λ (w : List ℕ) (s : ℕ). depthTable w s temporaries limit (rule_of o m fields temporaries literals)) c.is_words c.is_size
    ∙ ap₂ (λ (t l : ℕ). depthTable (code_words o m) (code_size o m) t l (rule_of o m fields t literals)) t r
    ∙ ap₂ (λ (f l : ℕ). depthTable (code_words o m) (code_size o m) (temporary_count o m) (frame_words o m) (rule_of o m f (temporary_count o m) l)) (f ∙ ap (field_count o) h) l
    ∙ sym (table_split o m edition)

pub walked_as : {found found' : Option (List ℕ)} {size : ℕ} {notes : List ℕ} {r : Bool} → found ≡ found' → Walked found size notes r → Walked found' size notes r
walked_as {size = size} {notes} {r} e w = subst (λ (x : Option (List ℕ)). Walked x size notes r) e w

module _ {table contents bodies counts : List ℕ} {n b m : ℕ} (a : Asked table n b contents bodies counts m) where
  abbrev here : Objects
  here = objects_at n b contents bodies

  pub home_class : {w : ℕ} → w ≡ home here m → T (is_kind here class_kind w)
  home_class e = subst (λ (v : ℕ). T (is_kind here class_kind v)) (sym e) (unfold shape_rules in rule (shape_rules here m) a.shape 3)

  pub few_fields : {w f : ℕ} → w ≡ home here m → f ≡ fields_word here w → f / 2 < 256
  few_fields {w} e g = let k = (class_at a.ready.edition here a.ready.classes w (home_class e)).fields in omega arith

  pub code_starts : 4 + 2 * literal_count here m ≤ size here (m / 2)
  code_starts = leb→le (4 + 2 * literal_count here m) (size here (m / 2)) (unfold shape_rules in rule (shape_rules here m) a.shape 2)

  pub body_size : body_words here (m / 2) ≡ (size here (m / 2) + 1) / 2
  body_size =
      let k = named here method_kind m a.is_method in
      in_bytes here (m / 2) (subst (λ (x : ℕ). T (sized_in_bytes x)) (sym k.kinds) tt)

  pub body_inside : start here (m / 2) + body_words here (m / 2) ≤ b
  body_inside = let k = named here method_kind m a.is_method in a.ready.laid.inside (m / 2) k.least k.most

-- a list without notes
pub blank_list : (t : List ℕ) → Blank t → t ≡ replicate (length t) 0
blank_list [] h = refl
blank_list (x ∷ xs) h = ap₂ (λ (y : ℕ) (ys : List ℕ). y ∷ ys) (h 0) (blank_list xs (λ i. h (suc i)))

past : (t : List ℕ) (i : ℕ) → length t ≤ i → get_or t i 0 ≡ 0
past [] i h = refl
past (x ∷ xs) zero h = absurd (omega arith)
past (x ∷ xs) (suc i) h = past xs i (omega arith)

take_short : (n : ℕ) (t : List ℕ) → length (take n t) ≤ n
take_short zero t = omega arith
take_short (suc n) [] = omega arith
take_short (suc n) (x ∷ xs) = let h = take_short n xs in omega arith

blank_part : (t : List ℕ) (from n : ℕ) → ((i : ℕ) → from ≤ i → get_or t i 0 ≡ 0) → Blank (take n (drop from t))
blank_part t from n h i = by (dec_lt i n)
  where
    by : Dec (i < n) → get_or (take n (drop from t)) i 0 ≡ 0
    by (yes l) = get_or-take n (drop from t) i 0 l ∙ get_or-drop from t i 0 ∙ h (from + i) (omega arith)
    by (no l) = past (take n (drop from t)) i (let k = take_short n (drop from t) in omega arith)

note_of : (found : Option (List ℕ)) (size p : ℕ) → p < size → get_or (notes_of size found) p 0 ≡ note_at found p
note_of none size p h = get_or-replicate size p 0 0 h
note_of (some t) size p h = refl

-- the method's code and notes, from what is read of its entry and header
module _ {table contents bodies counts : List ℕ} {n b m : ℕ} (a : Asked table n b contents bodies counts m) {l st e z : ℕ} (notes : List ℕ)
    (ql : l ≡ literal_count (objects_at n b contents bodies) m)
    (qs : st ≡ start (objects_at n b contents bodies) (m / 2))
    (qe : e ≡ body_end (objects_at n b contents bodies) (m / 2))
    (qz : z ≡ size (objects_at n b contents bodies) (m / 2))
    (room : 2 * b ≤ length notes)
  where
    abbrev there : Objects
    there = objects_at n b contents bodies

    abbrev from : ℕ
    from = st + (2 + l)

    abbrev first : ℕ
    first = 2 * from

    abbrev last : ℕ
    last = first + (z - 2 * (2 + l))

    part_long : length (take (last - first) (drop first notes)) ≡ code_size there m
    unfolding code_size
    part_long =
        let k = code_starts a in let q = body_size a in let i = body_inside a in
        length_part notes first (last - first) (omega arith) ∙ (omega arith)

    words_here : take (e - from) (drop from bodies) ≡ code_words there m
    unfolding code_words
    words_here =
        let k = code_starts a in let q = body_size a in let i = body_inside a in let t = a.ready.laid.words in
        let s : start there (m / 2) + (2 + literal_count there m) ≡ from = omega arith in
        let c : body_words there (m / 2) - (2 + literal_count there m) ≡ e - from = omega arith in
        let g : length (take b bodies) ≡ b = length-take-le b bodies t in
        sym (ap₂ (part (take b bodies)) s c
        ∙ part_same bodies (take b bodies) from (e - from) (omega arith) (omega arith) (λ j x. get_or-take b bodies (from + j) 0 (omega arith)))

    pub code_lent : CodeLent there m (take (e - from) (drop from bodies)) (length (take (last - first) (drop first notes)))
    unfolding code_size
    code_lent =
        let k = code_starts a in let q = body_size a in let i = body_inside a in let t = a.ready.laid.words in let w = a.ready.laid.most_words in
        let g = length_part bodies from (e - from) (omega arith) in
        let y = part_long in
        record { is_words = words_here; is_size = part_long; covered = omega arith; small = omega arith }

    pub code_short : length (take (last - first) (drop first notes)) ≤ 2 * b
    unfolding code_size
    code_short =
        let k = code_starts a in let q = body_size a in let i = body_inside a in let y = part_long in omega arith

    pub code_blank : BlankFrom (start there (m / 2)) notes → Blank (take (last - first) (drop first notes))
    code_blank h = blank_part notes first (last - first) (λ i l. h i (omega arith))

    abbrev put : List ℕ → List ℕ
    put ys = take first notes ++ (ys ++ drop (last - first) (drop first notes))

    first_inside : length (take first notes) ≡ first
    first_inside =
        let k = code_starts a in let q = body_size a in let i = body_inside a in length-take-le first notes (omega arith)

    module _ (ys : List ℕ) (long : length ys ≡ length (take (last - first) (drop first notes))) where
      before : (j : ℕ) → j < notes_from there m → get_or (put ys) j 0 ≡ get_or notes j 0
      before j x =
          let f = first_inside in
          get_or-append (take first notes) (ys ++ drop (last - first) (drop first notes)) 0 j (omega arith) ∙ get_or-take first notes j 0 (omega arith)

      after : (j : ℕ) → notes_from there m + code_size there m ≤ j → get_or (put ys) j 0 ≡ get_or notes j 0
      unfolding code_size
      after j x =
          let f = first_inside in let y = part_long in let k = code_starts a in
          ap (λ (v : ℕ). get_or (put ys) v 0) (omega arith)
          ∙ get_or-append-add (take first notes) (ys ++ drop (last - first) (drop first notes)) (length ys + (j - last)) 0
          ∙ get_or-append-add ys (drop (last - first) (drop first notes)) (j - last) 0
          ∙ get_or-drop (last - first) (drop first notes) (j - last) 0
          ∙ get_or-drop first notes (last - first + (j - last)) 0
          ∙ ap (λ (v : ℕ). get_or notes v 0) (omega arith)

      outside : (j : ℕ) → (j < notes_from there m) ⊎ (notes_from there m + code_size there m ≤ j) → get_or (put ys) j 0 ≡ get_or notes j 0
      outside j (inl l) = before j l
      outside j (inr l) = after j l

      pub walked_put : (edition : ℕ) (r : Bool) → Walked (method_table edition there m) (length (take (last - first) (drop first notes))) ys r → MethodWalked edition there m notes (put ys) r
      walked_put edition r w =
          record {
            answer = w.answer;
            noted = λ p l.
                let f = first_inside in let y = part_long in
                ap (λ (j : ℕ). get_or (put ys) j 0) (omega arith)
                ∙ get_or-append-add (take first notes) (ys ++ drop (last - first) (drop first notes)) p 0
                ∙ get_or-append ys (drop (last - first) (drop first notes)) 0 p (omega arith)
                ∙ ap (λ (t : List ℕ). get_or t p 0) w.noted
                ∙ note_of (method_table edition there m) (length (take (last - first) (drop first notes))) p (omega arith);
            others = outside;
          }
