-- The shape of a method, from the words that were read.
use Prim.Native.Nat.{ℕ, ◌+◌, ◌*◌, ◌/◌, ◌%◌, ◌≤◌}
use mathlib.Core.Path.{◌≡◌, sym, ap, ap₂, ◌∙◌, subst}
use mathlib.Core.Bool.{Bool, true, ◌&&◌}
use native.Mathlib.Omega.{arith}
use borrow.Author.Tests.{eq-eqb, ne_eqb}
use mathlib.Core.List.{List}
use lib.Dec.{T, leb, ltb, eqb, leb→le}
use Rattle.bytecode.proofs.TestLaws.{true→T, implied, rule, up_to_at}
use Rattle.model.proofs.ChainLaws.{named}
use Rattle.model.proofs.Facts.{pointer_of, extended_facts}
use Rattle.readers.specs.Places.{Laid, CountInside}
use Rattle.readers.proofs.InsideLaws.{count_inside}
use Rattle.methods.specs.Asked.{Literals}
use Rattle.bytecode.specs.Test.{below, implies, all_of}
use Rattle.model.specs.Limits.{class_kind, method_kind, field_flag, primitive_flag}
use Rattle.model.specs.Word.{is_valid, pointer}
use Rattle.model.specs.Objects.{Objects, objects_at, body_word, kind, size, is_kind, fields_word, field_count}
use Rattle.model.specs.Method.{header, home, literal, flag, temporary_count, literal_count, extension, argument_count}
use Rattle.model.specs.Rules.{extension_fine}
use Rattle.readers.proofs.Loops.{and_true}
use Rattle.methods.specs.Passes.{shape_rules, shape_fine, shapes, field_rule, primitive_rule, flag_rules}

module _ (o : Objects) (m : ℕ) where
  pub no_field_flag : {f : ℕ} → f ≡ flag o m → (f ≡ field_flag → ⊥) → true ≡ field_rule o m
  unfolding field_rule
  no_field_flag e d = sym (ap (λ (x : Bool). implies x (ltb (temporary_count o m) (field_count o (home o m)))) (ne_eqb (flag o m) field_flag (λ q. d (e ∙ q))))

  pub field_flag_lem : {f t c w : ℕ} → f ≡ flag o m → f ≡ field_flag → t ≡ temporary_count o m → c ≡ home o m → w ≡ fields_word o c → ltb t (w / 2) ≡ field_rule o m
  unfolding field_rule
  field_flag_lem {f} {t} {c} {w} e d et ec ew =
      ap (λ (x : ℕ). ltb x (w / 2)) et ∙ ap (λ (x : ℕ). ltb (temporary_count o m) (x / 2)) (ew ∙ ap (fields_word o) ec)
      ∙ sym (ap (λ (x : Bool). implies x (ltb (temporary_count o m) (field_count o (home o m)))) (eq-eqb (flag o m) field_flag (sym e ∙ d)))

  pub primitive_flag_lem : {f : ℕ} {r : Bool} → f ≡ flag o m → f ≡ primitive_flag → r ≡ extension_fine o m → r ≡ primitive_rule o m
  unfolding primitive_rule
  primitive_flag_lem e d q = q ∙ sym (ap (λ (x : Bool). implies x (extension_fine o m)) (eq-eqb (flag o m) primitive_flag (sym e ∙ d)))

  -- the extension is where the last but one literal is
  pub extension_word : {l w : ℕ} → l ≡ literal_count o m → 2 ≤ l → w ≡ body_word o (m / 2) l → w ≡ extension o m
  extension_word {l} e h q = q ∙ ap (body_word o (m / 2)) (omega arith)

  -- all of it
  pub shape_is : {h l z c : ℕ} → h ≡ header o m → l ≡ literal_count o m → z ≡ size o (m / 2) → c ≡ home o m
      → all_of (shape_rules o m) ≡ (leb 4 z && (eqb (h % 2) 1 && (leb (4 + 2 * l) z && (is_kind o class_kind c && (below l (λ i. is_valid o.n (literal o m i)) && flag_rules o m)))))
  unfolding shape_rules flag_rules field_rule primitive_rule
  shape_is {h} {l} {z} {c} eh el ez ec =
      ap (λ (x : Bool). leb 4 (size o (m / 2)) && (eqb (header o m % 2) 1 && (leb (4 + 2 * literal_count o m) (size o (m / 2)) &&
      (is_kind o class_kind (home o m) && (below (literal_count o m) (λ i. is_valid o.n (literal o m i)) && (field_rule o m && (primitive_rule o m && x)))))))
      (and_true (leb (argument_count o m) (temporary_count o m)))
      ∙ ap (λ (x : ℕ). leb 4 x && (eqb (header o m % 2) 1 &&
      (leb (4 + 2 * literal_count o m) x && (is_kind o class_kind (home o m) && (below (literal_count o m) (λ i. is_valid o.n (literal o m i)) && flag_rules o m))))) (sym ez)
      ∙ ap₂ (λ (x y : ℕ). leb 4 z && (eqb (x % 2) 1 && (leb (4 + 2 * y) z &&
      (is_kind o class_kind (home o m) && (below y (λ i. is_valid o.n (literal o m i)) && flag_rules o m))))) (sym eh) (sym el)
      ∙ ap (λ (x : ℕ). leb 4 z && (eqb (h % 2) 1 && (leb (4 + 2 * l) z && (is_kind o class_kind x && (below l (λ i. is_valid o.n (literal o m i)) && flag_rules o m))))) (sym ec)

-- what the shape of a method says of the words that are read of it
module _ (o : Objects) (m : ℕ) where
  pub shape_at : T (is_kind o method_kind m) → T (shapes o) → T (all_of (shape_rules o m))
  unfolding shapes shape_fine
  shape_at t s =
      let q = named o method_kind m t in
      subst (λ (x : ℕ). T (all_of (shape_rules o x))) (pointer_of m q.even)
      (implied (eqb (kind o (m / 2)) method_kind) (all_of (shape_rules o (pointer (m / 2)))) (up_to_at o.n (shape_fine o) s (m / 2) q.least q.most)
      (true→T (eq-eqb (kind o (m / 2)) method_kind q.kinds)))

  pub primitive_two : T (primitive_rule o m) → flag o m ≡ primitive_flag → 2 ≤ literal_count o m
  unfolding primitive_rule
  primitive_two t e = (extended_facts o m (implied (eqb (flag o m) primitive_flag) (extension_fine o m) t (true→T (eq-eqb (flag o m) primitive_flag e)))).two

  pub primitive_at : T (all_of (shape_rules o m)) → flag o m ≡ primitive_flag → 2 ≤ literal_count o m
  unfolding shape_rules primitive_rule
  primitive_at t = primitive_two (rule (shape_rules o m) t 6)

module _ {n b : ℕ} {contents bodies : List ℕ} where
  pub literals_held : Laid n b contents bodies → (m : ℕ) → T (is_kind (objects_at n b contents bodies) method_kind m) → T (all_of (shape_rules (objects_at n b contents bodies) m))
      → Literals n b contents bodies m (literal_count (objects_at n b contents bodies) m)
  unfolding shape_rules
  literals_held l m t s =
      let o : Objects = objects_at n b contents bodies in
      record { laid = l; is_method = t; holds = leb→le (4 + 2 * literal_count o m) (size o (m / 2)) (rule (shape_rules o m) s 2) }

  pub count_here : {m : ℕ} → Literals n b contents bodies m (literal_count (objects_at n b contents bodies) m)
      → (flag (objects_at n b contents bodies) m ≡ primitive_flag → 2 ≤ literal_count (objects_at n b contents bodies) m) → CountInside n b contents bodies m
  count_here p two = count_inside p.laid p.is_method p.holds two
