-- Rule 7 is its three passes and the methods under object 6.
use Prim.Native.Nat.{ℕ, ◌≤◌}
use mathlib.Core.Path.{◌≡◌}
use mathlib.Core.Bool.{Bool, ◌&&◌}
use lib.Dec.{T, eqb}
use Rattle.bytecode.specs.Test.{up_to, implies, all_of}
use Rattle.bytecode.proofs.TestLaws.{and_left, and_right, and_both, implied, rule, rules, up_to_at, at_up_to}
use Rattle.model.specs.Limits.{class_kind, method_kind}
use Rattle.model.specs.Word.{pointer}
use Rattle.model.specs.Objects.{Objects, kind}
use Rattle.model.specs.Method.{runs_code}
use Rattle.model.specs.Depth.{is_some}
use Rattle.model.specs.Rules.{method_rules, method_table, dictionary_methods_fine, failure_methods_fine, rule7}
use Rattle.model.proofs.Parts.{same_test, implying}
use Rattle.methods.specs.Passes.{shape_rules, shape_fine, holder_fine, code_fine, shapes, holders, codes}

module _ (e : ℕ) (o : Objects) where
  abbrev seven : ℕ → Bool
  seven k = implies (eqb (kind o k) method_kind) (all_of (method_rules e o (pointer k))) && implies (eqb (kind o k) class_kind) (dictionary_methods_fine o (pointer k))

  method_shape : (m : ℕ) → T (all_of (method_rules e o m)) → T (all_of (shape_rules o m))
  unfolding method_rules shape_rules
  method_shape m t =
      let r = rule (method_rules e o m) t in
      rules (shape_rules o m) (r 0, (r 1, (r 2, (r 3, (r 4, (r 5, (r 6, (r 7, tt))))))))

  method_code : (m : ℕ) → T (all_of (method_rules e o m)) → T (implies (runs_code o m) (is_some (method_table e o m)))
  unfolding method_rules
  method_code m t = rule (method_rules e o m) t 8

  shape_method : (m : ℕ) → T (all_of (shape_rules o m)) → T (implies (runs_code o m) (is_some (method_table e o m))) → T (all_of (method_rules e o m))
  unfolding method_rules shape_rules
  shape_method m t c =
      let r = rule (shape_rules o m) t in
      rules (method_rules e o m) (r 0, (r 1, (r 2, (r 3, (r 4, (r 5, (r 6, (r 7, (c, tt)))))))))

  to_passes : T (rule7 e o) → T (shapes o && (holders o && (failure_methods_fine e o && codes e o)))
  unfolding rule7 shapes holders codes shape_fine holder_fine code_fine
  to_passes t =
      and_both (up_to o.n (shape_fine o)) (up_to o.n (holder_fine o) && (failure_methods_fine e o && up_to o.n (code_fine e o)))
      (at_up_to o.n (shape_fine o) (λ k a b. implying (eqb (kind o k) method_kind) (all_of (shape_rules o (pointer k)))
      (λ q. method_shape (pointer k) (implied (eqb (kind o k) method_kind) (all_of (method_rules e o (pointer k))) (first k a b) q))))
      (and_both (up_to o.n (holder_fine o)) (failure_methods_fine e o && up_to o.n (code_fine e o))
      (at_up_to o.n (holder_fine o) (λ k a b. and_right (implies (eqb (kind o k) method_kind) (all_of (method_rules e o (pointer k))))
      (implies (eqb (kind o k) class_kind) (dictionary_methods_fine o (pointer k))) (up_to_at o.n seven objects k a b)))
      (and_both (failure_methods_fine e o) (up_to o.n (code_fine e o)) (and_right (up_to o.n seven) (failure_methods_fine e o) t)
      (at_up_to o.n (code_fine e o) (λ k a b. implying (eqb (kind o k) method_kind) (implies (runs_code o (pointer k)) (is_some (method_table e o (pointer k))))
      (λ q. method_code (pointer k) (implied (eqb (kind o k) method_kind) (all_of (method_rules e o (pointer k))) (first k a b) q))))))
    where
      objects : T (up_to o.n seven)
      objects = and_left (up_to o.n seven) (failure_methods_fine e o) t

      first : (k : ℕ) → 1 ≤ k → k ≤ o.n → T (implies (eqb (kind o k) method_kind) (all_of (method_rules e o (pointer k))))
      first k a b = and_left (implies (eqb (kind o k) method_kind) (all_of (method_rules e o (pointer k))))
          (implies (eqb (kind o k) class_kind) (dictionary_methods_fine o (pointer k))) (up_to_at o.n seven objects k a b)

  of_passes : T (shapes o && (holders o && (failure_methods_fine e o && codes e o))) → T (rule7 e o)
  unfolding rule7 shapes holders codes shape_fine holder_fine code_fine
  of_passes t =
      let s = and_left (up_to o.n (shape_fine o)) (up_to o.n (holder_fine o) && (failure_methods_fine e o && up_to o.n (code_fine e o))) t in
      let u = and_right (up_to o.n (shape_fine o)) (up_to o.n (holder_fine o) && (failure_methods_fine e o && up_to o.n (code_fine e o))) t in
      let h = and_left (up_to o.n (holder_fine o)) (failure_methods_fine e o && up_to o.n (code_fine e o)) u in
      let v = and_right (up_to o.n (holder_fine o)) (failure_methods_fine e o && up_to o.n (code_fine e o)) u in
      let c = and_right (failure_methods_fine e o) (up_to o.n (code_fine e o)) v in
      and_both (up_to o.n seven) (failure_methods_fine e o)
      (at_up_to o.n seven
      (λ k a b. and_both (implies (eqb (kind o k) method_kind) (all_of (method_rules e o (pointer k)))) (implies (eqb (kind o k) class_kind) (dictionary_methods_fine o (pointer k)))
      (implying (eqb (kind o k) method_kind) (all_of (method_rules e o (pointer k)))
      (λ q. shape_method (pointer k) (implied (eqb (kind o k) method_kind) (all_of (shape_rules o (pointer k))) (up_to_at o.n (shape_fine o) s k a b) q)
      (implied (eqb (kind o k) method_kind) (implies (runs_code o (pointer k)) (is_some (method_table e o (pointer k)))) (up_to_at o.n (code_fine e o) c k a b) q)))
      (up_to_at o.n (holder_fine o) h k a b)))
      (and_left (failure_methods_fine e o) (up_to o.n (code_fine e o)) v)

  pub passes : rule7 e o ≡ (shapes o && (holders o && (failure_methods_fine e o && codes e o)))
  passes = same_test (rule7 e o) (shapes o && (holders o && (failure_methods_fine e o && codes e o))) to_passes of_passes
