-- Rule 7 in three passes over the objects: the words of methods, the dictionaries that hold them, their code.
use Rattle.std.specs.Prelude.{ℕ, ◌+◌, ◌*◌, Bool, ◌&&◌, List, [], ◌∷◌, leb, ltb, eqb}
use Rattle.bytecode.specs.Test.{up_to, below, implies, all_of}
use Rattle.model.specs.Limits.{class_kind, method_kind, field_flag, primitive_flag}
use Rattle.model.specs.Word.{is_integer, is_valid, pointer, object_number}
use Rattle.model.specs.Objects.{Objects, kind, size, is_kind, field_count}
use Rattle.model.specs.Method.{header, home, literal, flag, temporary_count, literal_count, argument_count, runs_code}
use Rattle.model.specs.Depth.{is_some}
use Rattle.model.specs.Rules.{extension_fine, method_table, dictionary_methods_fine}

-- every rule of a method but that of its code
unfoldable pub shape_rules : Objects → ℕ → List Bool
shape_rules o m =
    leb 4 (size o (object_number m)) ∷
    is_integer (header o m) ∷
    leb (4 + 2 * literal_count o m) (size o (object_number m)) ∷
    is_kind o class_kind (home o m) ∷
    below (literal_count o m) (λ i. is_valid o.n (literal o m i)) ∷
    implies (eqb (flag o m) field_flag) (ltb (temporary_count o m) (field_count o (home o m))) ∷
    implies (eqb (flag o m) primitive_flag) (extension_fine o m) ∷
    leb (argument_count o m) (temporary_count o m) ∷
    []

unfoldable pub shape_fine : Objects → ℕ → Bool
shape_fine o k = implies (eqb (kind o k) method_kind) (all_of (shape_rules o (pointer k)))

unfoldable pub holder_fine : Objects → ℕ → Bool
holder_fine o k = implies (eqb (kind o k) class_kind) (dictionary_methods_fine o (pointer k))

unfoldable pub code_fine : ℕ → Objects → ℕ → Bool
code_fine e o k = implies (eqb (kind o k) method_kind) (implies (runs_code o (pointer k)) (is_some (method_table e o (pointer k))))

unfoldable pub shapes : Objects → Bool
shapes o = up_to o.n (shape_fine o)

unfoldable pub holders : Objects → Bool
holders o = up_to o.n (holder_fine o)

unfoldable pub codes : ℕ → Objects → Bool
codes e o = up_to o.n (code_fine e o)

-- the last three of a method's shape
unfoldable pub field_rule : Objects → ℕ → Bool
field_rule o m = implies (eqb (flag o m) field_flag) (ltb (temporary_count o m) (field_count o (home o m)))

unfoldable pub primitive_rule : Objects → ℕ → Bool
primitive_rule o m = implies (eqb (flag o m) primitive_flag) (extension_fine o m)

unfoldable pub flag_rules : Objects → ℕ → Bool
flag_rules o m = field_rule o m && (primitive_rule o m && leb (argument_count o m) (temporary_count o m))
