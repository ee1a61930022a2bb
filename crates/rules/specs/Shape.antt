-- Rule 6 in the parts in which it is tested: F and form of a class together, the kinds of the objects 1 to 4 together, a class with a fixed number.
use Rattle.std.specs.Prelude.{ℕ, ◌/◌, Bool, false, ◌&&◌, not, List, [], ◌∷◌, leb, eqb}
use Rattle.bytecode.specs.Test.{when◌then◌else◌, implies, every, all_of}
use Rattle.bytecode.specs.Constant.{nil_word}
use Rattle.model.specs.Limits.{fields_kind, bytes_kind, class_kind, list_kind, method_kind, fixed_form, indexed_form, bytes_form, other_form}
use Rattle.model.specs.Limits.{last_form, most_fields, nil_object, false_object, true_object, integer_class_object, selectors_object, special_selectors}
use Rattle.model.specs.Word.{is_natural, pointer}
use Rattle.model.specs.Objects.{Objects, kind, size, body_of, is_kind, is_nil_or, superclass_word, dictionary_word, fields_word, form_word, field_count, form}
use Rattle.model.specs.Rules.{entry_fine, dictionary_fine}

-- whether an object of this kind and size fits a class of this form and F
unfoldable pub fits_form : ℕ → ℕ → ℕ → ℕ → Bool
fits_form form fields kind size =
    when eqb form fixed_form then eqb kind fields_kind && eqb size fields else
    when eqb form indexed_form then eqb kind fields_kind && leb fields size else
    when eqb form bytes_form then eqb kind bytes_kind else
    when eqb form other_form then leb class_kind kind && leb kind method_kind else
    false

-- F and form of a class, given by their words
unfoldable pub numbers_fine : ℕ → ℕ → ℕ → Bool
numbers_fine e fields form =
    is_natural most_fields fields && (is_natural (last_form e) form && implies (leb bytes_form (form / 2)) (eqb (fields / 2) 0))

-- F is not below the superclass's
unfoldable pub rises_fine : Objects → ℕ → Bool
rises_fine o c = implies (not (eqb (superclass_word o c) nil_word)) (leb (field_count o (superclass_word o c)) (field_count o c))

unfoldable pub shape_rules : ℕ → Objects → ℕ → List Bool
shape_rules e o c =
    is_nil_or o class_kind (superclass_word o c) ∷
    is_kind o list_kind (dictionary_word o c) ∷
    numbers_fine e (fields_word o c) (form_word o c) ∷
    rises_fine o c ∷
    dictionary_fine o (dictionary_word o c) ∷
    []

unfoldable pub shape_fine : ℕ → Objects → ℕ → Bool
shape_fine e o k = entry_fine e o k && implies (eqb (kind o k) class_kind) (all_of (shape_rules e o (pointer k)))

-- the kinds of the objects 1 to 4, and the special selectors
abbrev pub kinds_fine : Objects → Bool
kinds_fine o =
    eqb (kind o nil_object) fields_kind
    && (eqb (kind o false_object) fields_kind && (eqb (kind o true_object) fields_kind && eqb (kind o integer_class_object) class_kind))

unfoldable pub selectors_fine : Objects → Bool
selectors_fine o =
    eqb (kind o selectors_object) list_kind
    && (eqb (size o selectors_object) special_selectors && every (is_nil_or o bytes_kind) (body_of o selectors_object))

-- object k is a class of this form and F
unfoldable pub class_is : Objects → ℕ → ℕ → ℕ → Bool
class_is o k of fields = eqb (kind o k) class_kind && (eqb (form o (pointer k)) of && eqb (field_count o (pointer k)) fields)
