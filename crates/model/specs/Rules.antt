-- The rules of an image, by the number that a breach of them gets (01, "Image", "Code" and "From the input"), in the order in which they are
-- asked. Each is a test of the objects; `e` is the edition.
use Rattle.std.specs.Prelude.{ℕ, ◌+◌, ◌-◌, ◌*◌, ◌%◌, ◌≡◌, Bool, true, false, ◌&&◌, ◌||◌, not, List, [], ◌∷◌, T, leb, ltb, eqb, length}
use Rattle.std.proofs.Math.Option.{Option}
use Rattle.bytecode.specs.Test.{when◌then◌else◌, up_to, below, every, implies, all_of}
use Rattle.bytecode.specs.Constant.{nil_word}
use Rattle.bytecode.specs.Effect.{special_count}
use Rattle.bytecode.specs.declared.Place.{Place}
use Rattle.bytecode.specs.declared.Place.TheVariants.{Field, Temporary, Literal, LiteralVariable}
use Rattle.bytecode.specs.declared.Instruction.{Instruction}
use Rattle.bytecode.specs.declared.Instruction.TheVariants.{Push, Store, PopStore, PushSelf, PushConstant, ReturnSelf, ReturnConstant, ReturnTop, Pop, Duplicate, Jump, JumpOn, Send, SuperSend, SpecialSend, Unused}
use Rattle.model.specs.Limits.{is_edition, entry_words, least_objects, most_objects, most_body_words, fields_kind, bytes_kind, class_kind, list_kind, method_kind, last_kind, fixed_form, indexed_form}
use Rattle.model.specs.Limits.{bytes_form, other_form, last_form, class_words, most_fields, longest_chain, nil_object, false_object, true_object, integer_class_object, selectors_object, special_selectors, field_flag, primitive_flag}
use Rattle.model.specs.Limits.{has_messages, failure_selector_object, message_class_object, array_class_object, message_fields}
use Rattle.model.specs.Word.{is_integer, is_natural, is_valid, pointer, object_number, integer_class, failure_selector, message_class, array_class}
use Rattle.model.specs.Objects.{Objects, class_word, kind, start, size, sized_in_bytes, body_words, body_end, body_word, body_of, is_kind}
use Rattle.model.specs.Objects.{is_nil_or, superclass_word, dictionary_word, fields_word, form_word, field_count, form, pair_count, pair_selector, pair_method}
use Rattle.model.specs.Method.{header, home, literal, flag, temporary_count, literal_count, code_words, code_size, frame_words, extension, argument_count, runs_code}
use Rattle.model.specs.Lookup.{ends_within}
use Rattle.model.specs.Depth.{depthTable, is_some, Sound}

-- 2: edition, N and B in range
abbrev pub sizes_fine : ℕ → ℕ → ℕ → Bool
sizes_fine e n b = leb (least_objects e) n && (leb n most_objects && leb b most_body_words)

abbrev pub header_fine : ℕ → ℕ → ℕ → Bool
header_fine e n b = is_edition e && sizes_fine e n b

-- 4: layout. A body starts where the one before it ends, the first at 0;
unfoldable pub start_fine_of : Objects → ℕ → Bool
start_fine_of o k = when eqb k 1 then eqb (start o k) 0 else eqb (start o k) (body_end o (k - 1))

-- an odd number of bytes leaves half a word, which is zero;
unfoldable pub padding_fine : Objects → ℕ → Bool
padding_fine o k =
    implies (sized_in_bytes (kind o k) && eqb (size o k % 2) 1) (eqb (body_word o k (body_words o k - 1) % 256) 0)

unfoldable pub layout_rules : ℕ → Objects → ℕ → List Bool
layout_rules e o k =
    leb (kind o k) (last_kind e) ∷
    start_fine_of o k ∷
    implies (eqb (kind o k) class_kind) (eqb (size o k) class_words) ∷
    padding_fine o k ∷
    []

-- and the last body ends at B.
unfoldable pub rule4 : ℕ → Objects → Bool
rule4 e o = up_to o.n (λ k. all_of (layout_rules e o k)) && eqb (body_end o o.n) o.b

-- 5: each entry's class, and each word of a body of kind 0, 2 or 3, is valid.
unfoldable pub words_fine : Objects → ℕ → Bool
words_fine o k =
    is_valid o.n (class_word o k) && implies (not (sized_in_bytes (kind o k))) (every (is_valid o.n) (body_of o k))

unfoldable pub rule5 : ℕ → Objects → Bool
rule5 e o = up_to o.n (words_fine o)

-- 14: the chain of each class has at most 24 classes (02, M-101).
unfoldable pub chain_fine : Objects → ℕ → Bool
chain_fine o k = implies (eqb (kind o k) class_kind) (ends_within longest_chain o (pointer k))

unfoldable pub rule14 : Objects → Bool
rule14 o = up_to o.n (chain_fine o)

-- 6: entries' classes, class bodies, dictionaries, the objects with a fixed number.
-- An object fits the form of its class.
unfoldable pub fits : ℕ → Objects → ℕ → Bool
fits e o k =
    when eqb (form o (class_word o k)) fixed_form then eqb (kind o k) fields_kind && eqb (size o k) (field_count o (class_word o k)) else
    when eqb (form o (class_word o k)) indexed_form then eqb (kind o k) fields_kind && leb (field_count o (class_word o k)) (size o k) else
    when eqb (form o (class_word o k)) bytes_form then eqb (kind o k) bytes_kind else
    when eqb (form o (class_word o k)) other_form then leb class_kind (kind o k) && leb (kind o k) method_kind else
    false

unfoldable pub entry_fine : ℕ → Objects → ℕ → Bool
entry_fine e o k = is_kind o class_kind (class_word o k) && fits e o k

-- A dictionary is pairs of a kind 1 selector and a method, selectors strictly rising.
unfoldable pub pair_fine : Objects → ℕ → ℕ → Bool
pair_fine o d i =
    is_kind o bytes_kind (pair_selector o d i)
    && (is_kind o method_kind (pair_method o d i) && implies (ltb 0 i) (ltb (pair_selector o d (i - 1)) (pair_selector o d i)))

unfoldable pub dictionary_fine : Objects → ℕ → Bool
dictionary_fine o d = eqb (size o (object_number d) % 2) 0 && below (pair_count o d) (pair_fine o d)

-- The superclass is nil or a class, the dictionary a list, F from 0 to 255, the form a number; bytes and the last form have no fields;
-- F is not below the superclass's; the dictionary is right.
unfoldable pub class_rules : ℕ → Objects → ℕ → List Bool
class_rules e o c =
    is_nil_or o class_kind (superclass_word o c) ∷
    is_kind o list_kind (dictionary_word o c) ∷
    is_natural most_fields (fields_word o c) ∷
    is_natural (last_form e) (form_word o c) ∷
    implies (leb bytes_form (form o c)) (eqb (field_count o c) 0) ∷
    implies (not (eqb (superclass_word o c) nil_word)) (leb (field_count o (superclass_word o c)) (field_count o c)) ∷
    dictionary_fine o (dictionary_word o c) ∷
    []

-- 02, M-104: 6 is a selector, 7 a class of form 0 with two fields, 8 one of form 1 with none.
unfoldable pub message_object_rules : Objects → List Bool
message_object_rules o =
    eqb (kind o failure_selector_object) bytes_kind ∷
    eqb (kind o message_class_object) class_kind ∷
    eqb (form o message_class) fixed_form ∷
    eqb (field_count o message_class) message_fields ∷
    eqb (kind o array_class_object) class_kind ∷
    eqb (form o array_class) indexed_form ∷
    eqb (field_count o array_class) 0 ∷
    []

-- nil, false and true have fields, 4 is a class of form 3, 5 a list of 32 words, each nil or a selector.
unfoldable pub known_object_rules : ℕ → Objects → List Bool
known_object_rules e o =
    eqb (kind o nil_object) fields_kind ∷
    eqb (kind o false_object) fields_kind ∷
    eqb (kind o true_object) fields_kind ∷
    eqb (kind o integer_class_object) class_kind ∷
    eqb (form o integer_class) other_form ∷
    eqb (kind o selectors_object) list_kind ∷
    eqb (size o selectors_object) special_selectors ∷
    every (is_nil_or o bytes_kind) (body_of o selectors_object) ∷
    implies (has_messages e) (all_of (message_object_rules o)) ∷
    []

unfoldable pub object_fine : ℕ → Objects → ℕ → Bool
object_fine e o k = entry_fine e o k && implies (eqb (kind o k) class_kind) (all_of (class_rules e o (pointer k)))

unfoldable pub rule6 : ℕ → Objects → Bool
rule6 e o = all_of (known_object_rules e o) && up_to o.n (object_fine e o)

-- 7: methods. Every method under a selector, in the dictionary of whichever class, takes this count.
unfoldable pub takes_count : Objects → ℕ → ℕ → Bool
takes_count o s count =
    up_to o.n (λ k. implies (eqb (kind o k) class_kind)
    (below (pair_count o (dictionary_word o (pointer k))) (λ i.
    implies (eqb (pair_selector o (dictionary_word o (pointer k)) i) s)
    (eqb (argument_count o (pair_method o (dictionary_word o (pointer k)) i)) count))))

-- A send's selector is nil or of kind 1, and methods under it take its count.
unfoldable pub send_fine : Objects → ℕ → ℕ → Bool
send_fine o s count = is_nil_or o bytes_kind s && takes_count o s count

-- A literal variable (01's term) is field 1, from 0, of a kind 0 literal of at least 2 fields.
unfoldable pub variable_fine : Objects → ℕ → Bool
variable_fine o w = is_kind o fields_kind w && leb 2 (size o (object_number w))

-- Indices are below F, T or L.
unfoldable pub place_fine : Objects → ℕ → Place → Bool
place_fine o m (Field i) = ltb i (field_count o (home o m))
place_fine o m (Temporary i) = ltb i (temporary_count o m)
place_fine o m (Literal i) = ltb i (literal_count o m)
place_fine o m (LiteralVariable i) = ltb i (literal_count o m) && variable_fine o (literal o m i)

-- No store goes to a literal.
abbrev pub is_writable : Place → Bool
is_writable (Field i) = true
is_writable (Temporary i) = true
is_writable (Literal i) = false
is_writable (LiteralVariable i) = true

abbrev pub special_selector : Objects → ℕ → ℕ
special_selector o k = body_word o selectors_object k

-- Bytecodes 198 (==) and 199 (class), which send nothing
abbrev pub is_same : ℕ → Bool
is_same k = eqb k 22

abbrev pub is_class : ℕ → Bool
is_class k = eqb k 23

-- The rules of a reached instruction that do not speak of depth
unfoldable pub allowed : ℕ → Objects → ℕ → Instruction → Bool
allowed e o m (Push p) = place_fine o m p
allowed e o m (Store p) = is_writable p && place_fine o m p
allowed e o m (PopStore p) = is_writable p && place_fine o m p
allowed e o m PushSelf = true
allowed e o m (PushConstant w) = true
allowed e o m ReturnSelf = true
allowed e o m (ReturnConstant w) = true
allowed e o m ReturnTop = true
allowed e o m Pop = true
allowed e o m Duplicate = true
allowed e o m (Jump a b) = true
allowed e o m (JumpOn x a) = true
allowed e o m (Send l n) = ltb l (literal_count o m) && send_fine o (literal o m l) n
allowed e o m (SuperSend l n) = ltb l (literal_count o m) && send_fine o (literal o m l) n
allowed e o m (SpecialSend k) = is_same k || (is_class k || send_fine o (special_selector o k) (special_count k))
allowed e o m Unused = false

-- A method is sound where its code has a depth table: the statement, and the table itself.
abbrev pub SoundMethod : ℕ → Objects → ℕ → Type 0
SoundMethod e o m = Sound (code_words o m) (code_size o m) (temporary_count o m) (frame_words o m) (allowed e o m)

unfoldable pub method_table : ℕ → Objects → ℕ → Option (List ℕ)
method_table e o m = depthTable (code_words o m) (code_size o m) (temporary_count o m) (frame_words o m) (allowed e o m)

-- The extension of flag 7: there are 2 literals, and it is an integer word with its two high bits zero.
abbrev pub extension_fine : Objects → ℕ → Bool
extension_fine o m = leb 2 (literal_count o m) && (is_integer (extension o m) && ltb (extension o m) 16384)

-- The body has header, home and literals; the tag is one; home is a class; literals are valid; the field of flag 6 is below F of home;
-- flag 7 has its extension; arguments are temporaries; code that can run is sound.
unfoldable pub method_rules : ℕ → Objects → ℕ → List Bool
method_rules e o m =
    leb 4 (size o (object_number m)) ∷
    is_integer (header o m) ∷
    leb (4 + 2 * literal_count o m) (size o (object_number m)) ∷
    is_kind o class_kind (home o m) ∷
    below (literal_count o m) (λ i. is_valid o.n (literal o m i)) ∷
    implies (eqb (flag o m) field_flag) (ltb (temporary_count o m) (field_count o (home o m))) ∷
    implies (eqb (flag o m) primitive_flag) (extension_fine o m) ∷
    leb (argument_count o m) (temporary_count o m) ∷
    implies (runs_code o m) (is_some (method_table e o m)) ∷
    []

-- A dictionary's methods name as home the class that holds it, and methods under one selector take equally many arguments.
unfoldable pub dictionary_methods_fine : Objects → ℕ → Bool
dictionary_methods_fine o c =
    below (pair_count o (dictionary_word o c)) (λ i.
    eqb (home o (pair_method o (dictionary_word o c) i)) c
    && takes_count o (pair_selector o (dictionary_word o c) i) (argument_count o (pair_method o (dictionary_word o c) i)))

-- 02, M-104: methods under object 6 take the message.
unfoldable pub failure_methods_fine : ℕ → Objects → Bool
failure_methods_fine e o = implies (has_messages e) (takes_count o failure_selector 1)

unfoldable pub rule7 : ℕ → Objects → Bool
rule7 e o =
    up_to o.n (λ k.
    implies (eqb (kind o k) method_kind) (all_of (method_rules e o (pointer k)))
    && implies (eqb (kind o k) class_kind) (dictionary_methods_fine o (pointer k)))
    && failure_methods_fine e o

-- 8: receiver and arguments are valid, the selector is of kind 1. (The start words have no arguments.)
unfoldable pub rule8 : Objects → ℕ → ℕ → List ℕ → Bool
rule8 o receiver selector arguments =
    is_valid o.n receiver && (is_kind o bytes_kind selector && every (is_valid o.n) arguments)

-- Objects that meet the rules 2, 4 to 7 and 14, in lists of their own lengths
pub record Right (e : ℕ) (o : Objects) : Type 0 where
  pub edition : T (is_edition e)
  pub contents : length o.contents ≡ entry_words * o.n
  pub bodies : length o.bodies ≡ o.b
  pub sizes : T (sizes_fine e o.n o.b)
  pub rule_4 : T (rule4 e o)
  pub rule_5 : T (rule5 e o)
  pub rule_14 : T (rule14 o)
  pub rule_6 : T (rule6 e o)
  pub rule_7 : T (rule7 e o)

-- The same in some edition, for what is the same in all of them
abbrev pub IsRight : Objects → Type 0
IsRight o = (e : ℕ) × Right e o
