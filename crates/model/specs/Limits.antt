-- The numbers that 01 fixes, named once. Those that an edition may change take it as their argument. What an edition has, all later ones have.
use Rattle.std.specs.Prelude.{ℕ, ◌*◌, Bool, ◌&&◌, leb}
use Rattle.bytecode.specs.Test.{when◌then◌else◌}

abbrev pub last_edition : ℕ
last_edition = 2

abbrev pub is_edition : ℕ → Bool
is_edition e = leb 1 e && leb e last_edition

-- 02, M-104: from edition 2 on a send that fails is sent once more, as a message
abbrev pub has_messages : ℕ → Bool
has_messages e = leb 2 e

-- 01, "Image": objects and body words of an image. Every edition has the objects with a fixed number.
unfoldable pub least_objects : ℕ → ℕ
least_objects e = when has_messages e then 8 else 5

abbrev pub most_objects : ℕ
most_objects = 2047

abbrev pub most_body_words : ℕ
most_body_words = 24000

-- words of the header, and of an entry of the table of contents
abbrev pub header_words : ℕ
header_words = 5

abbrev pub entry_words : ℕ
entry_words = 4

-- kinds of objects
abbrev pub fields_kind : ℕ
fields_kind = 0

abbrev pub bytes_kind : ℕ
bytes_kind = 1

abbrev pub class_kind : ℕ
class_kind = 2

abbrev pub list_kind : ℕ
list_kind = 3

abbrev pub method_kind : ℕ
method_kind = 4

abbrev pub last_kind : ℕ → ℕ
last_kind e = method_kind

-- forms of a class's objects: F fields; at least F; bytes; classes, lists, methods and integers
abbrev pub fixed_form : ℕ
fixed_form = 0

abbrev pub indexed_form : ℕ
indexed_form = 1

abbrev pub bytes_form : ℕ
bytes_form = 2

abbrev pub other_form : ℕ
other_form = 3

abbrev pub last_form : ℕ → ℕ
last_form e = other_form

-- words of a class body, and the most fields that it can ask for
abbrev pub class_words : ℕ
class_words = 4

abbrev pub most_fields : ℕ
most_fields = 255

-- 02, M-101: the classes of the longest superclass chain
abbrev pub longest_chain : ℕ
longest_chain = 24

-- the objects with a fixed number
abbrev pub nil_object : ℕ
nil_object = 1

abbrev pub false_object : ℕ
false_object = 2

abbrev pub true_object : ℕ
true_object = 3

abbrev pub integer_class_object : ℕ
integer_class_object = 4

abbrev pub selectors_object : ℕ
selectors_object = 5

abbrev pub special_selectors : ℕ
special_selectors = 32

-- and of those, from edition 2 on: the selector doesNotUnderstand:, the class of messages, the class of arrays
abbrev pub failure_selector_object : ℕ
failure_selector_object = 6

abbrev pub message_class_object : ℕ
message_class_object = 7

abbrev pub array_class_object : ℕ
array_class_object = 8

-- a message has its selector and the array of its arguments
abbrev pub message_fields : ℕ
message_fields = 2

-- 01, "Image", flags of a method header: up to the first they are the argument count
abbrev pub last_count_flag : ℕ
last_count_flag = 4

abbrev pub receiver_flag : ℕ
receiver_flag = 5

abbrev pub field_flag : ℕ
field_flag = 6

abbrev pub primitive_flag : ℕ
primitive_flag = 7

-- 01, "Plain machine": the words of a frame before its temporaries, and from there on
abbrev pub frame_header_words : ℕ
frame_header_words = 6

abbrev pub small_frame_words : ℕ
small_frame_words = 12

abbrev pub large_frame_words : ℕ
large_frame_words = 32

-- a frame ends at this stack position or before it
abbrev pub most_stack_words : ℕ
most_stack_words = 65536

-- 01, "Words"
abbrev pub largest_integer : ℕ
largest_integer = 16383

-- the most elements of an object that primitives 60 to 62 take
abbrev pub most_elements : ℕ
most_elements = 16383

-- 01, "Calls": the cache of lookups. An entry is a selector, a class, a method and a number of dictionaries (02, M-105).
abbrev pub cache_entries : ℕ
cache_entries = 64

abbrev pub cache_entry_words : ℕ
cache_entry_words = 4

abbrev pub cache_words : ℕ
cache_words = cache_entries * cache_entry_words
