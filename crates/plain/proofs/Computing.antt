-- Opens every definition of the three crates, for proofs by computation: such a proof says `unfolding computing`.
use Rattle.bytecode.specs.Test.{when◌then◌else◌}
use Rattle.bytecode.specs.Code.{byte_at, place_of, short_of, constant_of, extended_of, jump_of, send_of, instruction_of, length_of, next_at, decode_at}
use Rattle.bytecode.specs.Effect.{special_count, need, leaves, usable, successors}
use Rattle.model.specs.Limits.{least_objects}
use Rattle.model.specs.Word.{word_of, value_of, is_pointer, is_valid}
use Rattle.model.specs.Objects.{body_words, body_of, is_kind, class_of}
use Rattle.model.specs.Method.{code_words, code_size, frame_words, argument_count}
use Rattle.model.specs.Depth.{walk, walk_from, successorsAt, depthAfterAt, rulesAt, fineAt, depthTable}
use Rattle.model.specs.Lookup.{find_from, find_in, lookup_within, lookup, dictionaries_within, dictionaries_read, pairs_from, pairs_in, pairs_within, pairs_read, in_chain_within, in_chain, ends_within}
use Rattle.model.specs.Rules.{start_fine_of, padding_fine, layout_rules, rule4, words_fine, rule5, chain_fine, rule14, fits, entry_fine, pair_fine, dictionary_fine, class_rules, message_object_rules, known_object_rules, object_fine, rule6, takes_count, send_fine, variable_fine, place_fine, allowed, method_table, method_rules, dictionary_methods_fine, failure_methods_fine, rule7, rule8}
use Rattle.model.specs.Image.{words_of, bytes_of, header_of, objects_in, image_header, image_objects, image_of, length_fine, buffers_fine, objects_verdict, load_verdict}
use Rattle.model.specs.Arithmetic.{floor_quotient, floor_remainder, shifted, number, divided, exact_quotient, on_integers, on_bits, arithmetic}
use Rattle.model.specs.Primitive.{store_word, object_byte, store_byte, is_indexable, is_index, at, at_put, size_answer, appended, has_room, array_made, message_made, has_message_room, make, new, new_with, perform, primitive_count, primitive}
use Rattle.plain.specs.State.{new_frame, fits_stack}
use Rattle.plain.specs.Step.{operand, field_of, literal_of, pushed, read, stored_field, stored, returned, entering, activate, framed, failed, sends, arithmetic_sends, special_sends, jumps, execute, step_frame, step}
use Rattle.plain.specs.Calls.{loaded, begin, steps, largest_end, standing_end, reach_of, dictionaries_of, dropped, call}
use Rattle.plain.specs.Cache.{cache_entry_of, filled, cached_right, cache_fine}
use Rattle.plain.specs.Flat.{frame_at, frames_from, plain_of}
use Rattle.plain.specs.Check.{image_rules, note_of, frame_rules, frames_fine, plain_rules, plain_fine, state_fine, check}
use Rattle.plain.specs.FlatCalls.{laid, stack_after, cache_after, flat_begin, flat_run, flat_drop, flat_forget, flat_call, zeroed, flat_load, saved_image, save_verdict, flat_save}
use Rattle.plain.specs.Program.{step80}

unfoldable pub computing : Unit {0}
unfolding when◌then◌else◌ byte_at place_of short_of constant_of extended_of jump_of send_of instruction_of length_of next_at decode_at special_count need leaves usable successors least_objects word_of value_of is_pointer
    is_valid body_words body_of is_kind class_of code_words code_size frame_words argument_count walk walk_from successorsAt depthAfterAt rulesAt fineAt depthTable find_from find_in lookup_within lookup
    dictionaries_within dictionaries_read pairs_from pairs_in pairs_within pairs_read in_chain_within in_chain ends_within start_fine_of padding_fine layout_rules rule4 words_fine rule5 chain_fine rule14 fits entry_fine pair_fine dictionary_fine class_rules message_object_rules known_object_rules object_fine rule6 takes_count
    send_fine variable_fine place_fine allowed method_table method_rules dictionary_methods_fine failure_methods_fine rule7 rule8 words_of bytes_of header_of objects_in image_header image_objects image_of length_fine buffers_fine
    objects_verdict load_verdict floor_quotient floor_remainder shifted number divided exact_quotient on_integers on_bits arithmetic store_word object_byte store_byte is_indexable is_index at at_put size_answer
    appended has_room array_made message_made has_message_room make new new_with perform primitive_count primitive new_frame fits_stack operand field_of literal_of pushed read stored_field stored returned entering activate framed failed sends
    arithmetic_sends special_sends jumps execute step_frame step loaded begin steps largest_end standing_end reach_of dictionaries_of dropped call cache_entry_of filled cached_right cache_fine frame_at frames_from plain_of image_rules note_of frame_rules
    frames_fine plain_rules plain_fine state_fine check laid stack_after cache_after flat_begin flat_run flat_drop flat_forget flat_call zeroed flat_load saved_image save_verdict
    flat_save step80
computing = tt
