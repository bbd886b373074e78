-- The definitions that most proofs use, re-exported from one module.
pub use Rattle.openapi_tables.specs.Tree.{Entry, Seen, Shape, a_flag, a_list, a_null, a_text, a_whole, an_object}
pub use Rattle.openapi_tables.specs.Tree.{items_list, members_list, members_of, of_items, of_members, of_tree, on_entry}
pub use Rattle.openapi_tables.specs.Lists.{each, every, flat, has, is_empty, join, only, same_text}
pub use Rattle.openapi_tables.specs.Kind.{Case, Class, Code, Kind, Mode, Row, TableName, Tables, a_schema}
pub use Rattle.openapi_tables.specs.Kind.{a_schema_kind, any_flag, any_text, any_tree, by, callback_names}
pub use Rattle.openapi_tables.specs.Kind.{callback_object, class, code, code_of, constant, either, encoding, extensions}
pub use Rattle.openapi_tables.specs.Kind.{flag_or_schema, flagged, format, formatted, header, in_class, is_code}
pub use Rattle.openapi_tables.specs.Kind.{list_of, listed, map_of, media_type, null_or, nullable, number, one_of}
pub use Rattle.openapi_tables.specs.Kind.{operation, optional, parameter_data, path_item, range, ref_to, required, row}
pub use Rattle.openapi_tables.specs.Kind.{schema_data, schema_or_content, signed, sizes, status_code, status_names}
pub use Rattle.openapi_tables.specs.Kind.{styled, tagged, takes, text_of, unlimited, within, writable_code}
pub use Rattle.openapi_tables.specs.Members.{Choice, Sort, all_of_sort, any_of_sort, any_sort, array_sort, boolean_sort}
pub use Rattle.openapi_tables.specs.Members.{case_rows, choice, entries_pass, first_tree, further, held, integer_sort}
pub use Rattle.openapi_tables.specs.Members.{is_case, is_null, is_null_or_flag, is_null_or_signed, is_null_or_text}
pub use Rattle.openapi_tables.specs.Members.{is_null_or_whole, is_present, made_optional, meets, named_sort, not_sort}
pub use Rattle.openapi_tables.specs.Members.{number_sort, object_sort, one_of_sort, own, plain, possible_sort, row_name}
pub use Rattle.openapi_tables.specs.Members.{sort, sort_of, string_sort, tag_choice, trees}
unfoldable pub use Rattle.openapi_tables.specs.Members.{allowed, checked_rows, kind_names, rows_of, sort_rows}
pub use Rattle.openapi_tables.specs.Conforms.{chosen_holds, conforms, constant_holds, either_holds, is_reference}
pub use Rattle.openapi_tables.specs.Conforms.{may_miss, name_holds, object_holds, reference_or, root_conforms}
pub use Rattle.openapi_tables.specs.Conforms.{row_holds, skips_null, text_in}
pub use Rattle.openapi_tables.specs.Form.{Form, Forms, Key, Named, Pair, absent, an_item, coded, deciding, f_named}
pub use Rattle.openapi_tables.specs.Form.{fields, forms_list, forms_of, known, leaf, more, name, named, named_list}
pub use Rattle.openapi_tables.specs.Form.{named_of, no_forms, no_named, of_code, of_forms, of_named, other, reference}
pub use Rattle.openapi_tables.specs.Form.{sequence, under, unset}
pub use Rattle.openapi_tables.specs.Read.{chosen_form, class_form, code_form, code_key, default_of, form, gather}
pub use Rattle.openapi_tables.specs.Read.{key_in, map_form, name_slot, pairs_as, put, put_all, reference_or_item}
pub use Rattle.openapi_tables.specs.Read.{root_form, same_code, same_key, slot, slot_of_own, tree_of_root}
pub use Rattle.openapi_tables.specs.Print.{Prints, again, clean, face_print, is_silent, members_in, one, pair_prints}
pub use Rattle.openapi_tables.specs.Print.{print, row_print, rows_print, text_of_key}
pub use Rattle.openapi_tables.specs.Sound.{apart, has_members, may_be_null, mode_fits, names_fit, never_misses}
pub use Rattle.openapi_tables.specs.Sound.{refuses_null, row_sound, rows_apart, schema_rows, sorts, sound, tables_sound}
pub use Rattle.openapi_tables.specs.Sound.{under_ref, untaken}
unfoldable pub use Rattle.openapi_tables.specs.Sound.{table_names}
pub use Rattle.openapi_tables.specs.Stays.{Checks, choice_stays, face_stays, is_any, row_stays, rows_stay, stays}
pub use Rattle.openapi_tables.specs.Proper.{Held, choice_proper, face_proper, is_absent, is_name, is_written}
pub use Rattle.openapi_tables.specs.Proper.{may_be_absent, of_kind, proper, row_proper, rows_proper}
pub use Rattle.openapi_tables.specs.Slots.{IsWritten, Slot, before, pairs_of, slot_where, slots, slots_apart, through}
pub use Rattle.openapi_tables.specs.Slots.{untied}
unfoldable pub use Rattle.openapi_tables.specs.Slots.{all_taken, slots_lost, slots_print, taken}
pub use Rattle.openapi_tables.specs.ByRow.{AreRows, Broken, RowGives, StepsTo, asking, is_class, is_named, row_where}
pub use Rattle.openapi_tables.specs.ByRow.{rows_asked, rows_weight, weight}
unfoldable pub use Rattle.openapi_tables.specs.ByRow.{row_conforms, row_form, row_weight}
pub use Rattle.openapi_tables.specs.Tables.{callback_ref, content, parameter, schema_ref, security_scheme}
unfoldable pub use Rattle.openapi_tables.specs.Tables.{any_rows, array_rows, boolean_rows, final_tables, object_rows}
unfoldable pub use Rattle.openapi_tables.specs.Tables.{string_rows, tables_with}
pub use Rattle.openapi_tables.specs.Faults.{Asking, Asks, Cause, asked, asks_items, asks_members, asks_own, asks_row}
pub use Rattle.openapi_tables.specs.Faults.{asks_rows, asks_tag, below, causes, here, is_met, misses, root_asks}
pub use Rattle.openapi_tables.specs.Faults.{row_misses, tag_table, unless, unless_reference, words, wrong_kind}
pub use Rattle.openapi_tables.specs.Unwritable.{each_below, face_lost, lost_pairs, row_lost, rows_lost, unwritable}
pub use Rattle.openapi_tables.specs.Laws.{Among}
