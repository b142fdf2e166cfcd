-- Words of the elaboration of a tree.
pub use Rattle.elaboration.specs.Addressed.{Known, Taken, addressed_in, declare, left_part, left_scope, nothing_taken, number_of, params_taken, with_address, with_known, with_number}
unfoldable pub use Rattle.elaboration.specs.Addressed.{all_taken, plain_name, taken}
pub use Rattle.elaboration.specs.Assignments.{change_place, changed_answer, changed_by, old_value, one_found, record_assigned, scalar_assigned, set_to, stepped}
pub use Rattle.elaboration.specs.Calls.{Argument, argument_from, atom_at, atoms_of, built_in_at, byte_layout, call_named, call_of_built_in, first_type, pointer_result, printing, rest_types, result_by, types_of, with_format}
unfoldable pub use Rattle.elaboration.specs.Calls.{call_built_in, element_layout, lib_name}
pub use Rattle.elaboration.specs.Context.{Code, Context, Declared, Does, Here, Piece, Running, Variable, Walked, With, anew, asked, emit, entered, file_variable, first_context, here, integer_by, integer_temporary, left, literal_object, local_register, new_label, no_code, pointer_by, pointer_temporary, scoped, told, with_labels, with_pieces}
pub use Rattle.elaboration.specs.Conversions.{Empty, Fixed, Found, Inside, Local, Memory, Nowhere, Spot, Unknown, Value, atom_in, atom_of, code_line, convert, convert_to, forget, found_as, holds_all, read_fixed, read_value, size_or_zero, tested_value, unused, valued, valued_as, valued_from, wanted_from}
unfoldable pub use Rattle.elaboration.specs.Conversions.{convert_integer, read_spot, tested, write}
pub use Rattle.elaboration.specs.Declarations.{Outside, Plain, Storage, Typedef, cleared, declared_function, entry, file_function, file_name, file_object, file_value, fill_at, fill_local, fill_memory, fill_register, fill_variable, function_number, function_number_of, is_outside_word, local_name, local_object, name_in, no_initializer, specs_alone, specs_before, start_in, start_of, started, started_variable, storage_of, variable_number_of, with_function, with_new_variable, with_variable, zero_of}
unfoldable pub use Rattle.elaboration.specs.Declarations.{declaration, entries}
pub use Rattle.elaboration.specs.Declarators.{begun_as, complete, completed_by, constant, ended, enum_named, enumerator, is_declared, left_params, maybe_name, member, newly_named, param, with_member, with_type}
unfoldable pub use Rattle.elaboration.specs.Declarators.{enumerators, layers, member_names, members, params, specs, suffix_layer, suffix_layers, tag_type, words_type}
pub use Rattle.elaboration.specs.Elaboration.{elaborated, walked}
pub use Rattle.elaboration.specs.Expressions.{address_answer, call_answer, callee, callee_name, cast_operand, changing, comma_answer, format_argument, is_printf, literal_answer, name_answer, parameters, unevaluated}
unfoldable pub use Rattle.elaboration.specs.Expressions.{arguments, found}
pub use Rattle.elaboration.specs.Externals.{answer_of, begun, body, body_begun, body_ended, calls_defined, define, defined, definition, is_defined, is_main, last_answer, named_definition, params_of, piece_length}
unfoldable pub use Rattle.elaboration.specs.Externals.{external, externals}
pub use Rattle.elaboration.specs.Initializers.{InMemory, InRegister, InStatic, Target, by_expression, by_text, bytes_of, copy_to, elements, fill_record, fill_scalar, fill_text, given_length, is_character, is_same_place, is_scalar_type, member_place, no_start, not_whole, scalar, static_address, static_integer, static_pointer, static_scalar, store_at, struct_parts, takes_braces, text, text_length, trimmed, whole, with_bytes, with_init_layers, with_pointer, without_zeros}
unfoldable pub use Rattle.elaboration.specs.Initializers.{all_surplus, initialize, initialize_parts, parts_of, surplus}
pub use Rattle.elaboration.specs.Locals.{counted, counted_local, declared_as, function_param, is_file, is_pointer, is_prototype, is_same_again, is_twice, is_twice_in, local_in, memory_param, next_is_memory, prototype_param, register_param, with_local, with_memory, with_named, with_param, with_register}
pub use Rattle.elaboration.specs.Operations.{Branches, Calculates, Compares, Shifts, Working, beside_integer, between_pointers, change, changed_to, combine, combined, convert_both, fixed_sum_of, literal_size, member_address, moved_by, moved_times, offset_among, on_integers, pointer_beside, static_size, variable_size, work}
unfoldable pub use Rattle.elaboration.specs.Operations.{before_integer, fixed_sum, move_pointer, offset_of, operator_of, working}
pub use Rattle.elaboration.specs.Reallocates.{calls_realloc, closed, is_realloc, opened}
unfoldable pub use Rattle.elaboration.specs.Reallocates.{any_reallocates, reallocates}
pub use Rattle.elaboration.specs.Resolving.{Numbers, atom_by, atoms_by, body_of, core_of, definition_of, function_by, function_of, literal_static, numbers_of, point_in, pointer_register, register_by, start_by, static_by, temporary, variable_static}
unfoldable pub use Rattle.elaboration.specs.Resolving.{numbered}
pub use Rattle.elaboration.specs.Rules.{ahead, ahead_of, and_ended, and_ends, and_then, applied, apply, at_address, before_number, between, built_in_found, cast_fixed, cast_to, choice_ahead, choice_found, choice_spot, choice_type, choose, choose_first, choose_last, chosen, chosen_by, compare_again, constant_found, dotted, indexed, is_inner, is_pointer_ahead, is_pointer_operand, left_operand, literal_found, member_of, name_found, negated, object_found, or_else, or_ended, or_ends, pointed, set_again, target_of, tells_equal, type_ahead, typed_value, with_literal, with_static, with_value}
pub use Rattle.elaboration.specs.Statements.{Around, apart, around_body, behind, below, case_of, cased, cases_of, closed_atom, condition, default_or, defaulted, dispatch, does, evaluated, for_start, has_case, in_delay, in_loop, in_switch, leave_to, leaves, leaves_if_zero, looped, maybe_evaluated, maybe_leaves, no_cases, return_from, return_of, return_value, returned, switch_operand, switch_operand_of, switched, with_case}
unfoldable pub use Rattle.elaboration.specs.Statements.{items, statement}
