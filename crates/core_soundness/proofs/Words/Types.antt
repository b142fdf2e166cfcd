-- Words of types, names and the rules of types.
pub use Rattle.c_decls.specs.BuiltIns.{built_ins, constant_of, first_scopes, name_of, numbered_from}
pub use Rattle.c_decls.specs.Callees.{Callee, NoFunction, Prints, Takes, behind_digits, behind_flags, behind_length, built_in_called, built_in_callee, built_in_named, built_in_value, call, called, callee_at, digits_at, function_callee, is_built_in, is_format, is_format_of, is_item, named, no_function, prints, suit, suits_type}
pub use Rattle.c_decls.specs.Expressions.{Found, answered, callee, calling, cast_operand, changing, char_constant, constant_from, first_literal, in_new_scope, int_constant, joined, literal, one, out_of_scope, string, two, unused, wanted}
unfoldable pub use Rattle.c_decls.specs.Expressions.{layers, line_of, param_type, param_types, suffix_layer, suffix_layers, typed, typename, values}
pub use Rattle.c_decls.specs.IntegerTypes.{common_type, promoted}
pub use Rattle.c_decls.specs.Named.{PlainNamed, Tag}
pub use Rattle.c_decls.specs.PlaceRules.{all_convert, arrow, arrow_of, assigned, behind_comma, cast, cast_types, changed, changed_types, choice, choice_types, chosen_pointer, converts, dot, element, element_types, held_place, is_written, length_of, member_among, member_answer, member_of, moves, null_pointer, record_assigned, scalar_assigned, size, size_answer, stepped, unconverted, unconverted_types}
pub use Rattle.c_decls.specs.Refusals.{Checked, Refusal, refused, then, unless}
pub use Rattle.c_decls.specs.ScopeList.{ScopeList, Table, after_declaration, entered, first_or, found, found_from, innermost, named_in, tag_name, tail, with_name, with_name_in}
pub use Rattle.c_decls.specs.TypeNames.{ArrayOf, Context, FunctionOf, Layer, adjusted, array_length, array_of, declared_param, enum_named, has, is_union, is_void_word, layered, layered_before, length_from, record_type, same_sort, special_type, specs_type, tag_named, type_named, with_layers, with_new_tag, with_param, with_param_layers, word_type}
pub use Rattle.c_decls.specs.TypeRules.{address, barred, beside_pointer, binary, difference_types, equal_types, immovable, integer_types, logical, moving, order_types, result_type, sum_types, unary, unary_of, unary_on_integer, unary_on_pointer, unary_type}
pub use Rattle.c_decls.specs.Typed.{Neither, Number, Operand, PlainTyped, PointerTo, constant, has_no_size, has_no_value, held, int, integer, is_array, is_function, is_null_constant, is_record, is_scalar, is_void, operand, place, read, value, wanted_value}
unfoldable pub use Rattle.c_decls.specs.Typed.{same}
pub use Rattle.c_decls.specs.declared.built_in.BuiltIn.{BuiltIn}
pub use Rattle.c_decls.specs.declared.constant.Constant.{Constant}
pub use Rattle.c_decls.specs.declared.refusal.TypeKind.{TypeKind}
pub use Rattle.c_decls.specs.declared.refusal.TypeKind.TheVariants.{ArgumentCount, Assignment, CaseTwice, DeclaredTwice, Format, Incomplete, LeftOut, NoMain, NotLvalue, Operands, ProgramTooLong, StaticTooLarge, StrayBreak, TypeTooLarge, Undeclared}
pub use Rattle.c_decls.specs.declared.typed.Folded.{Folded}
pub use Rattle.c_decls.specs.declared.typed.Folded.TheVariants.{Is}
pub use Rattle.c_types.specs.Layouts.{AreSlots, ArraysFit, IsSound, Known, Placed, array_layout, has_slot, keeps_union_rule, layout_of, members_layout, moved, no_layout, none_placed, number_layout, offset_after, placed, pointer_layout}
pub use Rattle.c_types.specs.TagTable.{CompletedTag, PlainMember, TagTable, completion, known, layout_in, learn, member_layout, members_in, placed_members, refusal, size_in, tag_layout}
pub use Rattle.c_types.specs.Types.{Array, Function, Int, PlainType, PlainTypes, Pointer, Struct, Union, Void, first, kind_of, none, width_of}
pub use Rattle.c_types.specs.declared.layouts.Layout.{Layout}
pub use Rattle.c_types.specs.declared.tags.TagError.{TagError}
pub use Rattle.c_types.specs.declared.tags.TagError.TheVariants.{PointerInUnion, TooLarge}
pub use Rattle.c_types.specs.declared.tags.TagInfo.{TagInfo}
pub use Rattle.c_types.specs.declared.types.IntType.{IntType}
