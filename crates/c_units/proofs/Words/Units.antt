-- Words of c_units.
pub use Rattle.c_units.specs.Binding.{Constant, Declaration, External, Held, Scope, Use, after_declarator, declaration_of, declared_as, hold, hold_here, hold_inner, left_part, no_scope, use_of, uses_of}
unfoldable pub use Rattle.c_units.specs.Binding.{after, after_all, after_entries, after_external, each_uses}
pub use Rattle.c_units.specs.Externals.{Said, before_declarator, behind_declarator, binding_as, but_main, inside_params, line_at, named_as, names_at_start, own_names, renamed_declarator, role_of, suffix_of, unit_names, unit_said, with_params, word_as}
unfoldable pub use Rattle.c_units.specs.Externals.{all_with_name, behind_entries, behind_external, each_said, entry_names, renamed_entries, renamed_external, static_names, with_name}
pub use Rattle.c_units.specs.FileBindings.{Agree, AreDeclared, IsDeclared, IsOfText, KeepsBinding, MayHave, MergeKeepsDeclared, MergeKeepsFile, first_of, left_parts, named, own_in_program, part_trees, program_parts}
unfoldable pub use Rattle.c_units.specs.FileBindings.{declared_by, entries_declared}
pub use Rattle.c_units.specs.Kept.{program_view, said_view}
pub use Rattle.c_units.specs.KeptBindings.{IsWithoutDot, UnitsKeepBindings, has_dot, name_as, use_as}
unfoldable pub use Rattle.c_units.specs.KeptBindings.{HasNoDots, HaveNoDots}
pub use Rattle.c_units.specs.Mentions.{Mention, Taken, all_noted, first_taken, is_among, is_taken, noted, with_mentions}
pub use Rattle.c_units.specs.Merge.{Adds, Conflict, IsConflict, Merges, Program, followed, is_again, kept, mentions_of, merged, no_program, spelling, spellings_of, trees_of, unless, with_unit, with_units}
unfoldable pub use Rattle.c_units.specs.Merge.{are_plain, is_plain}
pub use Rattle.c_units.specs.MergedBindings.{MergeKeepsInner, inner_of, inner_use, inner_uses, left_uses, program_uses, unit_uses}
pub use Rattle.c_units.specs.MergedNames.{MergesRename, joined_all}
pub use Rattle.c_units.specs.Names.{Known, Names, binding_at, binding_of, declare, left_scope, line_in, mention, mention_any, name_by, tag_name, used}
unfoldable pub use Rattle.c_units.specs.Names.{all_behind, all_renamed, behind, entered, left, made, renamed}
pub use Rattle.c_units.specs.Sets.{AreBound, TellBefore, back_to, bound_in, entries_known, oldest, without_latest}
pub use Rattle.c_units.specs.Turns.{back_if, behind_maybe, braced_name, each_renamed, in_turn, inits_of, inner, is_scope_kind, joined, kind_params, renamed_maybe}
pub use Rattle.c_units.specs.declared.error.MergeError.{MergeError}
pub use Rattle.c_units.specs.declared.mention.Role.{Role}
pub use Rattle.c_units.specs.declared.mention.Role.TheVariants.{Defined, Tagged, Typedef, Used}
pub use Rattle.c_units.specs.declared.names.Binding.{Binding}
pub use Rattle.c_units.specs.declared.names.Binding.TheVariants.{Inner, Own, Shared}
pub use Rattle.c_units.specs.declared.names.Entry.{Entry}
pub use Rattle.c_units.specs.declared.walk.Outer.{Outer}
