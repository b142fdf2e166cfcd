-- Words of hs_base, c_types, c_print, core_tree, flat_code.
pub use Rattle.c_print.specs.Format.{IsFormat}
unfoldable pub use Rattle.c_print.specs.Pieces.{pieces_of}
pub use Rattle.c_print.specs.declared.piece.Piece.{Piece}
pub use Rattle.c_print.specs.declared.piece.Piece.TheVariants.{Item, Plain}
pub use Rattle.c_types.specs.Layouts.{AreSlots, array_layout}
pub use Rattle.c_types.specs.LayoutsEquations.{slots_of_array}
pub use Rattle.c_types.specs.declared.layouts.Layout.{Layout}
pub use Rattle.core_tree.specs.LayoutsOfTypes.{IsLayoutOfType}
unfoldable pub use Rattle.core_tree.specs.Lives.{is_live}
pub use Rattle.core_tree.specs.LivesEquations.{live_by_edge, live_by_paths, live_by_read}
pub use Rattle.core_tree.specs.Sorts.{GivesResult, HasRegister, Integer, IsTyped, Sort, TakesAll, TakesCall, TakesFormat, atom_sort, lib_gives, lib_takes, piece_takes}
pub use Rattle.core_tree.specs.Sound.{EachReturn, EachStatement, GivesAnswer, HasNumbers, IsNumber, IsSound, answer_sort, atom_numbers, code_size, element_layouts, first_main, is_main, main_of}
pub use Rattle.core_tree.specs.Statements.{is_register, operands}
pub use Rattle.core_tree.specs.declared.program.Core.{Core}
pub use Rattle.core_tree.specs.declared.program.Func.{Func}
pub use Rattle.core_tree.specs.declared.program.Mem.{Mem}
pub use Rattle.core_tree.specs.declared.program.Reg.{Reg}
pub use Rattle.core_tree.specs.declared.program.Static.{Static}
pub use Rattle.core_tree.specs.declared.statements.Atom.{Atom}
pub use Rattle.core_tree.specs.declared.statements.BinOp.{BinOp}
pub use Rattle.core_tree.specs.declared.statements.CmpOp.{CmpOp}
pub use Rattle.core_tree.specs.declared.statements.LibName.{LibName}
pub use Rattle.core_tree.specs.declared.statements.LibName.TheVariants.{Putchar}
pub use Rattle.core_tree.specs.declared.statements.Stm.{Stm}
pub use Rattle.core_tree.specs.declared.statements.StmKind.{StmKind}
pub use Rattle.core_tree.specs.declared.statements.UnOp.{UnOp}
pub use Rattle.flat_code.specs.Lives.{IsLive, IsPath, edges_at, reads, reads_at, writes, writes_at}
pub use Rattle.flat_code.specs.Sites.{ArePins, Counts, HasSite, answered, has_site, site_of}
pub use Rattle.flat_code.specs.Table.{all_there, call_takes, chosen, edges, format_takes, handed_sort, hands, parameter_sorts, register_sort, register_sorts, scopes_after, sort_of, written}
pub use Rattle.flat_code.specs.WellFormed.{AreShort, ClosesWhatIsOpen, EachAnswer, EachEntry, EachInstr, GivesTo, HandsOrTakes, HasResult, HasScopes, IsAt, IsElement, IsElementSize, IsFirst, IsFunction, IsInstr, IsLayout, IsShort, IsStart, IsTarget, IsWellFormed, LeadsOn, NamesWhatIsThere, OfAnswer, Opens, StartsAfresh, Takes, end_of, handed_before, static_size}
pub use Rattle.flat_code.specs.WellFormedEquations.{Ready, instr_at, one_more_handed, ready_at}
pub use Rattle.flat_code.specs.declared.instructions.Instr.{Instr}
pub use Rattle.flat_code.specs.declared.instructions.Op.{Op}
pub use Rattle.flat_code.specs.declared.instructions.Op.TheVariants.{Give, HandInt, Lib, Start}
pub use Rattle.flat_code.specs.declared.program.Code.{Code}
pub use Rattle.flat_code.specs.declared.program.Entry.{Entry}
pub use Rattle.flat_code.specs.declared.program.Site.{Site}
pub use Rattle.flat_code.specs.declared.program.StaticInit.{StaticInit}
pub use Rattle.hs_base.specs.Access.{Place, ReadsDead, Refusal, Trapped, access_in, access_integer, access_pointer, and_then, bytes_of, copy, copy_between, cuts_slot, distances, if_so, may_copy, may_set, overlaid, range_at, set_bytes, slots_below, slots_within, with_integer, with_object, with_pointer}
pub use Rattle.hs_base.specs.AccessEquations.{length-bytes_of}
pub use Rattle.hs_base.specs.Arithmetic.{for_divisor, places_of}
pub use Rattle.hs_base.specs.Cost.{call_cost}
pub use Rattle.hs_base.specs.Freeing.{buried, buried_standing, check_numbers, end_numbers, ended, first_held, freed_at, is_heap, is_pointer_to, line_of_free, objects_of, pointers_inside, pointers_to, queued}
pub use Rattle.hs_base.specs.Numbers.{low_bits, width, wrapped}
pub use Rattle.hs_base.specs.NumbersEquations.{low_bits_lt}
pub use Rattle.hs_base.specs.Object.{Dead, Live, Local, Object, Queued, Standing, is_dead, is_queued, no_object, object_at}
pub use Rattle.hs_base.specs.Place.{block_size, has_place}
pub use Rattle.hs_base.specs.Runs.{Goes, Ran, Stops, led, moved, tested}
unfoldable pub use Rattle.hs_base.specs.Runs.{after}
pub use Rattle.hs_base.specs.RunsEquations.{after_more, after_stays, after_zero, one_end}
pub use Rattle.hs_base.specs.State.{Frame, State}
pub use Rattle.hs_base.specs.Trace.{BadFree, Dangling, Ending, Enter, Escape, Event, Exit, In, Out, OutOfStack, Spent, Trap}
pub use Rattle.hs_base.specs.declared.ends.Holder.{Holder}
pub use Rattle.hs_base.specs.declared.ends.IntKind.{IntKind}
pub use Rattle.hs_base.specs.declared.ends.IntKind.TheVariants.{I16, I32, I64, I8, U16, U32, U64, U8}
pub use Rattle.hs_base.specs.declared.ends.Reason.{Reason}
pub use Rattle.hs_base.specs.declared.ends.TrapKind.{TrapKind}
pub use Rattle.hs_base.specs.declared.values.Pointer.{Pointer}
pub use Rattle.hs_base.specs.declared.values.Value.{Value}
