-- Words of cores: kinds, statements, sorts, and what makes a core sound.
pub use Rattle.c_print.specs.Format.{GoesOnPlain, IsFormat, ReadsPieces, plain_byte}
pub use Rattle.c_print.specs.Item.{ReadsItem, StartsOutside, is_flag}
pub use Rattle.c_print.specs.Length.{is_one_of, kind_of, length_bytes}
pub use Rattle.c_print.specs.Pieces.{item_at, join, length_at, pieces_from}
unfoldable pub use Rattle.c_print.specs.Pieces.{pieces_of}
pub use Rattle.c_print.specs.declared.piece.Piece.{Piece}
pub use Rattle.c_print.specs.declared.piece.Piece.TheVariants.{Item, Plain}
pub use Rattle.core_tree.specs.LayoutsOfTypes.{AreCompleted, HasLayout, IsCompleted, IsLayoutOfType}
pub use Rattle.core_tree.specs.Sorts.{GivesResult, HasRegister, Integer, IsTyped, Pointer, Sort, TakesAll, TakesCall, TakesFormat, atom_sort, lib_gives, lib_takes, piece_takes, register_sort, sort_of}
pub use Rattle.core_tree.specs.Sound.{AreShort, EachFunc, EachReturn, EachStatement, GivesAnswer, HasNumbers, HasScopes, IsFunction, IsMain, IsNumber, IsShort, IsSound, IsStatic, IsTarget, LeadsOn, Opens, answer_sort, atom_numbers, code_size, element_layouts, first_main, goes, is_main, main_of, scopes_after, start}
pub use Rattle.core_tree.specs.Statements.{edges, edges_of_lib, given, operands}
pub use Rattle.core_tree.specs.declared.program.Core.{Core}
pub use Rattle.core_tree.specs.declared.program.Func.{Func}
pub use Rattle.core_tree.specs.declared.program.Mem.{Mem}
pub use Rattle.core_tree.specs.declared.program.Reg.{Reg}
pub use Rattle.core_tree.specs.declared.program.Start.{Start}
pub use Rattle.core_tree.specs.declared.program.Static.{Static}
pub use Rattle.core_tree.specs.declared.statements.Atom.{Atom}
pub use Rattle.core_tree.specs.declared.statements.CmpOp.{CmpOp}
pub use Rattle.core_tree.specs.declared.statements.LibName.{LibName}
pub use Rattle.core_tree.specs.declared.statements.LibName.TheVariants.{Abort, Exit}
pub use Rattle.core_tree.specs.declared.statements.Stm.{Stm}
pub use Rattle.core_tree.specs.declared.statements.StmKind.{StmKind}
pub use Rattle.core_tree.specs.declared.statements.StmKind.TheVariants.{Add, Bin, Call, Calloc, Case, Clear, Cmp, Conv, Copy, Diff, Enter, Free, Jump, Leave, Lib, Load, Loadp, Loop, Malloc, Off, Pcmp, Printf, Realloc, Return, Set, Store, Storep, Sub, Test, Un, Zero}
pub use Rattle.hs_base.specs.Numbers.{low_bits, width, wrapped}
pub use Rattle.hs_base.specs.Place.{block_size}
pub use Rattle.hs_base.specs.declared.ends.IntKind.{IntKind}
pub use Rattle.hs_base.specs.declared.ends.IntKind.TheVariants.{I16, I32, I64, I8, U16, U32, U64, U8}
