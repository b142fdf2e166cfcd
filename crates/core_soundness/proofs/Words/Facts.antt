-- Words of what is proved of elaboration.
pub use Rattle.core_soundness.specs.Fitting.{ScopesFit, TableFits, TablesFit}
pub use Rattle.core_soundness.specs.Laws.{AreWithin, CallsInside, HasFlow, HasLayouts, HasRanges, HasShortLists, HasSizes, HasTypes}
pub use Rattle.core_soundness.specs.Ranges.{AtomIn, AtomsIn, IsElement, IsStep, KindIn, PiecesIn}
pub use Rattle.core_soundness.specs.Solid.{MemsLaid, Solid, VariablesLaid, WalkedLaid}
pub use Rattle.core_soundness.specs.Spoken.{HasLists, IsDefinition, IsList, NoRegister, is_register}
unfoldable pub use Rattle.core_soundness.specs.Spoken.{AllSpoken, HasParameters, Spoken, TakesAddress}
pub use Rattle.core_soundness.specs.Texts.{AllNames, HaveTrees, IsMadeOf, IsOfTexts, IsSmall, Names, WordNames, all_joined, joined}
pub use Rattle.core_soundness.specs.Whole.{AllWhole, AreMade, IsRow, MembersWhole, NamedWhole, NamesWhole, TableWhole, Whole}
pub use Rattle.core_soundness.specs.Worlds.{FileFits, Fits, FitsAnswer, FitsIn, Held, HeldAs, HoldAll, Holds, InnerFits, IsCall, IsObject, IsPrinted, IsRegister, NamesFit, PiecesFit, Receives, Stands, StandsAs, World, is_integer, is_literal, is_local, is_pointer_temporary, is_variable, local_sort, param_sorts, result_sort, type_sort, walked_world, world}
pub use Rattle.core_soundness.specs.Written.{AreWritten, Each, IsHeld}
unfoldable pub use Rattle.core_soundness.specs.Written.{AllWritten, HasParts, Written}
