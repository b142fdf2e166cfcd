-- Sorts as code keeps them: whether a register holds pointers.
use Rattle.std.specs.Prelude.{◌<◌, ℕ, Bool, List, map, length, Option, option_map, slice_get, IfSome, ◌≡◌}
use Rattle.c_print.specs.Format.{IsFormat}
use Rattle.c_print.specs.Pieces.{pieces_of}
use Rattle.core_tree.specs.Sorts.{Sort}
use Rattle.flat_code.specs.declared.instructions.Instr.{Instr}
use Rattle.flat_code.specs.declared.instructions.Op.{Op}
use Rattle.flat_code.specs.declared.instructions.Op.TheVariants as op
use Rattle.flat_code.specs.declared.program.Code.{Code}
use Rattle.flat_code.specs.declared.program.Entry.{Entry}
use Rattle.flat_code.specs.Table.{chosen, gives, hands, sort_of, written, all_there, format_takes}
use Rattle.flat_code.specs.WellFormed.{GivesTo, HandsOrTakes, Takes}

-- the sort that is told so
abbrev pub sort_told : Option Bool → Option Sort
sort_told is_pointer = option_map sort_of is_pointer

abbrev pub sorts_told : List (Option Bool) → List (Option Sort)
sorts_told told = map sort_told told

-- a format that an operation names is one
abbrev pub NamesFormat : Code → Instr → Op → Type 0
NamesFormat code i op.Printf = IfSome (slice_get code.formats i.b) (λ format. IsFormat format (pieces_of format))
NamesFormat code i o = Unit {0}

-- what is handed over or taken is there
abbrev pub HasOperands : Code → Entry → ℕ → Instr → Type 0
HasOperands code entry point i = NamesFormat code i i.op × HandsOrTakes code entry point i (hands i.op)

-- so it is where sorts are told of what is handed over
abbrev pub TakesTold : Code → Entry → Instr → List (Option Bool) → Type 0
TakesTold code entry i told = NamesFormat code i i.op × Takes code entry i i.op (sorts_told told)

-- a format, where it is there, is one, and takes what is told
abbrev pub FormatTakes : Option (List ℕ) → List (Option Bool) → Type 0
FormatTakes format told =
    IfSome format (λ f. IsFormat f (pieces_of f)) × (sorts_told told ≡ all_there (format_takes format))

-- the register of a result is there, and of its sort where it is no call's
abbrev pub HasRegister : Entry → Instr → Op → Type 0
HasRegister entry i op.Call = IfSome (chosen i) (λ r. r < length entry.kinds)
HasRegister entry i o = GivesTo entry (gives entry i o) (written i o)
