-- The end of a scope behind what was read in it.
use Rattle.std.specs.Prelude.{◌≡◌, Result, Ok, Err}
use Rattle.grammar_reading.specs.State.{State}
use Rattle.parser_parts.specs.States.{outside}
use Rattle.parser_parts.specs.declared.reader.Outer.{Outer}
use Rattle.parser_parts.specs.declared.error.ReadError.{ReadError}
use Rattle.parser_parts.specs.declared.error.ReadError.TheVariants as errors

-- what was read in a scope is given behind it, and so is why nothing was read; want of memory is free
abbrev pub Ends : {X : Type 0} → Outer → Result X ReadError → Result X ReadError → State → State → Type 0
Ends outer (Ok x) (Ok given) inside behind = (given ≡ x) × (behind ≡ outside outer inside)
Ends outer (Ok x) (Err error) inside behind = error ≡ errors.NoMemory
Ends outer (Err error) (Ok given) inside behind = ⊥
Ends outer (Err error) (Err told) inside behind = told ≡ error
