-- What a reader of the code gives, against what reading gives.
use Rattle.std.specs.Prelude.{◌≡◌, ⊤, Option, Some, None, Result, Ok, Err}
use Rattle.grammar_reading.specs.State.{State}
use Rattle.parser_parts.specs.declared.error.ReadError.{ReadError}
use Rattle.parser_parts.specs.declared.error.ReadError.TheVariants as errors

abbrev pub Fails : {Y : Type 0} → ReadError → Option Y → Type 0
Fails errors.NoMemory read = ⊤
Fails errors.Syntax read = read ≡ None

-- what the code gives, and where it stands then, is what is read; want of memory is free
abbrev pub Reads : {X Y : Type 0} → (X → Y) → Result X ReadError → State → Option (Y × State) → Type 0
Reads view (Ok x) behind read = read ≡ Some (view x, behind)
Reads view (Err error) behind read = Fails error read

-- the same without a tree
abbrev pub Passes : Result Unit ReadError → State → Option State → Type 0
Passes (Ok x) behind passed = passed ≡ Some behind
Passes (Err error) behind passed = Fails error passed

-- the code gives a tree where there is one
abbrev pub Ended : {X Y : Type 0} → (X → Y) → Result X ReadError → Option Y → Type 0
Ended view (Ok x) tree = tree ≡ Some (view x)
Ended view (Err error) tree = Fails error tree
