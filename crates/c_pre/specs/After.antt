-- Answers, and what follows them.
use Rattle.std.specs.Prelude.{ℕ, Result, Ok, Err}
use Rattle.c_pre.specs.declared.answer.PreKind.{PreKind}
use Rattle.c_pre.specs.declared.answer.Refusal.{Refusal}
use Rattle.c_pre.specs.declared.answer.Refusal.TheVariants.{Bad}

-- an answer whose refusal is that of a line
abbrev pub at_line : {S : Type 0} → ℕ → Result S PreKind → Result S Refusal
at_line line (Ok s) = Ok s
at_line line (Err kind) = Err (Bad kind line)

-- what follows an answer
abbrev pub and_then : {S T E : Type 0} → Result S E → (S → Result T E) → Result T E
and_then (Ok s) next = next s
and_then (Err e) next = Err e
