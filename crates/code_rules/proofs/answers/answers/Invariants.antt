use Rattle.std.proofs.Common.{◌≡◌, ◌<◌, ℕ, Some, None, length, get_or}
use Rattle.std.specs.List.{slice_get}
use Rattle.flat_code.specs.declared.program.Entry.{Entry}
use Rattle.code_rules.specs.Answers.{IsAnswer}
use Rattle.code_rules.proofs.answers.answers.Given as goal

-- an answer of each function so far
abbrev pub invariant-loop-function : goal.invariant-loop-function
invariant-loop-function l = record {
  long : length l.told.items ≡ l.function;
  told : (f : ℕ) (entry : Entry) → f < l.function → slice_get l.code.funcs f ≡ Some entry → IsAnswer l.code f entry (get_or l.told.items f None);
}
