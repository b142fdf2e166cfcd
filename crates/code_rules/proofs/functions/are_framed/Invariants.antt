use Rattle.std.proofs.Common.{◌<◌, ℕ}
use Rattle.code_rules.specs.Functions.{IsFramed, OfEntry}
use Rattle.code_rules.proofs.functions.are_framed.Given as goal

abbrev pub invariant-loop-function : goal.invariant-loop-function
invariant-loop-function l = (f : ℕ) → f < l.function → OfEntry l.code (IsFramed l.code) f
