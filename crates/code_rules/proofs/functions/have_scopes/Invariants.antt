use Rattle.std.proofs.Common.{◌<◌, ℕ}
use Rattle.flat_code.specs.WellFormed.{HasScopes}
use Rattle.code_rules.specs.Functions.{OfEntry}
use Rattle.code_rules.proofs.functions.have_scopes.Given as goal

abbrev pub invariant-loop-function : goal.invariant-loop-function
invariant-loop-function l = (f : ℕ) → f < l.function → OfEntry l.code (HasScopes l.code) f
