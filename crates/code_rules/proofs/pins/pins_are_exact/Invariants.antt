use Rattle.std.proofs.Common.{ℕ, ◌<◌}
use Rattle.flat_code.specs.Sites.{has_site}
use Rattle.flat_code.specs.WellFormed.{EachInstr}
use Rattle.code_rules.specs.Answers.{PinsExact}
use Rattle.code_rules.proofs.pins.pins_are_exact.Given as goal

abbrev pub invariant-loop-register : goal.invariant-loop-register
invariant-loop-register l = (r : ℕ) → r < l.register → EachInstr l.code (λ f entry point i. PinsExact l.code r entry point i (has_site i.op))
