use Rattle.std.proofs.Common.{◌≡◌, ◌++◌, drop}
use Rattle.c_pre.specs.Expansion.{parameters_of, substituted, replaced}
use Rattle.c_pre.proofs.substitute.replaced.Given as goal

abbrev pub invariant-loop-token : goal.invariant-loop-token
invariant-loop-token l =
    l.tokens ++ substituted l.line l.numbers (parameters_of l.it.parameters) l.expanded (drop l.token-index l.token-items) ≡ replaced l.line l.numbers l.expanded l.it
