use Rattle.std.proofs.Common.{◌≡◌, map, take}
use Rattle.elaboration.specs.Calls.{atoms_of}
use Rattle.elab_rules.specs.PlainArguments.{plain_argument}
use Rattle.elab_rules.proofs.calls.atoms_of.Given as goal

abbrev pub invariant-loop-argument : goal.invariant-loop-argument
invariant-loop-argument l = l.atoms.items ≡ atoms_of (map plain_argument (take l.argument-index l.arguments))
