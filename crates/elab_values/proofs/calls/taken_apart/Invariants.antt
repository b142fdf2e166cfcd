use Rattle.std.proofs.Common.{◌≡◌, map}
use Rattle.c_decls.specs.Typed.{plain_typed}
use Rattle.elab_rules.specs.PlainArguments.{plain_argument}
use Rattle.elaboration.specs.Calls.{types_of, atoms_of}
use Rattle.elab_values.proofs.calls.taken_apart.Given as goal

-- both are those of the arguments so far
abbrev pub invariant-loop-argument : goal.invariant-loop-argument
invariant-loop-argument l = record {
  types : map plain_typed l.types.items ≡ types_of (map plain_argument l.yielded);
  atoms : l.atoms.items ≡ atoms_of (map plain_argument l.yielded);
}
