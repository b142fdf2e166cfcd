use Rattle.std.proofs.Common.{◌≡◌, ◌++◌, take}
use Rattle.parser_parts.specs.Names.{known_names}
use Rattle.parser_parts.proofs.declared.declare_all.Given as goal

abbrev pub invariant-loop-entry : goal.invariant-loop-entry
invariant-loop-entry l = l.names ≡ known_names (take l.entry-index l.more) ++ l.initial.names
