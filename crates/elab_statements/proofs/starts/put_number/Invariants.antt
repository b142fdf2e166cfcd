use Rattle.std.proofs.Common.{◌≡◌, ◌++◌, ◌-◌}
use Rattle.elaboration.specs.Initializers.{bytes_of}
use Rattle.elab_statements.proofs.starts.put_number.Given as goal

-- the bytes that are left come behind those so far
abbrev pub invariant-loop-made : goal.invariant-loop-made
invariant-loop-made l = l.bytes ++ bytes_of (l.width - l.made) l.left ≡ l.initial.bytes ++ bytes_of l.width l.number
