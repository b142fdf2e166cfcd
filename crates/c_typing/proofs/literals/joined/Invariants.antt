use Rattle.std.proofs.Common.{◌≡◌, take}
use Rattle.c_tree.specs.View.{literal_leaves}
use Rattle.c_decls.specs.Expressions.{joined}
use Rattle.c_typing.proofs.literals.joined.Given as goal

-- the bytes of the literals so far
abbrev pub invariant-loop-part : goal.invariant-loop-part
invariant-loop-part l = l.bytes.items ≡ joined (literal_leaves (take l.part-index l.parts))
