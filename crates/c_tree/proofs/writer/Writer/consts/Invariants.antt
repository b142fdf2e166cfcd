use Rattle.std.proofs.Common.{◌≡◌}
use Rattle.c_tree.specs.Canonical.{with_consts}
use Rattle.c_tree.proofs.writer.Writer.consts.Given as goal

abbrev pub invariant-loop-i : goal.invariant-loop-i
invariant-loop-i l = l.self ≡ with_consts l.i l.initial.self
