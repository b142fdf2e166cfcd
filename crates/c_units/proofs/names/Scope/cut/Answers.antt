use Rattle.std.proofs.Common.{◌∙◌, ap, arith}
use Rattle.c_units.specs.Sets.{oldest}
use Rattle.c_units.proofs.Logs.{oldest_behind}
use Rattle.c_units.proofs.names.Scope.cut.Goals as goal

pub cut-preserved : goal.cut-preserved
cut-preserved c = ap (oldest c.args.count) c.in_ok-undo.ensures ∙ oldest_behind c.args.count c.cut.self (omega (arith, c.cut-test.true, c.len.ensures)) ∙ c.cut.invariant
