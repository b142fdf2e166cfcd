use Rattle.std.proofs.Common.{◌∙◌}
use Rattle.parser_parts.proofs.Logs.{oldest_behind}
use Rattle.parser_parts.specs.Names.{oldest}
use Rattle.std.proofs.Common.{ap, arith}
use Rattle.parser_parts.proofs.declared.Names.cut.Goals as goal

pub cut-preserved : goal.cut-preserved
cut-preserved c = ap (oldest c.args.count) c.in_ok-undo.ensures ∙ oldest_behind c.args.count c.cut.self (omega (arith, c.cut-test.true, c.len.ensures)) ∙ c.cut.invariant
