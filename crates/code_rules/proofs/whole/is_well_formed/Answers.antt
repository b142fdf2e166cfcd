use Rattle.code_rules.proofs.Loops.{not_said}
use Rattle.code_rules.proofs.Wholes.{flow_of, refused, tables_of}
use Rattle.code_rules.specs.Whole.{KeepsFlow, KeepsTables}
use Rattle.code_rules.proofs.whole.is_well_formed.Goals as goal

pub returns-then-not-branch : goal.returns-then-not-branch
returns-then-not-branch c = refused c.args.code.now (KeepsTables c.args.code.now) (tables_of c.args.code.now) (not_said c.if-not-branch.true c.in_ok-keeps_tables.ensures)

pub returns-then-not-branch-2 : goal.returns-then-not-branch-2
returns-then-not-branch-2 c = refused c.args.code.now (KeepsFlow c.args.code.now) (flow_of c.args.code.now) (not_said c.if-not-branch-2.true c.in_ok-keeps_flow.ensures)
