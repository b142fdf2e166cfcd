use Rattle.code_rules.proofs.Told.{same_sorts}
use Rattle.code_rules.proofs.operands.are_sorts.Goals as goal

pub returns : goal.returns
returns c = same_sorts c.args.told.now c.args.expected.now c.eq.result c.eq.ensures
