use Rattle.code_rules.specs.Operands.{sorts_told}
use Rattle.code_rules.proofs.Told.{one_of_two}
use Rattle.code_rules.proofs.operands.gives_handed.Goals as goal

pub returns : goal.returns
returns c = one_of_two c.are_sorts.result c.are_sorts-2.result (sorts_told c.args.told.now) c.are_sorts.ensures c.are_sorts-2.ensures
