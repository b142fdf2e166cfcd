use Rattle.grammar_reading.proofs.complete.Texts as conditions
use Rattle.grammar_reading.proofs.laws.conditions_are_read.Goals as goal

pub returns-clause-read : goal.returns-clause-read
returns-clause-read c = conditions.conditions_are_read

pub returns-clause-trees : goal.returns-clause-trees
returns-clause-trees c = conditions.read_are_conditions
