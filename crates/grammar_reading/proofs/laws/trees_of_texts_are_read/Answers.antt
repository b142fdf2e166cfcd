use Rattle.grammar_reading.proofs.complete.Texts as texts
use Rattle.grammar_reading.proofs.laws.trees_of_texts_are_read.Goals as goal

pub returns-clause-trees : goal.returns-clause-trees
returns-clause-trees c = texts.trees_of_texts

pub returns-clause-wrong : goal.returns-clause-wrong
returns-clause-wrong c = texts.stops_wrong
