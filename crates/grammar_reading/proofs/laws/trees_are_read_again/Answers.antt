use Rattle.grammar_reading.proofs.complete.Relined as relined
use Rattle.grammar_reading.proofs.laws.trees_are_read_again.Goals as goal

pub returns-clause-words : goal.returns-clause-words
returns-clause-words c = relined.words_are_read

pub returns-clause-canonical : goal.returns-clause-canonical
returns-clause-canonical c = relined.canonical_is_read c.canonical_text_is_read_again.ensures
