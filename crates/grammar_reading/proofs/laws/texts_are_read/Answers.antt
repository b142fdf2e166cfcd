use Rattle.grammar_reading.proofs.sound.Texts as texts
use Rattle.grammar_reading.proofs.laws.texts_are_read.Goals as goal

pub returns-clause-whole : goal.returns-clause-whole
returns-clause-whole c = texts.whole_texts

pub returns-clause-fronts : goal.returns-clause-fronts
returns-clause-fronts c = texts.fronts
