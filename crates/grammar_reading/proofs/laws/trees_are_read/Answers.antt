use Rattle.grammar_reading.proofs.sound.Texts as rooms
use Rattle.grammar_reading.proofs.laws.trees_are_read.Goals as goal

pub returns : goal.returns
returns c = rooms.trees_are_read
