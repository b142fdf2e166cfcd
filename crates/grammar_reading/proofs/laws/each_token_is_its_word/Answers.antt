use Rattle.grammar_reading.proofs.Words.{word_of_is}
use Rattle.grammar_reading.proofs.laws.each_token_is_its_word.Goals as goal

pub returns : goal.returns
returns c = word_of_is
