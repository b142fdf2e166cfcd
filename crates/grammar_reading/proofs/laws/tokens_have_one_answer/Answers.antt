use Rattle.grammar_reading.proofs.complete.Texts as answers
use Rattle.grammar_reading.proofs.laws.tokens_have_one_answer.Goals as goal

pub returns : goal.returns
returns c = answers.one_answer
