use Rattle.meaning_laws.proofs.form.Lengths.{few_instructions}
use Rattle.meaning_laws.proofs.laws.codes_are_few.Goals as goal

pub returns : goal.returns
returns c = λ core pins code is. few_instructions core code is
