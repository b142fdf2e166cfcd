use Rattle.core_soundness.proofs.NearTexts as texts
use Rattle.core_soundness.proofs.laws.tokens_are_within.Goals as goal

pub returns : goal.returns
returns c = texts.tokens_within
