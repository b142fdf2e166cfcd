use Rattle.meaning_laws.proofs.soundness.Stepping.{main_gives}
use Rattle.meaning_laws.proofs.laws.main_gives_integer.Goals as goal

pub returns : goal.returns
returns c = λ code wf state good none i here. main_gives code wf state good i here none
