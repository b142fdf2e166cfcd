use Rattle.meaning_laws.proofs.soundness.Stepping.{has_operands}
use Rattle.meaning_laws.proofs.laws.operands_are_there.Goals as goal

pub returns : goal.returns
returns c = λ code wf state good i here takes. has_operands code wf state good i here takes
