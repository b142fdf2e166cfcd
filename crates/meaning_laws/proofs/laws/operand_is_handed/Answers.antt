use Rattle.meaning_laws.proofs.soundness.Stepping.{hands_operand}
use Rattle.meaning_laws.proofs.laws.operand_is_handed.Goals as goal

pub returns : goal.returns
returns c = λ code wf state good i here v e. hands_operand code wf state good i here v e
