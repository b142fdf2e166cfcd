use Rattle.meaning_laws.proofs.soundness.Stepping.{instr_of}
use Rattle.meaning_laws.proofs.laws.instruction_is_there.Goals as goal

pub returns : goal.returns
returns c = λ code wf state good. instr_of code wf state good
