use Rattle.meaning_laws.proofs.soundness.Ending.{run_ends}
use Rattle.meaning_laws.proofs.laws.code_runs_end.Goals as goal

pub returns : goal.returns
returns c = λ code wf holds input bytes n heap. run_ends code wf holds input bytes n heap
