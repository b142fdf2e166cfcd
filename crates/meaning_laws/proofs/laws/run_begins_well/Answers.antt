use Rattle.meaning_laws.proofs.soundness.Falling.{begins_well}
use Rattle.meaning_laws.proofs.laws.run_begins_well.Goals as goal

pub returns : goal.returns
returns c = λ code wf holds input bytes n fits. begins_well code wf holds input bytes n fits
