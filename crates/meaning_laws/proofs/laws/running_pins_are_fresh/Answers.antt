use Rattle.meaning_laws.proofs.soundness.Frames.{running_fresh}
use Rattle.meaning_laws.proofs.laws.running_pins_are_fresh.Goals as goal

pub returns : goal.returns
returns c = λ code wf state good i here. running_fresh code wf state good i here
