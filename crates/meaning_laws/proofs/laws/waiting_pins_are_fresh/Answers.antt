use Rattle.meaning_laws.proofs.soundness.Frames.{waiting_fresh}
use Rattle.meaning_laws.proofs.laws.waiting_pins_are_fresh.Goals as goal

pub returns : goal.returns
returns c = λ code wf state good. waiting_fresh code wf state.state.objects state.state.running.func state.state.running.first_local good.others state.state.waiting good.waiting
