use Rattle.core_soundness.proofs.Cores as calls
use Rattle.core_soundness.proofs.laws.calls_are_inside.Goals as goal

pub returns : goal.returns
returns c = calls.core_calls
