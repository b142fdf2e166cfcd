use Rattle.core_soundness.proofs.Cores as cores
use Rattle.core_soundness.proofs.laws.control_flows.Goals as goal

pub returns : goal.returns
returns c = cores.core_flows
