use Rattle.core_soundness.proofs.Cores as cores
use Rattle.core_soundness.proofs.laws.sizes_are_kept.Goals as goal

pub returns : goal.returns
returns c = cores.core_sizes
