use Rattle.core_soundness.proofs.Functions as cores
use Rattle.core_soundness.proofs.laws.cores_are_sound.Goals as goal

pub returns : goal.returns
returns c = cores.cores_sound c.constants_fit.ensures c.layouts_are_sound.ensures
