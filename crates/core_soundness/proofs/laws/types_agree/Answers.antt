use Rattle.core_soundness.proofs.Agreeing as agreement
use Rattle.core_soundness.proofs.laws.types_agree.Goals as goal

pub returns : goal.returns
returns c = agreement.found_agrees
