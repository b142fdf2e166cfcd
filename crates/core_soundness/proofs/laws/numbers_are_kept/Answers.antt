use Rattle.core_soundness.proofs.RangedFound as ranged
use Rattle.core_soundness.proofs.laws.numbers_are_kept.Goals as goal

pub returns : goal.returns
returns c = λ tree wanted c d h w t g e. (ranged.found_in tree wanted c d h w t g e).0
