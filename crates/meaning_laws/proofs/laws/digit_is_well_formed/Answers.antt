use Rattle.meaning_laws.proofs.soundness.Example.{digit_is}
use Rattle.meaning_laws.proofs.laws.digit_is_well_formed.Goals as goal

pub returns : goal.returns
returns c = digit_is
