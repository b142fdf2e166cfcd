use Rattle.core_soundness.proofs.Resolved as formats
use Rattle.core_soundness.proofs.laws.formats_are_read.Goals as goal

pub returns : goal.returns
returns c = formats.format_is
