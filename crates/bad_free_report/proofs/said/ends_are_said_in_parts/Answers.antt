use Rattle.bad_free_report.proofs.ObjectParts.{are_parts}
use Rattle.bad_free_report.proofs.said.ends_are_said_in_parts.Goals as goal

pub returns : goal.returns
returns c = are_parts
