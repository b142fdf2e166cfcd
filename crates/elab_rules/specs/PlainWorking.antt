-- How operators work, as the definition has it.
use Rattle.elaboration.specs.Operations as plain
use Rattle.elab_rules.specs.declared.working.Working.{Working}
use Rattle.elab_rules.specs.declared.working.Working.TheVariants as w

abbrev pub plain_working : Working → plain.Working
plain_working (w.Calculates op) = plain.Calculates op
plain_working (w.Shifts op) = plain.Shifts op
plain_working (w.Compares op) = plain.Compares op
plain_working w.Branches = plain.Branches
