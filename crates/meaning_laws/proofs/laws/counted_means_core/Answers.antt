use Rattle.meaning_laws.proofs.counts.Runs.{counts_are_holders, each_state_is_counted, tested_runs_are_counted}
use Rattle.meaning_laws.proofs.laws.counted_means_core.Goals as goal

pub returns-clause-meaning : goal.returns-clause-meaning
returns-clause-meaning c = counts_are_holders

pub returns-clause-each_state : goal.returns-clause-each_state
returns-clause-each_state c = each_state_is_counted

pub returns-clause-tested : goal.returns-clause-tested
returns-clause-tested c = tested_runs_are_counted
