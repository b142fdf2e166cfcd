use Rattle.meaning_laws.proofs.agreement.Beginning.{means_core, tested_means_core}
use Rattle.meaning_laws.proofs.laws.code_means_core.Goals as goal

pub returns-clause-meaning : goal.returns-clause-meaning
returns-clause-meaning c = means_core

pub returns-clause-tested : goal.returns-clause-tested
returns-clause-tested c = tested_means_core
