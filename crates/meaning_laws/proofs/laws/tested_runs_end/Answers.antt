use Rattle.meaning_laws.proofs.agreement.Testing.{tested_ends}
use Rattle.meaning_laws.proofs.laws.tested_runs_end.Goals as goal

pub returns : goal.returns
returns c = λ core sound fits refused heap r. tested_ends core sound fits refused heap r
