use Rattle.delay_scopes.proofs.Keeping.{queue_stays}
use Rattle.delay_scopes.proofs.laws.queues_stay.Goals as goal

pub returns : goal.returns
returns c = queue_stays
