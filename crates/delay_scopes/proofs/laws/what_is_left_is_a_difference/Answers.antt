use Rattle.delay_scopes.proofs.Others.{left_is_difference}
use Rattle.delay_scopes.proofs.laws.what_is_left_is_a_difference.Goals as goal

pub returns : goal.returns
returns c = left_is_difference
