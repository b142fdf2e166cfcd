use Rattle.compiled_file.proofs.Wholes.{whole_run}
use Rattle.compiled_file.proofs.laws.whole_runs_are_whole.Goals as goal

pub returns : goal.returns
returns c = λ code input n limits last ending ends none ended. whole_run code input n limits last ending ends none ended
