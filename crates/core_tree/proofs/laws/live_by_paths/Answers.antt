use Rattle.core_tree.specs.LivesEquations as lives
use Rattle.core_tree.proofs.laws.live_by_paths.Goals as goal

pub returns : goal.returns
returns c = lives.live_by_paths
