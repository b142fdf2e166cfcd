use Rattle.c_pre.proofs.Trees.{same_set}
use Rattle.c_pre.proofs.hidden.Hidden.share.Goals as goal

pub returns : goal.returns
returns c = same_set _ c.self.inside.tree c.args.self.now c.self.view_is c.in_ok-shared.ensures
