use Rattle.c_pre.proofs.Trees.{intersection_set}
use Rattle.c_pre.proofs.hidden.Hidden.intersection.Goals as goal

pub returns : goal.returns
returns c =
    intersection_set _ c.self.inside.tree c.other.inside.tree c.args.self.now c.args.other.now c.self.view_is c.other.view_is c.in_ok-intersection.ensures
