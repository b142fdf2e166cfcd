use Rattle.c_pre.proofs.Trees.{union_set}
use Rattle.c_pre.proofs.hidden.Hidden.union.Goals as goal

pub returns : goal.returns
returns c =
    union_set _ c.self.inside.tree c.other.inside.tree c.args.self.now c.args.other.now c.self.view_is c.other.view_is c.in_ok-union.ensures
