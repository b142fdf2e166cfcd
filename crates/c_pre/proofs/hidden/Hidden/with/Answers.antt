use Rattle.std.proofs.Common.{arith}
use Rattle.c_pre.proofs.Trees.{with_set}
use Rattle.c_pre.proofs.hidden.Hidden.with.Goals as goal

pub returns : goal.returns
returns c =
    with_set _ c.self.inside.tree c.args.self.now c.args.number c.in-Some.next c.self.view_is (grind (arith, c.in-Some.ensures)) c.in_ok-union.ensures
