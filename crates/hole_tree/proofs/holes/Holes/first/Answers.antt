use Rattle.std.proofs.Common.{MatchOption, subst}
use Rattle.hole_tree.specs.Granules.{HasNoHole, IsFirstHole}
use Rattle.hole_tree.proofs.holes.Holes.first.Goals as goal

pub returns : goal.returns
returns c = subst (λ row. MatchOption c.first.result (HasNoHole row c.args.n) (IsFirstHole row c.args.n)) c.self.view_is c.first.ensures
