use Rattle.std.proofs.Common.{◌≡◌, length}
use Rattle.c_units.specs.Sets.{oldest}
use Rattle.c_units.proofs.names.Scope.cut.Given as goal

abbrev pub invariant-cut : goal.invariant-cut
invariant-cut l = oldest l.count l.self ≡ oldest l.count l.fn.self

abbrev pub decreases-cut : goal.decreases-cut
decreases-cut l = length l.self
