use Rattle.std.proofs.Common.{◌≡◌, length}
use Rattle.parser_parts.specs.Names.{oldest}
use Rattle.parser_parts.proofs.declared.Names.cut.Given as goal

abbrev pub invariant-cut : goal.invariant-cut
invariant-cut l = oldest l.count l.self ≡ oldest l.count l.fn.self

abbrev pub decreases-cut : goal.decreases-cut
decreases-cut l = length l.self
