use Rattle.code_rules.proofs.Distinct.{DistinctFrom}
use Rattle.code_rules.proofs.tables.are_distinct.Given as goal

-- they are distinct where those from this one on are
abbrev pub invariant-loop-i : goal.invariant-loop-i
invariant-loop-i l = DistinctFrom l.pointers l.i
