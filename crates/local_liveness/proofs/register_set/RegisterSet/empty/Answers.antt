use Rattle.std.proofs.Common.{arith}
use Rattle.local_liveness.proofs.Marks.{marks_none, marks_same}
use Rattle.local_liveness.proofs.register_set.RegisterSet.empty.Goals as goal

pub invariant_of-result : goal.invariant_of-result
invariant_of-result c =
    marks_same _ _ _ _ _ _ c.in_ok-zeros.ensures c.in_ok-zeros-2.ensures c.in_ok-zeros-3.ensures
    (marks_none c.div_ceil-words.result c.div_ceil-marks.result (omega arith))
