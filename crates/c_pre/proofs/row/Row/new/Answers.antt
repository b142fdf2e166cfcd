use Rattle.c_pre.proofs.row.Row.new.Goals as goal

pub invariant_of-result : goal.invariant_of-result
invariant_of-result c = record { paired = rw c.as_slice.ensures.value at c.in_ok-ends.ensures }
