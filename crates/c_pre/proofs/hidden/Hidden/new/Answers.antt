use Rattle.std.proofs.Common.{sym}
use Rattle.std.specs.FinSet as set
use Rattle.std.specs.Ordering.{nat_cmp}
use Rattle.c_pre.specs.declared.hidden.Tree.{Empty}
use Rattle.c_pre.proofs.Trees.{is_set}
use Rattle.c_pre.proofs.hidden.Hidden.new.Goals as goal

pub returns : goal.returns
returns c = is_set Empty set.empty (λ n. sym (set.contains-empty nat_cmp n))
