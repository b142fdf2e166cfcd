use Rattle.std.proofs.Common.{take}
use Rattle.std.specs.List.{list_any}
use Rattle.core_tree.specs.Statements.{is_register}
use Rattle.local_liveness.specs.Sets.{Adds}
use Rattle.local_liveness.proofs.register_set.RegisterSet.insert_all.Given as goal

abbrev pub invariant-loop-atom : goal.invariant-loop-atom
invariant-loop-atom l = Adds (λ r. list_any (is_register r) (take l.atom-index l.atoms)) l.fn.self l.self
