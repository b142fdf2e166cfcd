use Rattle.std.proofs.Common.{refl, arith, take}
use Rattle.std.proofs.lemmas.Grind.{common_steps}
use Rattle.std.specs.List.{list_any}
use Rattle.core_tree.specs.Statements.{is_register}
use Rattle.local_liveness.proofs.Bits.{adds_none, adds_both}
use Rattle.local_liveness.proofs.register_set.RegisterSet.insert_all.Goals as goal

pub loop-atom-init : goal.loop-atom-init
loop-atom-init c = adds_none (λ r. list_any (is_register r) (take 0 c.args.atoms.now)) c.args.self.now (λ r. refl)

pub loop-atom-preserved : goal.loop-atom-preserved
loop-atom-preserved c = adds_both _ _ _ _ _ _ c.loop-atom.invariant c.insert_atom.ensures (λ r. grind (arith, common_steps))
