use Rattle.std.proofs.Common.{List, ℕ, eqb, arith, subst, sym}
use Rattle.local_liveness.specs.Sets.{Adds}
use Rattle.local_liveness.proofs.Bits.{insert_bit}
use Rattle.local_liveness.proofs.register_set.RegisterSet.insert.Goals as goal

pub returns-then-place-room : goal.returns-then-place-room
returns-then-place-room c =
    subst (λ (new : List ℕ). Adds (λ r. eqb c.args.register r) c.args.self.now new) (sym c.write.ensures)
    (insert_bit c.args.self.now c.args.register c.word.result (omega arith) c.word.ensures)
