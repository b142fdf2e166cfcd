use Rattle.std.proofs.Common.{◌≡◌, ◌%◌, ℕ, length, subst, sym}
use Rattle.flat_machine.proofs.Tables.{blocks_even}
use Rattle.flat_machine.proofs.statics.memory_with.Goals as goal

pub new-requires-clause-statics : goal.new-requires-clause-statics
new-requires-clause-statics g c =
    subst (λ (n : ℕ). n % 16 ≡ 0) (sym c.statics_length.ensures) (blocks_even c.args.code.now (length c.args.code.now.statics))
