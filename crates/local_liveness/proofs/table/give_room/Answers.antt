use Rattle.std.proofs.Common.{Option, ℕ, arith, refl, subst, sym}
use Rattle.std.specs.Prelude.{slice_set}
use Rattle.std.specs.Int.{div_ceil}
use Rattle.local_liveness.specs.Sweeps.{GivesRoom}
use Rattle.local_liveness.proofs.Blanks.{room_given}
use Rattle.local_liveness.proofs.table.give_room.Goals as goal

pub returns : goal.returns
returns c =
    subst (λ (target : Option ℕ). GivesRoom target (div_ceil c.args.registers 64) c.args.sets.now (slice_set c.args.sets.now c.in-Some.target c.in_ok-sets.field-0)) (sym c.in-Some.is)
    (room_given c.in-Some.target c.in-Some.target (div_ceil c.args.registers 64) c.args.sets.now c.in_ok-sets.field-0 refl (omega arith) c.in_ok-sets.ensures)
