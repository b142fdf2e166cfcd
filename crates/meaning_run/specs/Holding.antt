-- The registers of a frame that hold an object.
use Rattle.std.specs.Prelude.{◌&&◌, not, ℕ, List, Option, slice_get}
use Rattle.hs_base.specs.declared.ends.Holder.{Holder}
use Rattle.hs_base.specs.declared.values.Value.{Value}
use Rattle.core_tree.specs.declared.program.Core.{Core}
use Rattle.object_meaning.specs.objects.Holding.{is_live_in, takes_answer, in_registers}

-- those that are live after a point of a function, but for the one that takes the answer of a call
abbrev pub counted_registers : Core → ℕ → ℕ → Option ℕ → ℕ → List Value → List Holder
counted_registers core func point answer birth regs =
    in_registers (λ r. is_live_in (slice_get core.funcs func) point r && not (takes_answer answer r)) birth (record { func = func; point = point; regs = regs; first_local = 0 })
