-- An address that is kept before a write is kept after it.
use Rattle.std.proofs.Common.{ℕ, List, Ok, Err, Result, sym, subst}
use Rattle.hs_base.specs.declared.ends.TrapKind.{TrapKind}
use Rattle.hs_base.specs.declared.values.Pointer.{Pointer}
use Rattle.hs_base.specs.Access.{Refusal}
use Rattle.hs_base.specs.Object.{Object}
use Rattle.flat_objects.specs.Memory.{Memory}
use Rattle.flat_objects.specs.Keeping.{KeepsAt, IsKept}
use Rattle.flat_objects.specs.Answering.{Changes}

pub still_kept : (old new : Memory) (addr : ℕ) (places : ℕ → ℕ) (objects : List Object) (p : Pointer) (meant : Result (List Object) Refusal) (result : Result (Unit {0}) TrapKind) → KeepsAt old places objects p addr → Changes places objects result old new meant → IsKept new addr
still_kept old new addr places objects p meant (Ok u) at (after, is, changed) = (places, after, p, record { keeps = changed.keeps; stands = changed.stand p addr at.stands })
still_kept old new addr places objects p meant (Err kind) at (traps, same) = (places, objects, p, subst (λ (m : Memory). KeepsAt m places objects p addr) (sym same) at)
