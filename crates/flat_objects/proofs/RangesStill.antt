-- What may be copied before a call may be copied after it.
use Rattle.std.proofs.Common.{ℕ, List, Ok, Err, Result, sym, subst}
use Rattle.hs_base.specs.declared.ends.TrapKind.{TrapKind}
use Rattle.hs_base.specs.declared.values.Pointer.{Pointer}
use Rattle.hs_base.specs.Access.{Refusal}
use Rattle.hs_base.specs.Object.{Object}
use Rattle.flat_objects.specs.Memory.{Memory}
use Rattle.flat_objects.specs.Answering.{Changes}
use Rattle.flat_objects.specs.Counting.{Frees, MayStore, StaysTracked}

pub still_storable : (old new : Memory) (to from : ℕ) (places : ℕ → ℕ) (objects : List Object) (frees : Frees) (p q : Pointer) (meant : Result (List Object) Refusal) (result : Result (Unit {0}) TrapKind) → MayStore old places objects frees p q to from
    → Changes places objects result old new meant → StaysTracked old new places objects meant → (after : List Object) × MayStore new places after frees p q to from
still_storable old new to from places objects frees p q meant (Ok u) may (after, is, changed) tracked =
    (after, record { at = record { keeps = changed.keeps; stands = changed.stand p to may.at.stands }; tracks = tracked after frees is may.tracks; stands = changed.stand q from may.stands })
still_storable old new to from places objects frees p q meant (Err kind) may (traps, same) tracked =
    (objects, subst (λ (m : Memory). MayStore m places objects frees p q to from) (sym same) may)
