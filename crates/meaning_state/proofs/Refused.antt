-- A refusal that is passed on.
use Rattle.std.proofs.Common.{◌≡◌, Result, Err}
use Rattle.hs_base.specs.Access as access
use Rattle.meaning_state.specs.declared.refusal.Refusal.{Refusal}
use Rattle.meaning_state.specs.declared.refusal.Refusal.TheVariants.{Trapped, ReadsDead, NoMemory}
use Rattle.meaning_state.specs.Refusing.{Refuses}

pub passed_on : {A B : Type 0} (e : Refusal) (r : Result A access.Refusal) (s : Result B access.Refusal) → ((d : access.Refusal) → r ≡ Err d → s ≡ Err d) → Refuses e r → Refuses e s
passed_on (Trapped kind) r s h is = h (access.Trapped kind) is
passed_on ReadsDead r s h is = h access.ReadsDead is
passed_on NoMemory r s h is = tt
