-- What was printed, as the code has it.
use Rattle.std.proofs.Common.{◌≡◌, ℕ, Option, Some, None, length, map, pos, refl, ap, ◌∙◌, subst}
use Rattle.hs_base.specs.declared.ends.IntKind.TheVariants.{I32}
use Rattle.hs_base.specs.Access as access
use Rattle.hs_base.specs.Numbers.{wrapped}
use Rattle.hs_base.specs.State.{State}
use Rattle.hs_base.specs.Trace.{Out}
use Rattle.object_meaning.specs.objects.Values.{number}
use Rattle.object_meaning.specs.objects.Going.{goes, stops_after, ended_by, write}
use Rattle.object_meaning.specs.objects.Printing as meant
use Rattle.object_meaning.specs.objects.Printing.{print}
use Rattle.meaning_state.specs.declared.printing.Printed.{Printed}
use Rattle.meaning_state.specs.declared.refusal.Refusal.{Refusal}
use Rattle.meaning_state.specs.declared.refusal.Refusal.TheVariants as refusal
use Rattle.meaning_state.specs.Printing.{IsRefused, Prints}

pub printed_none : (p : Printed) (text : meant.Printed) → Prints p text → p.refused ≡ None → (line r : ℕ) (s : State) → print line r text.bytes text.refused s ≡ goes s (map Out p.bytes) (write s (Some r) (number (wrapped I32 (pos (length p.bytes)))))
printed_none p text is none line r s =
    let f : text.refused ≡ None = subst (λ (o : Option Refusal). IsRefused o text.refused) none is.refused in
    ap (λ (o : Option access.Refusal). print line r text.bytes o s) f ∙ ap (λ bs. print line r bs None s) is.bytes

cause : (e : Refusal) (o : Option access.Refusal) → IsRefused (Some e) o → (d : access.Refusal) × IsRefused (Some e) (Some d) × (o ≡ Some d)
cause (refusal.Trapped kind) o h = (access.Trapped kind, refl, h)
cause refusal.ReadsDead o h = (access.ReadsDead, refl, h)
cause refusal.NoMemory o h = absurd h

pub printed_some : (p : Printed) (text : meant.Printed) → Prints p text → (e : Refusal) → p.refused ≡ Some e → (line r : ℕ) (s : State) → (d : access.Refusal) × IsRefused (Some e) (Some d) × (print line r text.bytes text.refused s ≡ stops_after s (map Out p.bytes) s (ended_by line d))
printed_some p text is e some line r s =
    let h : IsRefused (Some e) text.refused = subst (λ (o : Option Refusal). IsRefused o text.refused) some is.refused in
    let c = cause e text.refused h in
    (c.0, c.1, ap (λ (o : Option access.Refusal). print line r text.bytes o s) c.2 ∙ ap (λ bs. print line r bs (Some c.0) s) is.bytes)
