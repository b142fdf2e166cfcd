-- What the code prints.
use Rattle.std.proofs.Common.{◌≡◌, ℕ, List, Option, sym, ap, ◌∙◌}
use Rattle.hs_base.specs.Access.{Refusal}
use Rattle.object_meaning.specs.objects.Printing.{Printed}
use Rattle.meaning_state.specs.declared.printing.Printed as code
use Rattle.meaning_state.specs.declared.refusal.Refusal as declared
use Rattle.meaning_state.specs.Printing.{IsRefused, Prints}

-- the code has these bytes and this cause
pub prints_is : (p : code.Printed) (q : Printed) (text : List ℕ) (r : Option Refusal) (e : Option declared.Refusal) → q ≡ record { bytes = text; refused = r } → p.bytes ≡ text → p.refused ≡ e → IsRefused e r → Prints p q
prints_is p q text r e is same cause h = record {
  bytes = ap (λ (x : Printed). x.bytes) is ∙ sym same;
  refused = rw (cause, ap (λ (x : Printed). x.refused) is) h;
}
