-- An object that is not dead is there. Proved from `Good`.
use Rattle.std.proofs.Common.{◌<◌, ℕ, List, length, sym, ap, ◌∙◌, ⊎_elim}
use Rattle.std.proofs.lemmas.Bool.{cases_lt, true≢false}
use Rattle.std.proofs.lemmas.List.{get_or_past}
use Rattle.hs_base.specs.Object.{Object, is_dead, no_object}
use Rattle.meaning_laws.specs.objects.Good.{Alive}

pub is_within : (objects : List Object) (b : ℕ) → Alive objects b → b < length objects
is_within objects b h =
    ⊎_elim
    (λ lt. lt)
    (λ le. absurd (true≢false (ap (λ (o : Object). is_dead o.standing) (sym (get_or_past objects b no_object le)) ∙ h)))
    (cases_lt b (length objects))
