-- What a sink has taken after several writes. Equations, proved from `PutsAll`.
use Rattle.std.proofs.Common.{◌≡◌, ℕ, List, [], ◌++◌, Option, Some, Result, Ok, Err, IsErr, sym, ap, ◌∙◌, append_assoc, append-nil}
use Rattle.std.proofs.lemmas.Bool.{false≢true}
use Rattle.hs_base.specs.declared.outside.Failed.{Failed}
use Rattle.hs_base.specs.PutAll.{PutsAll}

-- these bytes were taken, where that is told
abbrev pub Took : Option (List ℕ) → Option (List ℕ) → List ℕ → Type 0
Took before after bytes = (taken : List ℕ) → before ≡ Some taken → after ≡ Some (taken ++ bytes)

pub took_none : (before : Option (List ℕ)) → Took before before []
took_none before taken told = told ∙ ap Some (sym (append-nil taken))

pub took_then : (before between after : Option (List ℕ)) (x y : List ℕ) → Took before between x → Took between after y →
    Took before after (x ++ y)
took_then before between after x y first second taken told =
    second (taken ++ x) (first taken told) ∙ ap Some (append_assoc taken x y)

-- a failure leaves what was taken before it and a part of its bytes
pub broke : (T U : Type 0) (before between after : Option (List ℕ)) (x y z whole : List ℕ) (e : Failed) (result : Result U Failed) →
    IsErr result → Took before between x → PutsAll {T = T} between after y (Err e) → x ++ (y ++ z) ≡ whole → PutsAll before after whole result
broke T U before between after x y z whole e (Ok value) is_err first second parts = absurd (false≢true is_err)
broke T U before between after x y z whole e (Err f) is_err first second parts = λ taken told.
    let last = second (taken ++ x) (first taken told) in (
      x ++ last.0,
      last.1 ++ z,
      append_assoc x last.0 (last.1 ++ z) ∙ ap (λ l. x ++ l) (sym (append_assoc last.0 last.1 z) ∙ ap (λ l. l ++ z) last.2) ∙ parts,
      last.3 ∙ ap Some (append_assoc taken x last.0),
    )
