-- What a sink has taken after a whole list of bytes was to be written to it, where that is told.
use Rattle.std.specs.Prelude.{◌≡◌, ℕ, List, ◌++◌, Option, Some, Result, Ok, Err}
use Rattle.hs_base.specs.declared.outside.Failed.{Failed}

-- all of the bytes, or after a failure a prefix of them
abbrev pub PutsAll : {T : Type 0} → Option (List ℕ) → Option (List ℕ) → List ℕ → Result T Failed → Type 0
PutsAll before after bytes (Ok value) = (taken : List ℕ) → before ≡ Some taken → after ≡ Some (taken ++ bytes)
PutsAll before after bytes (Err e) =
    (taken : List ℕ) → before ≡ Some taken →
    (put : List ℕ) × (rest : List ℕ) × (put ++ rest ≡ bytes) × (after ≡ Some (taken ++ put))
