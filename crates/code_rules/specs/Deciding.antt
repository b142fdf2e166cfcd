-- What tests of code say.
use Rattle.std.specs.Prelude.{◌↔◌, Bool, IfOk, IsTrue, Result}

-- a test that did not fail says whether a fact holds
abbrev pub Decides : {E : Type 0} → Type 0 → Result Bool E → Type 0
Decides P result = IfOk result (λ b. IsTrue b ↔ P)
