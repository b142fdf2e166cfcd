-- What a program leaves on the heap, by lines of birth.
use Rattle.std.specs.Prelude.{◌≡◌, ℕ, List, [], ◌∷◌, Some, None}
use Rattle.hs_base.specs.Object.{Object}
use Rattle.hs_base.specs.declared.ends.Leak.{Leak}
use Rattle.flat_objects.specs.Leaks.{leak_after}

-- the leaks of the lines above one, with ascending lines
abbrev pub AreLeaks : List Object → ℕ → List Leak → Type 0
AreLeaks objects above [] = leak_after above objects ≡ None
AreLeaks objects above (leak ∷ more) = (leak_after above objects ≡ Some leak) × AreLeaks objects leak.line more
