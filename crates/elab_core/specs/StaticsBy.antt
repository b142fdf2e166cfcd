-- Pointers of initializers, by the number of variables.
use Rattle.std.specs.Prelude.{ℕ}
use Rattle.elaboration.specs.Resolving.{static_by}

abbrev pub pointer_by : ℕ → ℕ × ℕ × ℕ → ℕ × ℕ × ℕ
pointer_by variables p = (p.0, static_by variables p.1, p.2)
