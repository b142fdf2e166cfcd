-- Bytes of names without a suffix.
use Rattle.std.specs.Prelude.{ℕ, Bool, not, ◌==◌}

-- a byte that is no dot
abbrev pub is_plain : ℕ → Bool
is_plain b = not (b == 46)
