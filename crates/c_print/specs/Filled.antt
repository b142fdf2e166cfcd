-- A field, part by part.
use Rattle.std.specs.Prelude.{ℕ, List, ◌++◌, replicate}

-- spaces, a sign, zeros, a text and spaces
abbrev pub filled : ℕ → ℕ → ℕ → List ℕ → List ℕ → List ℕ
filled before zeros after sign text =
    replicate before 32 ++ (sign ++ (replicate zeros 48 ++ (text ++ replicate after 32)))
