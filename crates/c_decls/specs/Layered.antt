-- Types by a part of them.
use Rattle.std.specs.Prelude.{◌≡◌, ◌*◌, ℕ, option_map}
use Rattle.c_types.specs.Types.{PlainType}
use Rattle.c_types.specs.TagTable.{TagTable, size_in}

-- the whole has so many times the size of the part, and none where the part has none
abbrev pub IsSoOften : TagTable → ℕ → PlainType → PlainType → Type 0
IsSoOften tags count part whole = size_in tags whole ≡ option_map (λ size. size * count) (size_in tags part)
