-- Lists that are filled up with one item.
use Rattle.std.specs.Prelude.{ℕ, ◌-◌, List, ◌++◌, length, replicate}

-- so many items, of which the first are given and the others are all one
unfoldable pub filled_up : {A : Type 0} → List A → ℕ → A → List A
filled_up first size item = first ++ replicate (size - length first) item
