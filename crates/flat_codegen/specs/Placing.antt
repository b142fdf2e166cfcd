-- The places of a function's points as the code has them.
use Rattle.std.specs.Prelude.{ℕ, List, slice_get, unwrap_or, ◌≡◌}
use Rattle.flat_codegen.specs.declared.places.Places.{Places}
use Rattle.core_tree.specs.declared.statements.Stm.{Stm}
use Rattle.flat_codegen.specs.Emitting.{place_from}

-- the place of a point, and the end for one that is not there
abbrev pub place_at : List ℕ → ℕ → ℕ → ℕ
place_at points end point = unwrap_or (slice_get points point) end

abbrev pub place_in : Places → ℕ → ℕ
place_in places point = place_at places.points.items places.end point

-- these are the places of the points of a body that begins at an instruction
abbrev pub ArePlaces : ℕ → List Stm → Places → Type 0
ArePlaces first body places = (point : ℕ) → place_in places point ≡ place_from first body point
