-- The places of members by their names.
use Rattle.std.specs.Prelude.{◌≡◌, ℕ, suc, List, [], ◌∷◌, bytes_eq, cond, Option, Some, None, option_map}
use Rattle.indexmap.specs.IndexMap.{get_by}
use Rattle.c_types.specs.declared.bodies.Member.{Member}
use Rattle.c_types.specs.declared.member_list.MemberList.TheInside.{Inside}

-- the place of the first member of a name
abbrev pub place_of : List ℕ → List Member → Option ℕ
place_of name [] = None
place_of name (m ∷ rest) = cond (bytes_eq name m.name) (Some 0) (option_map suc (place_of name rest))

-- the place of each name is kept
abbrev pub HasPlaces : Inside → Type 0
HasPlaces s = (name : List ℕ) → get_by (λ k. bytes_eq name k.items) s.places ≡ place_of name s.list.items
