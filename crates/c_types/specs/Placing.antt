-- Members while they are placed one after another.
use Rattle.std.specs.Prelude.{◌≡◌, ◌≤◌, ◌<◌, ℕ, Bool, false, List, map}
use Rattle.std.specs.List.{AllByRecursion}
use Rattle.c_types.specs.declared.bodies.Placing.{Placing}
use Rattle.c_types.specs.declared.bodies.Member.{Member}
use Rattle.c_types.specs.declared.tags.TagError.{TagError}
use Rattle.c_types.specs.declared.tags.TagError.TheVariants.{TooLarge}
use Rattle.c_types.specs.Types.{PlainType, plain}
use Rattle.c_types.specs.Layouts.{IsAlignment, Known, Placed, placed}
use Rattle.c_types.specs.TagTable.{member_layout}
use Rattle.c_types.specs.Bodies.{IsSized}

abbrev pub pairs_of : List Member → List (List ℕ × PlainType)
pairs_of members = map (λ (m : Member). (m.name, plain m.ty)) members

abbrev pub pairs : Placing → List (List ℕ × PlainType)
pairs p = pairs_of p.members.items

abbrev pub placed_by : Known → Bool → List (List ℕ × PlainType) → Placed
placed_by known is_union members = placed is_union (map (member_layout known) members)

-- each number is the definition's, and the end is not past the limit
pub record IsPlacedSoFar (known : Known) (is_union : Bool) (p : Placing) : Type 0 where
  pub sized : AllByRecursion (λ (m : Member). IsSized known (plain m.ty)) p.members.items
  pub offsets : map (λ (m : Member). m.offset) p.members.items ≡ map (λ q. q.0) (placed_by known is_union (pairs p)).members
  pub end : p.end ≡ (placed_by known is_union (pairs p)).end
  pub align : p.align ≡ (placed_by known is_union (pairs p)).align
  pub aligned : IsAlignment p.align
  pub limit : p.end ≤ 268435456

pub record IsPastLimit (known : Known) (is_union : Bool) (members : List (List ℕ × PlainType)) (given : TagError) : Type 0 where
  pub is_struct : is_union ≡ false
  pub end : 268435456 < (placed_by known is_union members).end
  pub error : given ≡ TooLarge
