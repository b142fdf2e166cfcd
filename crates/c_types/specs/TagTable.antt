-- Tags in the order of making, and the completed ones in the order of completion.
use Rattle.std.specs.Prelude.{◌≡◌, ◌==◌, ◌<◌, ◌&&◌, ℕ, Bool, false, not, cond, List, [], ◌∷◌, ◌++◌, map, fold, find, zip, nat_lt, slice_get, unwrap_or, Option, Some, None, Result, Ok, Err, option_map, IsSome}
use Rattle.std.specs.Option.{option_map_or, option_or}
use Rattle.c_types.specs.declared.layouts.Layout.{Layout}
use Rattle.c_types.specs.declared.tags.TagInfo.{TagInfo}
use Rattle.c_types.specs.declared.tags.TagError.{TagError}
use Rattle.c_types.specs.declared.tags.TagError.TheVariants.{PointerInUnion, TooLarge}
use Rattle.c_types.specs.declared.bodies.Member.{Member}
use Rattle.c_types.specs.Types.{PlainType, plain}
use Rattle.c_types.specs.declared.types.CType.{CType}
use Rattle.c_types.specs.Layouts.{Known, ArraysFit, no_layout, layout_of, placed, members_layout, keeps_union_rule}

-- a tag with its members, each a name and a type
pub record CompletedTag : Type 0 where
  pub tag : ℕ
  pub is_union : Bool
  pub members : List (List ℕ × PlainType)

pub record TagTable : Type 0 where
  pub made : List TagInfo
  pub completed : List CompletedTag

abbrev pub no_tags : TagTable
no_tags = record { made = []; completed = [] }

-- one more tag, which is incomplete
abbrev pub with_tag : TagTable → Bool → List ℕ → TagTable
with_tag table is_union name =
    record { made = table.made ++ (record { is_union = is_union; name = name }) ∷ []; completed = table.completed }

-- a member with its offset
pub record PlainMember : Type 0 where
  pub name : List ℕ
  pub type : PlainType
  pub offset : ℕ

abbrev pub layout_or : Known → PlainType → Layout
layout_or known type = unwrap_or (layout_of known type) no_layout

-- the layout of a member; each member of a completed tag has one
abbrev pub member_layout : Known → List ℕ × PlainType → Layout
member_layout known m = layout_or known m.1

abbrev pub tag_layout : Known → CompletedTag → Layout
tag_layout known new = members_layout new.is_union (map (member_layout known) new.members)

-- what was known stays, and the new tag has the layout of its members
abbrev pub learn : Known → CompletedTag → Known
learn known new = λ tag. option_or (known tag) (cond (new.tag == tag) (Some (tag_layout known new)) None)

-- the layouts of completed tags, each by those before it
abbrev pub known : List CompletedTag → Known
known tags = fold learn (λ tag. None) tags

abbrev pub layout_in : TagTable → PlainType → Option Layout
layout_in table type = layout_of (known table.completed) type

abbrev pub size_in : TagTable → PlainType → Option ℕ
size_in table type = option_map (λ l. l.size) (layout_in table type)

abbrev pub align_in : TagTable → PlainType → Option ℕ
align_in table type = option_map (λ l. l.align) (layout_in table type)

abbrev pub placed_members : Known → CompletedTag → List PlainMember
placed_members known tag =
    map (λ p. record { name = p.0.0; type = p.0.1; offset = p.1.0 })
    (zip tag.members (placed tag.is_union (map (member_layout known) tag.members)).members)

abbrev pub IsIncomplete : TagTable → ℕ → Type 0
IsIncomplete table tag = known table.completed tag ≡ None

-- a type with a size, inside which no array is too large
abbrev pub IsSizedIn : TagTable → PlainType → Type 0
IsSizedIn table type = IsSome (layout_in table type) × ArraysFit (known table.completed) type

abbrev pub plain_pair : List ℕ × CType → List ℕ × PlainType
plain_pair m = (m.0, plain m.1)

-- the members of a completed tag with their offsets
abbrev pub members_in : TagTable → ℕ → Option (List PlainMember)
members_in table tag =
    option_map (placed_members (known table.completed)) (find (λ (done : CompletedTag). done.tag == tag) table.completed)

abbrev pub plain_member : Member → PlainMember
plain_member m = record { name = m.name; type = plain m.ty; offset = m.offset }

abbrev pub new_tag : ℕ → Bool → List (List ℕ × CType) → CompletedTag
new_tag tag is_union members = record { tag = tag; is_union = is_union; members = map plain_pair members }

-- a struct that is too large is refused as such
pub record IsTooLarge (table : TagTable) (new : CompletedTag) (given : TagError) : Type 0 where
  pub is_struct : new.is_union ≡ false
  pub size : 268435456 < (tag_layout (known table.completed) new).size
  pub error : given ≡ TooLarge

-- why a tag is not completed with these members
abbrev pub refusal : Known → CompletedTag → Option TagError
refusal known new =
    cond (new.is_union && not (keeps_union_rule (map (member_layout known) new.members))) (Some PointerInUnion)
    (cond (nat_lt 268435456 (tag_layout known new).size) (Some TooLarge) None)

abbrev pub with_completed : TagTable → CompletedTag → TagTable
with_completed table new = record { made = table.made; completed = table.completed ++ new ∷ [] }

abbrev pub completed_by : TagTable → CompletedTag → Option TagError → Result TagTable TagError
completed_by table new (Some error) = Err error
completed_by table new None = Ok (with_completed table new)

-- the tag with its members, added to a table
abbrev pub completion : TagTable → ℕ → List (List ℕ × PlainType) → Result TagTable TagError
completion table tag members =
    let new : CompletedTag = record { tag = tag; is_union = option_map_or (λ (i : TagInfo). i.is_union) (slice_get table.made tag) false; members = members } in
    completed_by table new (refusal (known table.completed) new)
