-- What is left of a list of slots, part by part.
use Rattle.std.specs.Prelude.{◌≡◌, ◌==◌, ◌≤◌, ◌<◌, ◌+◌, ◌-◌, ◌*◌, ◌^◌, ℕ, zero, suc, List, [], ◌∷◌, ◌++◌, drop, find, length, All}
use Rattle.std.specs.List.{flat_map, range_with_len, AllByRecursion}
use Rattle.std.specs.Option.{option_map_or}
use Rattle.c_types.specs.declared.bodies.Member.{Member}
use Rattle.c_types.specs.declared.listing.Left.{Left}
use Rattle.c_types.specs.declared.listing.Left.TheVariants as left
use Rattle.c_types.specs.declared.listing.Listing.{Listing}
use Rattle.c_types.specs.Types.{PlainType, Void, Int, Pointer, Array, Struct, Union, Function, plain}
use Rattle.c_types.specs.Layouts.{Known, moved}
use Rattle.c_types.specs.TagTable.{TagTable, CompletedTag, layout_or}
use Rattle.c_types.specs.Bodies.{IsSized}
use Rattle.c_types.specs.Placing.{pairs_of}
use Rattle.c_types.specs.Slots.{first_known}

-- the slots of a type that stands at an offset
abbrev pub slots_at : Known → ℕ → PlainType → List ℕ
slots_at known offset type = moved offset (layout_or known type).slots

abbrev pub member_slots_at : Known → ℕ → Member → List ℕ
member_slots_at known offset m = slots_at known (offset + m.offset) (plain m.ty)

-- a list of slots with those of a part
abbrev pub listed : TagTable → Left → List ℕ → List ℕ
listed table (left.Type part) slots = slots ++ slots_at (first_known table part.first) part.offset (plain part.ty)
listed table (left.Members part) slots =
    slots ++ flat_map (member_slots_at (first_known table part.first) part.offset) part.members.now
listed table (left.Copies part) slots =
    slots ++ flat_map (λ k. moved (k * part.size) (drop part.start slots)) (range_with_len 1 (part.count - 1))

-- with those of all parts, the last part first
abbrev pub all_listed : TagTable → List Left → List ℕ → List ℕ
all_listed table [] slots = slots
all_listed table (part ∷ parts) slots = listed table part (all_listed table parts slots)

-- a type that ends within the greatest size
abbrev pub EndsInTime : Known → ℕ → PlainType → Type 0
EndsInTime known offset type = IsSized known type × (offset + (layout_or known type).size ≤ 268435456)

abbrev pub IsListable : TagTable → Left → List ℕ → Type 0
IsListable table (left.Type part) slots =
    EndsInTime (first_known table part.first) part.offset (plain part.ty)
    × (part.size ≡ (layout_or (first_known table part.first) (plain part.ty)).size)
IsListable table (left.Members part) slots =
    AllByRecursion (λ (m : Member). EndsInTime (first_known table part.first) (part.offset + m.offset) (plain m.ty)) part.members.now
IsListable table (left.Copies part) slots =
    (part.start ≤ length slots) × (0 < part.count) × (part.count * part.size < 2 ^ 32)
    × All (λ slot. slot + part.count * part.size < 2 ^ 32) (drop part.start slots)

abbrev pub AreListable : TagTable → List Left → List ℕ → Type 0
AreListable table [] slots = Unit {0}
AreListable table (part ∷ parts) slots = AreListable table parts slots × IsListable table part (all_listed table parts slots)

-- how many parts come of a type, where it is known of each tag
abbrev pub type_work : (ℕ → ℕ) → PlainType → ℕ
type_work work Void = 1
type_work work (Int int) = 1
type_work work (Pointer target) = 1
type_work work (Array element length) = type_work work element + 2
type_work work (Struct tag) = work tag + 1
type_work work (Union tag) = work tag + 1
type_work work (Function answer params) = 1

abbrev pub members_work : (ℕ → ℕ) → List (List ℕ × PlainType) → ℕ
members_work work [] = 1
members_work work (m ∷ ms) = type_work work m.1 + members_work work ms + 1

-- of a tag in which structs stand so deep
abbrev pub tag_work : List CompletedTag → ℕ → ℕ → ℕ
tag_work tags zero tag = 0
tag_work tags (suc deep) tag =
    option_map_or (λ (done : CompletedTag). members_work (tag_work tags deep) done.members) (find (λ (done : CompletedTag). done.tag == tag) tags) 0

abbrev pub work_of : TagTable → Left → ℕ
work_of table (left.Type part) = type_work (tag_work table.completed part.first) (plain part.ty)
work_of table (left.Members part) = members_work (tag_work table.completed part.first) (pairs_of part.members.now)
work_of table (left.Copies part) = 1

abbrev pub work : TagTable → List Left → ℕ
work table [] = 0
work table (part ∷ parts) = work_of table part + work table parts

-- a part, and then those that are left
abbrev pub CanList : TagTable → Left → Listing → Type 0
CanList table next old =
    IsListable table next old.slots.items × AreListable table old.left.items (listed table next old.slots.items)

-- the slots of a part are listed, or smaller parts are left in its place
pub record IsListed (table : TagTable) (next : Left) (old new : Listing) : Type 0 where
  pub listable : AreListable table new.left.items new.slots.items
  pub all : all_listed table new.left.items new.slots.items ≡ all_listed table old.left.items (listed table next old.slots.items)
  pub less : work table new.left.items < work table old.left.items + work_of table next
