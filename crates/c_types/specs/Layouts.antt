-- Size, alignment and pointer slots of a type (C99 6.2.5, 6.7.2.1).
use Rattle.std.specs.Prelude.{◌≡◌, ◌==◌, ◌≤◌, ◌+◌, ◌*◌, ◌%◌, ◌||◌, ◌⊎◌, ℕ, Bool, true, false, List, [], ◌∷◌, ◌++◌, map, fold, filter, max, nat_le, Option, Some, None, option_map, IfSome}
use Rattle.std.specs.List.{flat_map, range_with_len, list_any, list_all}
use Rattle.std.specs.Int.{next_multiple_of}
use Rattle.c_types.specs.declared.layouts.Layout.{Layout}
use Rattle.c_types.specs.Types.{PlainType, Void, Int, Pointer, Array, Struct, Union, Function, width_of}

-- the layout of each tag that has one
abbrev pub Known : Type 0
Known = ℕ → Option Layout

abbrev pub number_layout : ℕ → Layout
number_layout width = record { size = width; align = width; slots = [] }

abbrev pub pointer_layout : Layout
pointer_layout = record { size = 4; align = 4; slots = 0 ∷ [] }

-- the layout of nothing
abbrev pub no_layout : Layout
no_layout = record { size = 0; align = 1; slots = [] }

-- slots that are moved up
abbrev pub moved : ℕ → List ℕ → List ℕ
moved by slots = map (λ slot. by + slot) slots

-- elements side by side
abbrev pub array_layout : ℕ → Layout → Layout
array_layout length element = record {
  size = length * element.size;
  align = element.align;
  slots = flat_map (λ k. moved (k * element.size) element.slots) (range_with_len 0 length);
}

-- a type without a layout is incomplete, void or a function
abbrev pub layout_of : Known → PlainType → Option Layout
layout_of known Void = None
layout_of known (Int int) = Some (number_layout (width_of int))
layout_of known (Pointer target) = Some pointer_layout
layout_of known (Array element length) = option_map (array_layout length) (layout_of known element)
layout_of known (Struct tag) = known tag
layout_of known (Union tag) = known tag
layout_of known (Function answer params) = None

-- no array inside the type is larger than an object may be
abbrev pub ArraysFit : Known → PlainType → Type 0
ArraysFit known Void = Unit {0}
ArraysFit known (Int int) = Unit {0}
ArraysFit known (Pointer target) = Unit {0}
ArraysFit known (Array element length) =
    ArraysFit known element × IfSome (layout_of known element) (λ l. length * l.size ≤ 268435456)
ArraysFit known (Struct tag) = Unit {0}
ArraysFit known (Union tag) = Unit {0}
ArraysFit known (Function answer params) = Unit {0}

-- members with their offsets, where they end, and their greatest alignment
pub record Placed : Type 0 where
  pub end : ℕ
  pub align : ℕ
  pub members : List (ℕ × Layout)

abbrev pub none_placed : Placed
none_placed = record { end = 0; align = 1; members = [] }

-- a union's member stands at 0, a struct's at the lowest offset after the member before it that its alignment divides
abbrev pub offset_after : Bool → Placed → Layout → ℕ
offset_after true before member = 0
offset_after false before member = next_multiple_of before.end member.align

abbrev pub place : Bool → Placed → Layout → Placed
place is_union before member =
    let offset = offset_after is_union before member in
    record {
      end = max before.end (offset + member.size);
      align = max before.align member.align;
      members = before.members ++ (offset, member) ∷ [];
    }

abbrev pub placed : Bool → List Layout → Placed
placed is_union members = fold (place is_union) none_placed members

abbrev pub has_slot : ℕ → Layout → Bool
has_slot offset layout = list_any (λ slot. slot == offset) layout.slots

-- a struct has the slots of its members, a union each offset once at which some member has a slot
abbrev pub member_slots : Bool → Placed → ℕ → List ℕ
member_slots true all size = filter (λ offset. list_any (λ m. has_slot offset m.1) all.members) (range_with_len 0 size)
member_slots false all size = flat_map (λ m. moved m.0 m.1.slots) all.members

-- the layout of a struct or a union with these members: its size is rounded up to its alignment
abbrev pub members_layout : Bool → List Layout → Layout
members_layout is_union members =
    let all = placed is_union members in
    let size = next_multiple_of all.end all.align in
    record { size = size; align = all.align; slots = member_slots is_union all size }

-- for each slot of each member, each member ends at or before it or has a slot at the same offset
abbrev pub keeps_union_rule : List Layout → Bool
keeps_union_rule members =
    list_all (λ m. list_all (λ slot. list_all (λ other. nat_le other.size slot || has_slot slot other) members) m.slots) members

-- a number of bytes that divides the addresses of a type
abbrev pub IsAlignment : ℕ → Type 0
IsAlignment n = (n ≡ 1) ⊎ (n ≡ 2) ⊎ (n ≡ 4) ⊎ (n ≡ 8)

-- ascending multiples of 4, none below low, each of which ends at or before high
abbrev pub AreSlots : ℕ → ℕ → List ℕ → Type 0
AreSlots low high [] = Unit {0}
AreSlots low high (slot ∷ slots) = (low ≤ slot) × (slot + 4 ≤ high) × (slot % 4 ≡ 0) × AreSlots (slot + 4) high slots

-- what holds of each layout of a type
pub record IsSound (l : Layout) : Type 0 where
  pub aligned : IsAlignment l.align
  pub whole : l.size % l.align ≡ 0
  pub slots : AreSlots 0 l.size l.slots
  pub pointers : (l.slots ≡ []) ⊎ (l.align % 4 ≡ 0)
