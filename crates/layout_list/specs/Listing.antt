-- The text that lists the completed structs and unions of a text.
use Rattle.std.specs.Prelude.{ℕ, Bool, List, [], ◌++◌, cond, map, length, nat_eq, slice_get, codes, decimal}
use Rattle.std.specs.List.{flat_map}
use Rattle.std.specs.Option.{option_map_or}
use Rattle.c_types.specs.declared.layouts.Layout.{Layout}
use Rattle.c_types.specs.declared.tags.TagInfo.{TagInfo}
use Rattle.c_types.specs.Types.{PlainType, Struct, Union}
use Rattle.c_types.specs.TagTable.{TagTable, layout_in}

-- `struct` or `union`
abbrev pub kind_word : Bool → List ℕ
kind_word is_union = cond is_union (codes "union") (codes "struct")

-- a tag's name, and `-` where it has none
abbrev pub tag_word : List ℕ → List ℕ
tag_word name = cond (nat_eq (length name) 0) (codes "-") name

-- offsets, each behind a space
abbrev pub offsets : List ℕ → List ℕ
offsets slots = flat_map (λ slot. codes " " ++ decimal slot) slots

-- what it is and what it is called
abbrev pub head : TagInfo → List ℕ
head info = kind_word info.is_union ++ (codes " " ++ tag_word info.name)

-- its size and its alignment in bytes
abbrev pub measures : Layout → List ℕ
measures layout = (codes " size " ++ decimal layout.size) ++ (codes " align " ++ decimal layout.align)

-- the offset of each pointer in it
abbrev pub slots_part : List ℕ → List ℕ
slots_part slots = codes " slots" ++ (offsets slots ++ codes "\n")

-- `struct TAG size S align A slots ..`
abbrev pub layout_line : TagInfo → Layout → List ℕ
layout_line info layout = head info ++ (measures layout ++ slots_part layout.slots)

-- the type of a tag with this number
abbrev pub tag_type : TagInfo → ℕ → PlainType
tag_type info tag = cond info.is_union (Union tag) (Struct tag)

-- the line of a tag; each completed one has a layout
abbrev pub known_line : TagTable → ℕ → TagInfo → List ℕ
known_line table tag info = option_map_or (layout_line info) (layout_in table (tag_type info tag)) []

abbrev pub tag_line : TagTable → ℕ → List ℕ
tag_line table tag = option_map_or (known_line table tag) (slice_get table.made tag) []

-- the lines of all completed tags, in the order of completion
abbrev pub layout_listing : TagTable → List ℕ
layout_listing table = flat_map (tag_line table) (map (λ done. done.tag) table.completed)
