-- Ranges of bytes in objects whose elements are in hand.
use Rattle.std.specs.Prelude.{◌+◌, ◌/◌, ◌<◌, ◌&&◌, ℕ, Bool, nat_lt, min, List, All, length, Result}
use Rattle.std.specs.List.{list_any}
use Rattle.hs_base.specs.declared.ends.TrapKind.{TrapKind}
use Rattle.hs_base.specs.declared.values.Pointer.{Pointer}
use Rattle.hs_base.specs.Access.{copy, set_bytes, cuts_slot, overlaid}
use Rattle.hs_base.specs.Object.{Object}
use Rattle.byte_memory.specs.Bytes.{part}
use Rattle.adjusters.specs.ObjectSlots.{Element, object_slots}
use Rattle.count_table.specs.Table.{Table}
use Rattle.typed_copies.specs.declared.Ranged.{Ranged}
use Rattle.typed_copies.specs.declared.slots.Within.{Within}
use Rattle.typed_copies.specs.Slots.{AtSameDistances, Correspond, slots_agree, slots_allow}
use Rattle.typed_copies.specs.Pointers.{ArePointers, Follow, HaveRoom, words_in}
use Rattle.typed_copies.specs.Copying.{Answers, IsCleared, IsCopied, IsRangeIn, slots_of}

-- Slots

-- an edge of a range lies inside a slot
abbrev pub is_inside_slot : ℕ → List ℕ → Bool
is_inside_slot edge slots = list_any (λ s. nat_lt s edge && nat_lt edge (s + 4)) slots

-- n bytes of a range cut a slot; those of two ranges have slots that agree; and those of a range may be set to a byte
abbrev pub range_cuts : Element → Ranged → ℕ → Bool
range_cuts form range n = cuts_slot (object_slots form range.size) range.offset n

abbrev pub ranges_agree : Element → Ranged → Element → Ranged → ℕ → Bool
ranges_agree d_form dst s_form src n =
    slots_agree (object_slots d_form dst.size) dst.offset (object_slots s_form src.size) src.offset n

abbrev pub range_allows : Element → Ranged → ℕ → ℕ → Bool
range_allows form range byte n = slots_allow (object_slots form range.size) range.offset byte n

-- as many slots of one range as of another, at the same distances
abbrev pub RangesMatch : Element → Ranged → Within → Element → Ranged → Within → Type 0
RangesMatch d_form dst into s_form src out =
    AtSameDistances (object_slots d_form dst.size) dst.offset into (object_slots s_form src.size) src.offset out

abbrev pub RangesCorrespond : Element → Ranged → Element → Ranged → ℕ → Within → Type 0
RangesCorrespond d_form dst s_form src n into =
    Correspond (object_slots d_form dst.size) dst.offset (object_slots s_form src.size) src.offset n into

-- Words

-- the words in some slots of the object of a range
abbrev pub range_words : Element → List ℕ → Ranged → Within → List ℕ
range_words form bytes range within = words_in bytes range.start (object_slots form range.size) within

-- the bytes once n of them, from an address on, were moved to a range
abbrev pub moved_to : List ℕ → Ranged → ℕ → ℕ → List ℕ
moved_to bytes dst from n = overlaid bytes (dst.start + dst.offset) (part bytes from n)

-- the words that come by such a move are pointers, and the counts have room for them
abbrev pub MovesPointers : Element → List ℕ → Table → Ranged → Within → ℕ → ℕ → Type 0
MovesPointers form bytes counts dst into from n =
    ArePointers bytes counts (range_words form (moved_to bytes dst from n) dst into)

abbrev pub HasRoomToMove : Element → List ℕ → Table → Ranged → Within → ℕ → ℕ → Type 0
HasRoomToMove form bytes counts dst into from n =
    HaveRoom counts (range_words form bytes dst into) (range_words form (moved_to bytes dst from n) dst into)

-- the counts follow the words in some slots of a range, whose bytes have changed
abbrev pub FollowRange : Element → Ranged → Within → List ℕ → List ℕ → Table → Table → Type 0
FollowRange form dst into old new before after =
    Follow before after (range_words form old dst into) (range_words form new dst into)

-- the counts have one for the granule of each of these words
abbrev pub HasGranules : Table → List ℕ → Type 0
HasGranules counts words = All (λ w. w / 16 < length counts.counts) words

-- Answers

-- a copy of n bytes, and a set of n bytes, answer what they do for all objects that have the ranges
abbrev pub AnswersCopy : List Element → Ranged → Ranged → ℕ → Result Unit TrapKind → Type 0
AnswersCopy forms dst src n result =
    (objects : List Object) (p q : Pointer) → IsRangeIn forms objects p dst → IsRangeIn forms objects q src →
    Answers result (copy objects p q n)

abbrev pub AnswersSet : List Element → Ranged → ℕ → ℕ → Result Unit TrapKind → Type 0
AnswersSet forms dst byte n result =
    (objects : List Object) (p : Pointer) → IsRangeIn forms objects p dst → Answers result (set_bytes objects p byte n)

-- n bytes were copied from one range to another, and n bytes of a range were set
abbrev pub Copies : List Element → Ranged → Ranged → ℕ → List ℕ → List ℕ → Table → Table → Type 0
Copies forms dst src n old new before after =
    IsCopied (slots_of forms dst) (slots_of forms src) dst src n old new before after

abbrev pub Clears : List Element → Ranged → ℕ → ℕ → List ℕ → List ℕ → Table → Table → Type 0
Clears forms dst byte n old new before after = IsCleared (slots_of forms dst) dst byte n old new before after

-- as many bytes as both objects have, from their start on
abbrev pub common : Ranged → Ranged → ℕ
common dst src = min src.size dst.size
