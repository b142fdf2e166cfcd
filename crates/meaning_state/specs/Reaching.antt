-- Where an access comes to.
use Rattle.std.specs.Prelude.{◌≡◌, ◌+◌, ◌^◌, ◌<◌, ◌≤◌, ◌<ℤ◌, ◌⊎◌, ℤ, pos, neg_ℤ, ℕ, List, length, Result, Ok, Err}
use Rattle.std.specs.List.{list_any}
use Rattle.hs_base.specs.declared.values.Pointer.TheVariants as pointer
use Rattle.hs_base.specs.Access as access
use Rattle.hs_base.specs.Access.{ReadsDead, and_then, if_so, copy_between}
use Rattle.object_meaning.specs.objects.Values.{is_stale}
use Rattle.object_meaning.specs.objects.Memory.{pointers_in_range}
use Rattle.hs_base.specs.Object.{Object, object_at}
use Rattle.meaning_state.specs.declared.object.Place.{Place}
use Rattle.meaning_state.specs.declared.refusal.Refusal.{Refusal}
use Rattle.meaning_state.specs.Refusing.{Refuses}

-- a place as the definition has it
abbrev pub place_of : Place → access.Place
place_of at = record { birth = at.birth; offset = at.offset }

-- the code comes to the place of the definition
abbrev pub Reaches : Result Place Refusal → Result access.Place access.Refusal → Type 0
Reaches (Ok at) meant = meant ≡ Ok (place_of at)
Reaches (Err e) meant = Refuses e meant

-- so many bytes from a place on are inside its object
abbrev pub IsInside : List Object → Place → ℕ → Type 0
IsInside objects at n = (at.birth < length objects) × (at.offset + n ≤ (object_at objects at.birth).size)

-- a copy between two places, which reads the pointers within the source
abbrev pub copied_between : List Object → ℕ → access.Place → access.Place → Result (List Object) access.Refusal
copied_between objects n to from =
    and_then (copy_between objects n to from) (λ new. if_so (list_any (is_stale objects) (pointers_in_range objects (pointer.At from.birth from.offset) n)) ReadsDead (Ok new))

-- a distance that is far beyond any object, whose size is below 2 to the 32
abbrev pub IsFar : ℤ → Type 0
IsFar d = (d <ℤ neg_ℤ (pos (2 ^ 64))) ⊎ (pos (2 ^ 64) <ℤ d)
