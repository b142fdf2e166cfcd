-- How the code keeps names: the entries of its logs and tables as the declarations and names of the definitions.
use Rattle.std.specs.Prelude.{◌≡◌, ◌-◌, ℕ, if◌then◌else◌, bytes_eq, drop, length, map, unwrap_or, List, [], ◌∷◌, Vec}
use Rattle.std.specs.HashMap.{HashMap, get_by}
use Rattle.c_units.specs.declared.names.Binding.{Binding}
use Rattle.c_units.specs.declared.names.Binding.TheVariants.{Shared}
use Rattle.c_units.specs.declared.names.Entry.{Entry}
use Rattle.c_units.specs.declared.walk.Outer.{Outer}
use Rattle.c_units.specs.Names.{Known, Names, binding_of}

-- the texts of some keys
abbrev pub texts_of : {G : Type 0} → List (Vec ℕ G) → List (List ℕ)
texts_of keys = map (λ key. key.items) keys

abbrev pub entry_known : Entry → Known
entry_known entry = record { name = entry.name.items; binding = entry.binding }

-- the declarations of some entries, in their order
abbrev pub entries_known : List Entry → List Known
entries_known entries = map entry_known entries

-- each entry, the latest first, tells what its name was bound to before it
abbrev pub TellBefore : List Entry → Type 0
TellBefore [] = Unit {0}
TellBefore (entry ∷ rest) = (entry.before ≡ binding_of (entries_known rest) entry.name.items) × TellBefore rest

-- what a table binds a name to
abbrev pub bound_in : {G S : Type 0} → HashMap (Vec ℕ G) Binding S → List ℕ → Binding
bound_in table name = unwrap_or (get_by (λ key. bytes_eq name key.items) table) Shared

-- a table binds one name anew, and no other
abbrev pub Binds : {G S : Type 0} → List ℕ → Binding → HashMap (Vec ℕ G) Binding S → HashMap (Vec ℕ G) Binding S → Type 0
Binds name binding old new =
    (other : List ℕ) → bound_in new other ≡ (if bytes_eq name other then binding else bound_in old other)

-- a table binds names as declarations do
abbrev pub AreBound : {G S : Type 0} → HashMap (Vec ℕ G) Binding S → List Known → Type 0
AreBound table known = (name : List ℕ) → bound_in table name ≡ binding_of known name

-- without the latest declaration
abbrev pub without_latest : List Known → List Known
without_latest [] = []
without_latest (first ∷ rest) = rest

-- the oldest so many declarations
abbrev pub oldest : ℕ → List Known → List Known
oldest count known = drop (length known - count) known

-- what is known where a scope ends that began with so many declarations
abbrev pub back_to : Outer → Names → Names
back_to outer s = record s { known = oldest outer.count s.known; inside = outer.inside }
