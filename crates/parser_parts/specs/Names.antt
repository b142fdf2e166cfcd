-- The names that the code keeps as the declarations of a scope.
use Rattle.std.specs.Prelude.{◌≡◌, ◌-◌, ℕ, Bool, if◌then◌else◌, List, [], ◌∷◌, bytes_eq, drop, length, map, reverse, Option, Some, None}
use Rattle.std.specs.Borrow.{Bor}
use Rattle.std.specs.HashSet.{HashSet, contains_by}
use Rattle.c_tree.specs.Scopes.{Known, is_type}
use Rattle.parser_parts.specs.declared.declared.Named.{Named}
use Rattle.parser_parts.specs.declared.declared.Entry.{Entry}

abbrev pub known : Named → Known
known named = record { name = named.name.now; is_type = named.is_type }

abbrev pub entry_known : Entry → Known
entry_known entry = known entry.named

-- the declarations of some entries, in their order
abbrev pub entries_known : List Entry → List Known
entries_known entries = map entry_known entries

-- the declarations of a log, the latest first
abbrev pub known_names : List Entry → List Known
known_names log = entries_known (reverse log)

-- each entry, the latest first, tells whether its name was a type before it
abbrev pub TellBefore : List Entry → Type 0
TellBefore [] = Unit {0}
TellBefore (entry ∷ rest) = (entry.was_type ≡ is_type (entries_known rest) entry.named.name.now) × TellBefore rest

-- the names in a set are those that are types
abbrev pub AreTypes : {S : Type 0} → HashSet (Bor (List ℕ)) S → List Known → Type 0
AreTypes types names =
    (name : Bor (List ℕ)) →
    contains_by (λ (other : Bor (List ℕ)). bytes_eq name.now other.now) types ≡ is_type names name.now

-- whether a name is in a set of names
abbrev pub has_name : {S : Type 0} → HashSet (Bor (List ℕ)) S → List ℕ → Bool
has_name types name = contains_by (λ (each : Bor (List ℕ)). bytes_eq name each.now) types

-- a name is put among those that are types or taken away, and no other changes
abbrev pub Marks : {S : Type 0} → List ℕ → Bool → HashSet (Bor (List ℕ)) S → HashSet (Bor (List ℕ)) S → Type 0
Marks name is_type old new =
    (other : Bor (List ℕ)) →
    has_name new other.now ≡ (if bytes_eq name other.now then is_type else has_name old other.now)

-- without the latest declaration
abbrev pub without_latest : List Known → List Known
without_latest [] = []
without_latest (first ∷ rest) = rest

-- the oldest so many declarations
abbrev pub oldest : ℕ → List Known → List Known
oldest count names = drop (length names - count) names

-- the name behind a reference, where there is one
abbrev pub name_now : Option (Bor (List ℕ)) → Option (List ℕ)
name_now None = None
name_now (Some name) = Some name.now
