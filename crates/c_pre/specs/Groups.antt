-- The groups of lines between `#if`, `#ifdef` or `#ifndef` and `#endif` that are open at a line, the innermost last (C99 6.10.1).
use Rattle.std.specs.Prelude.{ℕ, ◌-◌, Bool, true, false, not, ◌||◌, ◌&&◌, bytes_eq, nat_lt, if◌then◌else◌, List, [], ◌∷◌, ◌++◌, length, take, slice_get, slice_set, Option, Some, None, option_map, Result, Ok, Err, codes}
use Rattle.std.specs.List.{list_any}
use Rattle.c_pre.specs.declared.groups.Group.{Group}
use Rattle.c_pre.specs.declared.answer.PreKind.{PreKind}
use Rattle.c_pre.specs.declared.answer.PreKind.TheVariants.{Unbalanced}

-- the innermost group
abbrev pub innermost : List Group → Option Group
innermost groups = slice_get groups (length groups - 1)

-- lines are read where no group is open, or the innermost is read
abbrev pub live_in : Option Group → Bool
live_in None = true
live_in (Some group) = group.live

-- lines are read
unfoldable pub is_live : List Group → Bool
is_live groups = live_in (innermost groups)

-- the innermost group lies in no other that is skipped
unfoldable pub is_outermost : List Group → Bool
is_outermost groups = nat_lt (length groups) 2 || live_in (slice_get groups (length groups - 2))

-- the line that opened the outermost group
unfoldable pub first_line : List Group → Option ℕ
first_line groups = option_map (λ group. group.line) (slice_get groups 0)

-- a group that is opened on a line
abbrev pub opened : ℕ → Bool → Group
opened line live = record { line = line; turned = false; taken = live; live = live }

-- behind an `#else` of this group, the innermost
abbrev pub turned_at : List Group → Option Group → Result (List Group) PreKind
turned_at groups None = Err Unbalanced
turned_at groups (Some group) =
    if group.turned then Err Unbalanced else
    Ok (slice_set groups (length groups - 1)
    (record { line = group.line; turned = true; taken = true; live = not group.taken }))

-- behind an `#else`: a group has one at most, and its lines are read where none of the group were
unfoldable pub turned : List Group → Result (List Group) PreKind
turned groups = turned_at groups (innermost groups)

-- behind an `#elif` of this group, the innermost, by whether its lines are read
abbrev pub branched_at : Bool → List Group → Option Group → Result (List Group) PreKind
branched_at live groups None = Err Unbalanced
branched_at live groups (Some group) =
    if group.turned then Err Unbalanced else
    Ok (slice_set groups (length groups - 1)
    (record { line = group.line; turned = false; taken = group.taken || live; live = live }))

-- behind an `#elif`: none stands behind an `#else`
unfoldable pub branched : Bool → List Group → Result (List Group) PreKind
branched live groups = branched_at live groups (innermost groups)

-- lines of the innermost group were read
abbrev pub taken_in : Option Group → Bool
taken_in None = false
taken_in (Some group) = group.taken

-- an `#elif` of a group of which lines were read: its condition is not asked, and its lines are not read
unfoldable pub is_over : List ℕ → List Group → Bool
is_over word groups = bytes_eq word (codes "elif") && taken_in (innermost groups)

-- behind an `#endif`: it ends the innermost group
abbrev pub closed_at : List Group → Option Group → Result (List Group) PreKind
closed_at groups None = Err Unbalanced
closed_at groups (Some group) = Ok (take (length groups - 1) groups)

-- behind an `#endif`
unfoldable pub closed : List Group → Result (List Group) PreKind
closed groups = closed_at groups (innermost groups)

-- a word is one of these
abbrev pub is_word : List ℕ → List (List ℕ) → Bool
is_word word words = list_any (bytes_eq word) words

-- an `#elif`, `#else` or `#endif` of the outermost skipped group: it may end the skipping
unfoldable pub ends_skipping : List ℕ → List Group → Bool
ends_skipping word groups = is_outermost groups && is_word word (codes "elif" ∷ codes "else" ∷ codes "endif" ∷ [])

-- a directive is read, by its first word: where lines are, and where it may end the skipping
abbrev pub is_read : List ℕ → List Group → Bool
is_read word groups = is_live groups || ends_skipping word groups

-- behind a directive that is not read, by its first word: groups open and close in the skipped one, where an `#elif` or
-- `#else` of theirs is nothing
unfoldable pub skipped : List ℕ → ℕ → List Group → Result (List Group) PreKind
skipped word line groups =
    if is_word word (codes "if" ∷ codes "ifdef" ∷ codes "ifndef" ∷ []) then Ok (groups ++ opened line false ∷ []) else
    if bytes_eq word (codes "endif") then closed groups else Ok groups
