-- How many scopes are open at the instructions of a function.
use Rattle.std.specs.Prelude.{◌≡◌, ◌≢◌, ◌<◌, ◌≤◌, ◌+◌, ◌-◌, ℕ, Bool, true, false, List, Option, Some, None, length, slice_get, slice_index_or, slice_set, count_by, All}
use Rattle.std.specs.Option.{is_none}
use Rattle.flat_code.specs.declared.instructions.Instr.{Instr}
use Rattle.flat_code.specs.declared.program.Code.{Code}
use Rattle.flat_code.specs.declared.program.Entry.{Entry}
use Rattle.flat_code.specs.Table.{edges, scopes_after}
use Rattle.flat_code.specs.WellFormed.{ClosesWhatIsOpen, HasScopes, Opens, end_of}
use Rattle.code_rules.specs.declared.scopes.Change.{Change}
use Rattle.code_rules.specs.declared.scopes.Change.TheVariants as change

-- the scopes that are known to be open at the instruction of a place in the function
abbrev pub depth_at : List (Option ℕ) → ℕ → Option ℕ
depth_at depths place = slice_index_or depths place None

-- how many places are not known
abbrev pub unknown : List (Option ℕ) → ℕ
unknown depths = count_by is_none depths

-- where the run may go from each instruction of a function is inside it
abbrev pub StaysInside : Code → ℕ → Entry → Type 0
StaysInside code f entry =
    (point : ℕ) (i : Instr) → entry.first ≤ point → point < end_of code f → slice_get code.instrs point ≡ Some i → All (λ next. (entry.first ≤ next) × (next < end_of code f)) (edges i i.op point)

-- what is known is so on some path
abbrev pub AreReached : Code → ℕ → Entry → List (Option ℕ) → Type 0
AreReached code f entry depths = (place scopes : ℕ) → depth_at depths place ≡ Some scopes → Opens code f entry (entry.first + place) scopes

-- no more scopes are known to be open than places are known
abbrev pub AreSmall : List (Option ℕ) → Type 0
AreSmall depths = (place scopes : ℕ) → depth_at depths place ≡ Some scopes → scopes + unknown depths ≤ length depths

-- what is known at a place is known where the run may go from it
abbrev pub IsClosedAt : Code → Entry → List (Option ℕ) → ℕ → Type 0
IsClosedAt code entry depths place =
    (scopes : ℕ) (i : Instr) → depth_at depths place ≡ Some scopes → slice_get code.instrs (entry.first + place) ≡ Some i → All (λ next. depth_at depths (next - entry.first) ≡ Some (scopes_after i.op scopes)) (edges i i.op (entry.first + place))

-- what becomes of a place where so many scopes are open
abbrev pub Puts : List (Option ℕ) → ℕ → ℕ → List (Option ℕ) → Change → Type 0
Puts old place scopes new change.Same = (new ≡ old) × (depth_at old place ≡ Some scopes)
Puts old place scopes new change.More = (new ≡ slice_set old place (Some scopes)) × (depth_at old place ≡ None)
Puts old place scopes new change.Clash = (new ≡ old) × (other : ℕ) × (depth_at old place ≡ Some other) × (other ≢ scopes)

-- what becomes of a place that may be none
abbrev pub PutsAt : List (Option ℕ) → Option ℕ → ℕ → List (Option ℕ) → Change → Type 0
PutsAt old None scopes new c = (new ≡ old) × (c ≡ change.Same)
PutsAt old (Some place) scopes new c = Puts old place scopes new c

-- what was found twice
abbrev pub joined : Change → Change → Change
joined change.Clash c = change.Clash
joined change.More change.Clash = change.Clash
joined change.More change.More = change.More
joined change.More change.Same = change.More
joined change.Same c = c

-- what becomes of the places as some are looked at, from a first one up to another
pub record Moves (code : Code) (f : ℕ) (entry : Entry) (first end : ℕ) (old new : List (Option ℕ)) (c : Change) : Type 0 where
  pub long : length new ≡ length old
  pub kept : c ≡ change.Same → new ≡ old
  pub closed : c ≡ change.Same → (place : ℕ) → first ≤ place → place < end → IsClosedAt code entry old place
  pub stays : (place scopes : ℕ) → depth_at old place ≡ Some scopes → depth_at new place ≡ Some scopes
  pub reached : AreReached code f entry old → AreReached code f entry new
  pub small : AreSmall old → AreSmall new
  pub clash : c ≡ change.Clash → AreReached code f entry old → HasScopes code f entry → ⊥
  pub fewer : unknown new ≤ unknown old
  pub less : c ≡ change.More → unknown new < unknown old

-- what becomes of the places of a function: all that is open on some path is known, or two paths open other numbers
abbrev pub Fills : Code → ℕ → Entry → List (Option ℕ) → List (Option ℕ) → Bool → Type 0
Fills code f entry old new true =
    (length new ≡ length old) × AreReached code f entry new × ((place : ℕ) → place < length new → IsClosedAt code entry new place) × ((place scopes : ℕ) → depth_at old place ≡ Some scopes → depth_at new place ≡ Some scopes)
Fills code f entry old new false = (length new ≡ length old) × (HasScopes code f entry → ⊥)

-- an instruction may stand where so many scopes are known to be open
abbrev pub ClosesAt : Code → ℕ → Option ℕ → Type 0
ClosesAt code point known = (scopes : ℕ) (i : Instr) → known ≡ Some scopes → slice_get code.instrs point ≡ Some i → ClosesWhatIsOpen i.op scopes

-- the instructions of the first places may stand where they do
abbrev pub Close : Code → Entry → List (Option ℕ) → ℕ → Type 0
Close code entry depths end = (place : ℕ) → place < end → ClosesAt code (entry.first + place) (depth_at depths place)
