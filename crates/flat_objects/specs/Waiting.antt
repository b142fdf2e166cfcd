-- The objects of the heap that were freed and wait for the end of a scope.
use Rattle.std.specs.Prelude.{◌+◌, ◌&&◌, ◌||◌, ℕ, Bool, true, false, cond, nat_eq, List, [], ◌∷◌, length, filter, Option, Some, None}
use Rattle.std.specs.List.{sum_by}
use Rattle.hs_base.specs.Object.{Object, Standing, Live, Queued, Dead}
use Rattle.heap_blocks.specs.declared.headers.Header.{Header}
use Rattle.flat_objects.specs.Leaks.{all_left, line_of_birth}
use Rattle.flat_objects.specs.declared.waiting.Tally.{Tally}
use Rattle.flat_objects.specs.declared.waiting.Waiting.{Waiting}

-- The definition

-- is a line the one that is asked for, if one is?
abbrev pub is_asked : Option ℕ → ℕ → Bool
is_asked None line = true
is_asked (Some asked) line = nat_eq line asked

-- does an object wait that was freed at the line that is asked for, if one is?
abbrev pub waits : Option ℕ → Standing → Bool
waits asked Live = false
waits asked (Queued line) = is_asked asked line
waits asked Dead = false

-- the objects that do
abbrev pub all_waiting : Option ℕ → List Object → List Object
all_waiting asked objects = filter (λ (o : Object). waits asked o.standing) (all_left objects)

-- the line of birth, where it is one object
abbrev pub line_of_one : List Object → Option ℕ
line_of_one (o ∷ []) = Some (line_of_birth o.sort)
line_of_one _ = None

-- how many they are, the sum of their sizes, and the line of birth, where it is one
abbrev pub waiting_of : Option ℕ → List Object → Waiting
waiting_of asked objects =
    let all = all_waiting asked objects in
    record { blocks = length all; bytes = sum_by (λ (o : Object). o.size) all; line = line_of_one all }

-- What a walk over the heap meets

-- the state of a header that waits is 2
abbrev pub tells_waiting : Option ℕ → Header → Bool
tells_waiting asked header = nat_eq header.state 2 && is_asked asked header.freed

-- those that were met, with what was met next
abbrev pub with_waiting : Option ℕ → Tally → Option Header → Tally
with_waiting asked tally None = tally
with_waiting asked tally (Some header) =
    cond (tells_waiting asked header) (record { blocks = tally.blocks + 1; bytes = tally.bytes + header.size; lines = tally.lines + header.line }) tally
