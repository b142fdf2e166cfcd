-- Leaks: the heap objects that are not dead, by their lines of birth.
use Rattle.std.specs.Prelude.{◌+◌, ◌&&◌, ℕ, Bool, cond, not, min, nat_eq, nat_lt, List, length, map, filter, Option, Some, None, option_map}
use Rattle.std.specs.List.{reduce, sum_by}
use Rattle.hs_base.specs.declared.ends.Leak.{Leak}
use Rattle.hs_base.specs.Freeing.{is_heap}
use Rattle.hs_base.specs.Object as object
use Rattle.hs_base.specs.Object.{Object, Sort, is_dead, object_at}
use Rattle.heap_blocks.specs.declared.headers.Header.{Header}
use Rattle.flat_objects.specs.Memory.{Memory}
use Rattle.flat_objects.specs.Keeping.{Keeps, IsHeaderOf}
use Rattle.flat_objects.specs.Tries.{IsHeapStart}

-- The definition

-- is it an object of the heap that is not dead?
abbrev pub is_left : Object → Bool
is_left o = is_heap o.sort && not (is_dead o.standing)

-- those that are left
abbrev pub all_left : List Object → List Object
all_left objects = filter is_left objects

-- the line of birth of an object of the heap
abbrev pub line_of_birth : Sort → ℕ
line_of_birth (object.Heap line) = line
line_of_birth _ = 0

-- the lines of birth of those that are left
abbrev pub lines_left : List Object → List ℕ
lines_left objects = map (λ (o : Object). line_of_birth o.sort) (all_left objects)

-- the least of them above a line
abbrev pub next_line : ℕ → List Object → Option ℕ
next_line after objects = reduce min (filter (nat_lt after) (lines_left objects))

-- those that are left of one line
abbrev pub left_of : List Object → ℕ → List Object
left_of objects line = filter (λ (o : Object). nat_eq (line_of_birth o.sort) line) (all_left objects)

-- how many they are, and the sum of their sizes
abbrev pub leak_of : List Object → ℕ → Leak
leak_of objects line =
    record { line = line; blocks = length (left_of objects line); bytes = sum_by (λ (o : Object). o.size) (left_of objects line) }

-- the leak of the least line above one, if there is any
abbrev pub leak_after : ℕ → List Object → Option Leak
leak_after after objects = option_map (leak_of objects) (next_line after objects)

-- What a walk over the heap meets

-- a memory keeps some objects
abbrev pub KeepsSome : Memory → Type 0
KeepsSome memory = (places : ℕ → ℕ) × (objects : List Object) × Keeps memory places objects

-- the header of the object of the heap that starts at an address, if one does
abbrev pub IsHeaderAt : (ℕ → ℕ) → List Object → ℕ → Option Header → Type 0
IsHeaderAt places objects addr None = ¬ IsHeapStart places objects addr
IsHeaderAt places objects addr (Some header) =
    (start : IsHeapStart places objects addr) × IsHeaderOf header start.birth (object_at objects start.birth)

-- the lesser of two lines, of which the first may not be there
abbrev pub lesser : Option ℕ → ℕ → ℕ
lesser None line = line
lesser (Some least) line = min least line

-- the least line above one that was met, with what was met next
abbrev pub with_line : ℕ → Option ℕ → Option Header → Option ℕ
with_line after least None = least
with_line after least (Some header) = cond (nat_lt after header.line) (Some (lesser least header.line)) least

-- the objects of a line that were met, with what was met next
abbrev pub with_object : Leak → Option Header → Leak
with_object leak None = leak
with_object leak (Some header) =
    cond (nat_eq header.line leak.line) (record leak { blocks = leak.blocks + 1; bytes = leak.bytes + header.size }) leak
