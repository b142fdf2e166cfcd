-- Planned failures of an object in memory.
use Rattle.std.specs.Prelude.{ℕ, ◌+◌, ◌-◌, ◌^◌, List, [], ◌∷◌, min, Contains}

-- the numbers of the calls that are to fail, how many calls were made, and how many failed
pub record Planned : Type 0 where
  pub fails : List ℕ
  pub calls : ℕ
  pub faults : ℕ

-- one call more; the count stands still at the greatest number of 64 bits
abbrev pub with_call : Planned → Planned
with_call p = record p { calls = min (p.calls + 1) (2 ^ 64 - 1) }

abbrev pub with_fault : Planned → Planned
with_fault p = record p { faults = p.faults + 1 }

-- the next call is to fail
abbrev pub IsPlanned : Planned → Type 0
IsPlanned p = Contains p.fails (with_call p).calls

-- the bytes that are ready, of those left, where these calls are to fail
abbrev pub fetched_of : List ℕ → List ℕ → List ℕ
fetched_of [] left = left
fetched_of (number ∷ rest) left = []
