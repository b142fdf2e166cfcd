-- Addresses that are moved.
use Rattle.std.specs.Prelude.{◌≡◌, ◌+◌, ◌^◌, ◌≤◌, ◌<ℤ◌, ◌⊎◌, ℕ, ℤ, pos, neg_ℤ, Result, Ok, Err}
use Rattle.hs_base.specs.declared.ends.TrapKind.{TrapKind}
use Rattle.hs_base.specs.declared.ends.TrapKind.TheVariants as trap
use Rattle.object_meaning.specs.objects.Arithmetic.{moved_by}
use Rattle.flat_objects.specs.Memory.{Memory}
use Rattle.flat_objects.specs.Keeping.{ForPointer}
use Rattle.flat_objects.specs.Answering.{AnswersAddress}

-- the place is so many bytes behind a start, up to a size, or there is none
abbrev pub MovesTo : ℕ → ℕ → ℤ → Result ℕ TrapKind → Type 0
MovesTo start size place (Ok addr) = (offset : ℕ) × (place ≡ pos offset) × (offset ≤ size) × (addr ≡ start + offset)
MovesTo start size place (Err kind) = (kind ≡ trap.Range) × ((place <ℤ pos 0) ⊎ (pos size <ℤ place))

-- a distance that is far beyond any object, whose size is below 2 to the 32
abbrev pub IsFar : ℤ → Type 0
IsFar d = (d <ℤ neg_ℤ (pos (2 ^ 64))) ⊎ (pos (2 ^ 64) <ℤ d)

-- whatever pointer an address stands for, the code answers the address of the one that is moved by a distance
abbrev pub IsMovedBy : Memory → ℕ → ℤ → Result ℕ TrapKind → Type 0
IsMovedBy memory addr distance result =
    ForPointer memory addr (λ places objects p. AnswersAddress places objects result (moved_by objects p distance))
