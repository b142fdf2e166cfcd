-- What the marks of a new object leave.
use Rattle.std.proofs.Common.{◌≡◌, ◌≤◌, ◌∙◌, ℕ, List, length, Option, Some, None, ap, arith}
use Rattle.std.specs.Prelude.{IfNone, IfSome, MatchOption, slice_index}
use Rattle.byte_marks.specs.Marks.{ChangesMarks, MarksModel}
use Rattle.heap_blocks.specs.Held.{HeapModel, IsWithin}
use Rattle.flat_objects.specs.Memory.{Memory, Range, IsMarkable, IsMemory, heap_of}
use Rattle.flat_objects.proofs.Frames.{SameMarks}
use Rattle.flat_objects.proofs.Owners.{range_inside}

-- null has the mark and the end that it had
pub placed_marks : (before after : MarksModel) (placed : Option ℕ) (size : ℕ) → MatchOption placed (after ≡ before) (λ addr. ChangesMarks before after addr size) → IfSome placed (λ addr. 32 ≤ addr) → SameMarks before after
placed_marks before after None size same some =
    record {
      long = ap (λ (m : MarksModel). length m.bytes) same;
      granules = ap (λ (m : MarksModel). length m.ends) same;
      null = ap (λ (m : MarksModel). slice_index m.bytes 0) same;
      null_end = ap (λ (m : MarksModel). slice_index m.ends 0) same;
    }
placed_marks before after (Some addr) size changes some =
    record {
      long = changes.bytes.long;
      granules = changes.ends.long;
      null = changes.bytes.below 0 (omega arith);
      null_end = changes.ends.below 0 (omega arith);
    }

-- an object that was placed in a range has marks
pub markable : (locals heap : ℕ) (memory : Memory) → IsMemory locals heap memory → (range : Range) (size : ℕ) (placed : Option ℕ) → IfSome placed (IsWithin (heap_of memory range) size) → IfSome placed (IsMarkable memory.marks size)
markable locals heap memory shape range size None within = tt
markable locals heap memory shape range size (Some addr) within =
    let end = range_inside locals heap memory shape range in
    let last = within.end in
    record { inside = omega (arith, shape.marked); granules = omega (arith, shape.ends); fits = omega (arith, shape.reach) }

-- where nothing was placed, nothing is different
pub no_object : (placed : Option ℕ) (memory old : Memory) (after : HeapModel) (bytes : List ℕ) (marks : MarksModel) (size : ℕ) → memory ≡ old → IfNone placed ((after ≡ memory.heap) × (bytes ≡ memory.bytes)) → MatchOption placed (marks ≡ memory.marks) (λ addr. ChangesMarks memory.marks marks addr size)
    → IfNone placed (record memory { heap = after; bytes = bytes; marks = marks } ≡ old)
no_object None memory old after bytes marks size same none kept = (λ i. record memory { heap = none.0 i; bytes = none.1 i; marks = kept i }) ∙ same
no_object (Some addr) memory old after bytes marks size same none kept = tt

pub no_local : (placed : Option ℕ) (memory old : Memory) (after : HeapModel) (bytes : List ℕ) (marks : MarksModel) (size : ℕ) → memory ≡ old → IfNone placed ((after ≡ memory.locals) × (bytes ≡ memory.bytes)) → MatchOption placed (marks ≡ memory.marks) (λ addr. ChangesMarks memory.marks marks addr size)
    → IfNone placed (record memory { locals = after; bytes = bytes; marks = marks } ≡ old)
no_local None memory old after bytes marks size same none kept = (λ i. record memory { locals = none.0 i; bytes = none.1 i; marks = kept i }) ∙ same
no_local (Some addr) memory old after bytes marks size same none kept = tt

pub no_static : (placed : Option ℕ) (memory old : Memory) (after : HeapModel) (bytes : List ℕ) (marks : MarksModel) (size : ℕ) → memory ≡ old → IfNone placed ((after ≡ memory.statics) × (bytes ≡ memory.bytes)) → MatchOption placed (marks ≡ memory.marks) (λ addr. ChangesMarks memory.marks marks addr size)
    → IfNone placed (record memory { statics = after; bytes = bytes; marks = marks } ≡ old)
no_static None memory old after bytes marks size same none kept = (λ i. record memory { statics = none.0 i; bytes = none.1 i; marks = kept i }) ∙ same
no_static (Some addr) memory old after bytes marks size same none kept = tt
