-- What no call changes: the bounds of the ranges, and the elements.
use Rattle.std.proofs.Common.{◌≡◌, ◌∙◌, ◌+◌, ◌/◌, ◌%◌, ◌≤◌, ℕ, List, length, refl, sym, ap, subst, arith}
use Rattle.std.specs.Prelude.{All, slice_index}
use Rattle.byte_memory.specs.Bytes.{word}
use Rattle.byte_memory.specs.BytesEquations.{length-put_word}
use Rattle.byte_marks.specs.Marks.{MarksModel}
use Rattle.heap_blocks.specs.Held.{HeapModel, HasBounds}
use Rattle.flat_objects.specs.Memory.{Memory, Range, Statics, Locals, Heap, IsForm, IsMemory, SameFrame, heap_of}
use Rattle.flat_objects.specs.Counting.{one_less}
use Rattle.flat_objects.proofs.Changing.{with_bytes}
use Rattle.flat_objects.proofs.Counted.{less_most, more_most, put_memory}

pub frame_same : (m : Memory) → SameFrame m m
frame_same m = record { statics = (refl, refl); locals = (refl, refl); heap = (refl, refl); long = refl; most = refl; forms = refl }

pub frame_bytes : (m n : Memory) (bytes : List ℕ) → m ≡ n → length bytes ≡ length m.bytes → SameFrame n (with_bytes m bytes)
frame_bytes m n bytes e long =
    subst (λ (x : Memory). SameFrame x (with_bytes m bytes)) e (record { statics = (refl, refl); locals = (refl, refl); heap = (refl, refl); long = long; most = refl; forms = refl })

pub frame_heap : (m n : Memory) (bytes : List ℕ) (marks : MarksModel) (after : HeapModel) → m ≡ n → HasBounds m.heap.base m.heap.len after → length bytes ≡ length m.bytes → SameFrame n (record m { heap = after; bytes = bytes; marks = marks })
frame_heap m n bytes marks after e bounds long =
    subst (λ (x : Memory). SameFrame x (record m { heap = after; bytes = bytes; marks = marks })) e (record { statics = (refl, refl); locals = (refl, refl); heap = bounds; long = long; most = refl; forms = refl })

pub frame_statics : (m n : Memory) (bytes : List ℕ) (marks : MarksModel) (after : HeapModel) → m ≡ n → HasBounds m.statics.base m.statics.len after → length bytes ≡ length m.bytes → SameFrame n (record m { statics = after; bytes = bytes; marks = marks })
frame_statics m n bytes marks after e bounds long =
    subst (λ (x : Memory). SameFrame x (record m { statics = after; bytes = bytes; marks = marks })) e (record { statics = bounds; locals = (refl, refl); heap = (refl, refl); long = long; most = refl; forms = refl })

pub frame_locals : (m n : Memory) (bytes : List ℕ) (marks : MarksModel) (after : HeapModel) → m ≡ n → HasBounds m.locals.base m.locals.len after → length bytes ≡ length m.bytes → SameFrame n (record m { locals = after; bytes = bytes; marks = marks })
frame_locals m n bytes marks after e bounds long =
    subst (λ (x : Memory). SameFrame x (record m { locals = after; bytes = bytes; marks = marks })) e (record { statics = (refl, refl); locals = bounds; heap = (refl, refl); long = long; most = refl; forms = refl })

pub frame_again : (a b c : Memory) → SameFrame a b → SameFrame b c → SameFrame a c
frame_again a b c one other = record {
  statics = (other.statics.0 ∙ one.statics.0, other.statics.1 ∙ one.statics.1);
  locals = (other.locals.0 ∙ one.locals.0, other.locals.1 ∙ one.locals.1);
  heap = (other.heap.0 ∙ one.heap.0, other.heap.1 ∙ one.heap.1);
  long = other.long ∙ one.long;
  most = other.most ∙ one.most;
  forms = other.forms ∙ one.forms;
}

-- a pointer was put in place of another
pub frame_put : (m : Memory) (addr target : ℕ) → addr + 4 ≤ length m.bytes → SameFrame m (put_memory m addr target)
frame_put m addr target inside = record {
  statics = (refl, refl);
  locals = (refl, refl);
  heap = (refl, refl);
  long = length-put_word m.bytes addr 4 target inside;
  most = more_most (one_less m.counts (word m.bytes addr 4)) target ∙ less_most m.counts (word m.bytes addr 4);
  forms = refl;
}

-- there are as many marks and ends, and those of null are the same
pub record SameMarks (before after : MarksModel) : Type 0 where
  pub long : length after.bytes ≡ length before.bytes
  pub granules : length after.ends ≡ length before.ends
  pub null : slice_index after.bytes 0 ≡ slice_index before.bytes 0
  pub null_end : slice_index after.ends 0 ≡ slice_index before.ends 0

pub marks_same : (marks : MarksModel) → SameMarks marks marks
marks_same marks = record { long = refl; granules = refl; null = refl; null_end = refl }

-- what has the same frame, as many counts and as many marks is a memory of the same ranges
pub still_memory : (locals heap : ℕ) (before after : Memory) → IsMemory locals heap before → SameFrame before after → length after.counts.counts ≡ length before.counts.counts → SameMarks before.marks after.marks → IsMemory locals heap after
still_memory locals heap before after shape frame counts marks = record {
  locals_from = frame.locals.0 ∙ shape.locals_from;
  heap_from = frame.heap.0 ∙ shape.heap_from;
  statics_end = omega (arith, shape.statics_end, frame.statics.0, frame.statics.1);
  locals_end = omega (arith, shape.locals_end, frame.locals.0, frame.locals.1);
  heap_end = omega (arith, shape.heap_end, frame.heap.0, frame.heap.1, frame.long);
  reach = omega (arith, shape.reach, frame.long);
  aligned = λ range. ap (λ b. b % 16) (base range) ∙ shape.aligned range;
  granules = omega (arith, shape.granules, frame.long);
  room = subst (λ n. n / 4 ≤ after.counts.most) (sym frame.long) (subst (λ m. length before.bytes / 4 ≤ m) (sym frame.most) shape.room);
  forms = subst (All IsForm) (sym frame.forms) shape.forms;
  marked = omega (arith, shape.marked, frame.long, marks.long);
  ends = omega (arith, shape.ends, ap (λ n. n / 16) frame.long, marks.granules);
  null = marks.null ∙ shape.null;
  null_end = marks.null_end ∙ shape.null_end;
} where
  base : (range : Range) → (heap_of after range).base ≡ (heap_of before range).base
  base Statics = frame.statics.0
  base Locals = frame.locals.0
  base Heap = frame.heap.0
