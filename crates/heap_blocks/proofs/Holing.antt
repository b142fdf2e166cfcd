-- The holes that stand beside marks.
use Rattle.std.proofs.Common.{◌≡◌, ◌≤◌, ◌<◌, ◌+◌, ◌-◌, ◌*◌, ◌/◌, ◌%◌, ◌^◌, inl, inr, ℕ, zero, suc, Bool, true, false, List, [], ◌∷◌, length, map, replicate, Option, Some, None, refl, sym, ap, ◌∙◌, arith}
use Rattle.std.specs.Prelude.{Contains, MatchOption, option_map, slice_get}
use Rattle.std.proofs.lemmas.Bool.{cases_lt}
use Rattle.std.proofs.lemmas.List.{length-map, length-replicate}
use Rattle.std.proofs.lemmas.List.Elements.{All-contains, All-nil}
use Rattle.std.proofs.lemmas.Option.{slice_get-map, slice_get_within}
use Rattle.byte_memory.specs.Bytes.{word}
use Rattle.hs_base.specs.Place.{Block, block_size}
use Rattle.hole_tree.specs.Granules.{IsRun, IsFirstHole, HasNoHole, IsSet}
use Rattle.hole_tree.specs.RowEquations.{same_rows}
use Rattle.heap_blocks.specs.declared.marks.Mark.{Mark}
use Rattle.heap_blocks.specs.declared.marks.Mark.TheVariants.{Free, Of}
use Rattle.heap_blocks.specs.Runs.{IsFreeRun, IsFirstRun, HasNoRun, Filled}
use Rattle.heap_blocks.specs.Held.{HeapModel, HasHeader, Holds, IsBlock, IsHeap, IsHeapWithHoles, IsObject, is_used, mark_of}
use Rattle.heap_blocks.proofs.Marking.{IsIn, IsOut, in_not_out, out_from_free}

free_mark : (o : Option Mark) → option_map is_used o ≡ Some false → o ≡ Some Free
free_mark None h = cc
free_mark (Some Free) h = refl
free_mark (Some (Of start)) h = cc

used_mark : (mark : Mark) → (mark ≡ Free → ⊥) → is_used mark ≡ true
used_mark Free used = absurd (used refl)
used_mark (Of start) used = refl

module _ (marks : List Mark) (holes : List Bool) (same : holes ≡ map is_used marks) where
  pub hole_at : (k : ℕ) → slice_get holes k ≡ option_map is_used (slice_get marks k)
  hole_at k = ap (λ row. slice_get row k) same ∙ slice_get-map is_used marks k

  long : length holes ≡ length marks
  long = ap length same ∙ length-map marks is_used

  run_from_hole : (from count : ℕ) → IsRun holes from count false → IsFreeRun marks from count
  run_from_hole from count run = record {
    inside = omega (arith, long, run.inside);
    free = λ k low high. free_mark (slice_get marks k) (sym (hole_at k) ∙ run.same k low high);
  }

  pub hole_from_run : (from count : ℕ) → IsFreeRun marks from count → IsRun holes from count false
  hole_from_run from count run = record {
    inside = omega (arith, long, run.inside);
    same = λ k low high. hole_at k ∙ ap (option_map is_used) (run.free k low high);
  }

  pub first_run_from_hole : (count from : ℕ) → IsFirstHole holes count from → IsFirstRun marks count from
  first_run_from_hole count from first = record {
    run = run_from_hole from count first.hole;
    first = λ below low run. first.lowest below low (hole_from_run below count run);
  }

  pub no_run_from_holes : (count : ℕ) → HasNoHole holes count → HasNoRun marks count
  no_run_from_holes count none from run = none from (hole_from_run from count run)

  pub run_answer : (count : ℕ) (answer : Option ℕ) → MatchOption answer (HasNoHole holes count) (IsFirstHole holes count) → MatchOption answer (HasNoRun marks count) (IsFirstRun marks count)
  run_answer count None none = no_run_from_holes count none
  run_answer count (Some from) first = first_run_from_hole count from first

  -- marks and holes that are set alike
  pub same_filled : (marks' : List Mark) (holes' : List Bool) (from count : ℕ) (mark : Mark) → Filled marks marks' from count mark → IsSet holes holes' from count (is_used mark) → holes' ≡ map is_used marks'
  same_filled marks' holes' from count mark filled set =
      let others = λ (k : ℕ) (hole : slice_get holes' k ≡ slice_get holes k) (kept : slice_get marks' k ≡ slice_get marks k). hole ∙ hole_at k ∙ ap (option_map is_used) (sym kept) ∙ sym (slice_get-map is_used marks' k) in
      same_rows holes' (map is_used marks') (λ k. elim (cases_lt k from) [
        | inl h ↦ others k (set.others.below k h) (filled.below k h)
        | inr h ↦ elim (cases_lt k (from + count)) [
          | inl l ↦ set.run.same k h l ∙ ap (option_map is_used) (sym (filled.inside k h l)) ∙ sym (slice_get-map is_used marks' k)
          | inr l ↦ others k (set.others.above k l) (filled.above k l)
        ]
      ])

-- The granules of a block that is held are taken

pub held_used : (heap : HeapModel) (held : List Block) (b : Block) (k : ℕ) → Contains held b → IsIn (k * 16) b → is_used (mark_of held (k * 16)) ≡ true
held_used heap held b k contains inside =
    used_mark (mark_of held (k * 16)) (λ free. in_not_out (k * 16) b inside (All-contains (IsOut (k * 16)) held b (out_from_free held (k * 16) free) contains))

pub object_taken : (heap : HeapModel) (bytes : List ℕ) (addr size : ℕ) (held : List Block) (b : Block) (holes : List Bool) → IsHeap heap.base heap.len heap.marks → holes ≡ map is_used heap.marks → IsObject heap bytes addr held b → size ≡ word bytes (addr - 32 + 8) 4
    → IsRun holes ((addr - 32 - heap.base) / 16) (size / 16 + 3) true
object_taken heap bytes addr size held b holes shape same object size_is =
    let from = (addr - 32 - heap.base) / 16 in
    let count = size / 16 + 3 in
    let block = All-contains (IsBlock heap.len) held b object.holds.blocks object.contains in
    let header = All-contains (HasHeader heap.base bytes) held b object.headers object.contains in
    let at : addr - 32 + 8 ≡ heap.base + b.place + 8 = omega (arith, object.address) in
    let size_of : size ≡ word bytes (heap.base + b.place + 8) 4 = size_is ∙ ap (λ a. word bytes a 4) at in
    let length_of : block_size size ≡ b.length = ap block_size size_of ∙ header.size in
    let place_is : b.place ≡ from * 16 = omega (arith, object.address, block.aligned) in
    let length_is : b.length ≡ count * 16 = sym length_of ∙ omega arith in
    let inside : from + count ≤ length heap.marks = omega (arith, block.within, shape.long) in
    record {
      inside = omega (arith, long heap.marks holes same);
      same = λ k low high. hole_at heap.marks holes same k
          ∙ ap (option_map is_used) (object.holds.marks k (omega arith))
          ∙ ap Some (held_used heap held b k object.contains (record { above = omega arith; below = omega arith }));
    }

-- A heap that holds no block

map_free : (n : ℕ) → map is_used (replicate n Free) ≡ replicate n false
map_free zero = refl
map_free (suc n) = ap (λ row. false ∷ row) (map_free n)

free_at : (n k : ℕ) → k < n → slice_get (replicate n Free) k ≡ Some Free
free_at zero k below = absurd (omega arith)
free_at (suc n) zero below = refl
free_at (suc n) (suc k) below = free_at n k (omega arith)

pub empty_shape : (base len n : ℕ) (holes : List Bool) → base % 16 ≡ 0 → base + len < 2 ^ 32 → n ≡ len / 16 → holes ≡ replicate n false → IsHeapWithHoles base len (replicate n Free) holes
empty_shape base len n holes aligned reach n_is holes_is = record {
  shape = record {
    aligned = aligned;
    reach = reach;
    long = length-replicate n Free ∙ n_is;
    starts = λ k start marked. let below : k < n = omega (arith, slice_get_within (replicate n Free) k (Of start) marked, length-replicate n Free) in
        let both : Some Free ≡ Some (Of start) = sym (free_at n k below) ∙ marked in
        cc;
  };
  same = holes_is ∙ sym (map_free n);
}

pub holds_none : (base len n : ℕ) → Holds (record { base = base; len = len; marks = replicate n Free }) []
holds_none base len n = record {
  marks = λ k below. free_at n k (omega (arith, length-replicate n Free));
  blocks = All-nil (IsBlock len);
  apart = λ i j d low high. absurd (omega arith);
}
