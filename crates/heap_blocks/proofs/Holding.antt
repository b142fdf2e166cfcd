-- What a heap holds after a block is placed or given back, and which block holds an address.
use Rattle.std.proofs.Common.{◌≡◌, ◌≤◌, ◌<◌, ◌+◌, ◌*◌, ◌/◌, inl, inr, ℕ, List, [], ◌∷◌, ◌++◌, length, get_or, Some, sym, ap, ◌∙◌, arith}
use Rattle.std.specs.Prelude.{All, slice_get}
use Rattle.std.proofs.lemmas.Bool.{cases_lt}
use Rattle.std.proofs.lemmas.List.Elements.{All-push}
use Rattle.std.proofs.lemmas.List.Quantifiers.{all_pairs_push}
use Rattle.byte_memory.specs.Bytes.{word}
use Rattle.hs_base.specs.Place.{Block, block_size}
use Rattle.heap_blocks.specs.declared.headers.Header.{Header}
use Rattle.heap_blocks.specs.declared.marks.Mark.{Mark}
use Rattle.heap_blocks.specs.declared.marks.Mark.TheVariants.{Of}
use Rattle.heap_blocks.specs.Bytes.{ChangesOnly}
use Rattle.heap_blocks.specs.Heads.{header_at}
use Rattle.heap_blocks.specs.Runs.{IsFreeRun, Filled}
use Rattle.heap_blocks.specs.Held.{HeapModel, Holds, IsBlock, AreApart, IsHeap, HasHeader, HasHeaders, mark_of}
use Rattle.heap_blocks.proofs.Pieces.{word_from_part}
use Rattle.heap_blocks.proofs.Marking.{IsOut, mark_more, mark_new}
use Rattle.heap_blocks.proofs.Fitting.{IsClear, clear_run}

abbrev pub block_at : ℕ → ℕ → ℕ → Block
block_at birth from count = record { birth = birth; place = from * 16; length = count * 16 }

abbrev pub marked_heap : HeapModel → List Mark → HeapModel
marked_heap heap marks = record { base = heap.base; len = heap.len; marks = marks }

-- A block is placed

new_block : (len birth from count marks_len : ℕ) → 3 ≤ count → from + count ≤ marks_len → marks_len ≡ len / 16 → IsBlock len (block_at birth from count)
new_block len birth from count marks_len room inside long = record {
  aligned = omega arith;
  whole = omega arith;
  room = omega arith;
  within = omega arith;
}

apart_from_clear : (from count birth : ℕ) (b : Block) → IsClear (from * 16) (count * 16) b → AreApart b (block_at birth from count)
apart_from_clear from count birth b (inl h) = inr h
apart_from_clear from count birth b (inr h) = inl h

module _ (heap : HeapModel) (held : List Block) (shape : IsHeap heap.base heap.len heap.marks) (holds : Holds heap held) where
  placed_mark : (after : List Mark) (birth from count n : ℕ) → 3 ≤ count → IsFreeRun heap.marks from count → Filled heap.marks after from count (Of from) → n < length heap.marks
      → slice_get after n ≡ Some (mark_of (held ++ block_at birth from count ∷ []) (n * 16))
  placed_mark after birth from count n room run filled below =
      let b = block_at birth from count in
      let clear = clear_run heap held shape holds from count (omega arith) run in
      let out_of : from ≤ n → n < from + count → All (IsOut (n * 16)) held = λ h k i d l. elim (clear i d l) [ inl q ↦ inl (omega arith) | inr q ↦ inr (omega arith) ] in
      let old = λ (out : IsOut (n * 16) b) (same : slice_get after n ≡ slice_get heap.marks n). same ∙ holds.marks n below ∙ ap Some (sym (mark_more held b (n * 16) out)) in
      let start : from * 16 / 16 ≡ from = omega arith in
      elim (cases_lt n from) [
        | inl h ↦ old (inl (omega arith)) (filled.below n h)
        | inr h ↦ elim (cases_lt n (from + count)) [
          | inr k ↦ old (inr (omega arith)) (filled.above n k)
          | inl k ↦ filled.inside n h k ∙ ap Some (sym (mark_new held b (n * 16) (out_of h k) (record { above = omega arith; below = omega arith }) ∙ ap Of start))
        ]
      ]

  pub holds_placed : (after : List Mark) (birth from count : ℕ) → 3 ≤ count → IsFreeRun heap.marks from count → Filled heap.marks after from count (Of from)
      → Holds (marked_heap heap after) (held ++ block_at birth from count ∷ [])
  holds_placed after birth from count room run filled =
      let b = block_at birth from count in
      let block : IsBlock heap.len b = new_block heap.len birth from count (length heap.marks) room run.inside shape.long in
      let clear = clear_run heap held shape holds from count (omega arith) run in
      record {
        marks = λ n below. placed_mark after birth from count n room run filled (omega (arith, filled.long));
        blocks = All-push (IsBlock heap.len) held b holds.blocks block;
        apart = all_pairs_push AreApart held b holds.apart (λ k d below. apart_from_clear from count birth (get_or held k d) (clear k d below));
      }

  pub headers_placed : (before after : List ℕ) (birth from count : ℕ) (h : Header) → 3 ≤ count → IsFreeRun heap.marks from count → HasHeaders heap.base before held → header_at after (heap.base + from * 16) ≡ h → h.birth ≡ birth → block_size h.size ≡ count * 16
      → ChangesOnly before after (heap.base + from * 16) (count * 16) → HasHeaders heap.base after (held ++ block_at birth from count ∷ [])
  headers_placed before after birth from count h room run headers header birth_is size_is changed =
      let clear = clear_run heap held shape holds from count (omega arith) run in
      All-push (HasHeader heap.base after) held (block_at birth from count)
      (λ k d below. let b = get_or held k d in
      let block = holds.blocks k d below in
      let old = headers k d below in
      let same : (at n : ℕ) → heap.base + b.place ≤ at → at + n ≤ heap.base + b.place + b.length → word after at n ≡ word before at n =
      λ at n low high. word_from_part after before at n (elim (clear k d below) [ inl q ↦ changed.above at n (omega arith) | inr q ↦ changed.below at n (omega arith) ]) in
      record {
        birth = same (heap.base + b.place) 8 (omega arith) (omega (arith, block.room)) ∙ old.birth;
        size = ap block_size (same (heap.base + b.place + 8) 4 (omega arith) (omega (arith, block.room))) ∙ old.size;
      })
      (record {
        birth = ap (λ (r : Header). r.birth) header ∙ birth_is;
        size = ap (λ (r : Header). block_size r.size) header ∙ size_is;
      })
