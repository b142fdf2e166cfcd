-- What a placement answers and leaves, by first fit.
use Rattle.std.proofs.Common.{◌≡◌, ◌≤◌, ◌+◌, ◌-◌, ◌*◌, ◌/◌, inl, ℕ, List, [], ◌∷◌, ◌++◌, replicate, Some, None, sym, ap, ◌∙◌, subst, arith}
use Rattle.std.specs.Prelude.{option_map}
use Rattle.byte_memory.specs.Bytes.{part}
use Rattle.hs_base.specs.Place.{Block, block_size, with_block}
use Rattle.heap_blocks.specs.declared.headers.Header.{Header}
use Rattle.heap_blocks.specs.declared.marks.Mark.{Mark}
use Rattle.heap_blocks.specs.declared.marks.Mark.TheVariants.{Of}
use Rattle.heap_blocks.specs.Bytes.{ChangesOnly}
use Rattle.heap_blocks.specs.Heads.{header_at}
use Rattle.heap_blocks.specs.Runs.{IsFirstRun, Filled, HasNoRun}
use Rattle.heap_blocks.specs.Held.{HeapModel, Holds, HasHeaders, IsHeap, IsPlaced, address_of, fit_of}
use Rattle.heap_blocks.proofs.Pieces.{changes_joined, zeros_front}
use Rattle.heap_blocks.proofs.Heading.{header_kept}
use Rattle.heap_blocks.proofs.Fitting.{first_is_fit, none_is_fit}
use Rattle.heap_blocks.proofs.Holding.{block_at, marked_heap, holds_placed, headers_placed}

-- a header is written, and so many words of zeros behind it
pub block_placed : (b0 b1 b2 : List ℕ) (block n : ℕ) (h : Header) → 32 + n ≡ block_size h.size → h.size ≤ n → header_at b1 block ≡ h → ChangesOnly b0 b1 block 32 → part b2 (block + 32) n ≡ replicate n 0 → ChangesOnly b1 b2 (block + 32) n
    → IsPlaced b0 b2 (block + 32) (block_size h.size) h
block_placed b0 b1 b2 block n h n_is room header first zeros second =
    let at : block + 32 - 32 ≡ block = omega arith in
    record {
      header = ap (header_at b2) at ∙ header_kept b2 b1 block (block + 32) n second (inl (omega arith)) ∙ header;
      zero = zeros_front b2 (block + 32) n h.size room zeros;
      outside = subst (λ a. ChangesOnly b0 b2 a (block_size h.size)) (sym at) (changes_joined b0 b1 b2 block 32 (block + 32) n block (block_size h.size) first second (omega arith) (omega arith) (omega arith) (omega arith));
    }

module _ (heap : HeapModel) (held : List Block) (size : ℕ) (shape : IsHeap heap.base heap.len heap.marks) (holds : Holds heap held) where
  -- the list of blocks behind a placement
  with_block_is : (birth from : ℕ) → fit_of heap held size ≡ Some (from * 16) → with_block held birth (block_size size) (fit_of heap held size) ≡ held ++ block_at birth from (size / 16 + 3) ∷ []
  with_block_is birth from fit =
      let length_is : block_size size ≡ (size / 16 + 3) * 16 = omega arith in
      ap (with_block held birth (block_size size)) fit ∙ ap (λ n. with_block held birth n (Some (from * 16))) length_is

  pub placed_address : (from addr : ℕ) → IsFirstRun heap.marks (size / 16 + 3) from → addr ≡ heap.base + 16 * from + 32 → Some addr ≡ option_map (address_of heap) (fit_of heap held size)
  placed_address from addr first at =
      let same : addr ≡ heap.base + from * 16 + 32 = omega arith in
      ap Some same ∙ sym (ap (option_map (address_of heap)) (first_is_fit heap held shape holds size from first))

  pub placed_holds : (from birth : ℕ) (after : List Mark) → IsFirstRun heap.marks (size / 16 + 3) from → Filled heap.marks after from (size / 16 + 3) (Of from) → Holds (marked_heap heap after) (with_block held birth (block_size size) (fit_of heap held size))
  placed_holds from birth after first marked =
      subst (Holds (marked_heap heap after)) (sym (with_block_is birth from (first_is_fit heap held shape holds size from first)))
      (holds_placed heap held shape holds after birth from (size / 16 + 3) (omega arith) first.run marked)

  pub placed_headers : (before after : List ℕ) (from birth block : ℕ) (h : Header) → IsFirstRun heap.marks (size / 16 + 3) from → HasHeaders heap.base before held → IsPlaced before after (block + 32) (block_size h.size) h → block ≡ heap.base + 16 * from → h.birth ≡ birth → h.size ≡ size
      → HasHeaders heap.base after (with_block held birth (block_size size) (fit_of heap held size))
  placed_headers before after from birth block h first headers placed at birth_is size_is =
      let block_is : block + 32 - 32 ≡ heap.base + from * 16 = omega arith in
      let length_of : block_size size ≡ (size / 16 + 3) * 16 = omega arith in
      let length_is : block_size h.size ≡ (size / 16 + 3) * 16 = ap block_size size_is ∙ length_of in
      let changed : ChangesOnly before after (heap.base + from * 16) ((size / 16 + 3) * 16) =
      subst (λ n. ChangesOnly before after (heap.base + from * 16) n) length_is (subst (λ a. ChangesOnly before after a (block_size h.size)) block_is placed.outside) in
      subst (HasHeaders heap.base after) (sym (with_block_is birth from (first_is_fit heap held shape holds size from first)))
      (headers_placed heap held shape holds before after birth from (size / 16 + 3) h (omega arith) first.run headers (ap (header_at after) (sym block_is) ∙ placed.header) birth_is length_is changed)

  pub none_fits : HasNoRun heap.marks (size / 16 + 3) → fit_of heap held size ≡ None
  none_fits none = none_is_fit heap held shape holds size none
