-- Headers that stay while bytes elsewhere change.
use Rattle.std.proofs.Common.{subst, sym, ◌≡◌, ◌≤◌, ◌+◌, ◌⊎◌, inl, inr, ℕ, List, get_or, ap, ◌∙◌, arith}
use Rattle.std.specs.Prelude.{Contains}
use Rattle.std.proofs.lemmas.Bool.{cases_order}
use Rattle.std.proofs.lemmas.List.Elements.{All-from_get_or}
use Rattle.byte_memory.specs.Bytes.{word}
use Rattle.hs_base.specs.Place.{Block, block_size}
use Rattle.heap_blocks.specs.declared.headers.Header.{Header}
use Rattle.heap_blocks.specs.Heads.{header_at}
use Rattle.heap_blocks.specs.Bytes.{ChangesOnly}
use Rattle.heap_blocks.specs.Held.{HeapModel, Holds, AreApart, IsBlock, HasHeader, HasHeaders, address_of}
use Rattle.heap_blocks.proofs.Returning.{apart_swapped}
use Rattle.heap_blocks.proofs.Pieces.{word_from_part}

header_stays : (base : ℕ) (before after : List ℕ) (addr n : ℕ) (b : Block) → ChangesOnly before after addr n → (base + b.place + 32 ≤ addr) ⊎ (addr + n ≤ base + b.place) → HasHeader base before b → HasHeader base after b
header_stays base before after addr n b changed beside header =
    let same : (at k : ℕ) → base + b.place ≤ at → at + k ≤ base + b.place + 32 → word after at k ≡ word before at k =
    λ at k low high. word_from_part after before at k (elim beside [ inl h ↦ changed.below at k (omega arith) | inr h ↦ changed.above at k (omega arith) ]) in
    record {
      birth = same (base + b.place) 8 (omega arith) (omega arith) ∙ header.birth;
      size = ap block_size (same (base + b.place + 8) 4 (omega arith) (omega arith)) ∙ header.size;
    }

pub headers_beside : (heap : HeapModel) (held : List Block) (before after : List ℕ) (addr n : ℕ) → Holds heap held → HasHeaders heap.base before held → ChangesOnly before after addr n → (addr + n ≤ heap.base) ⊎ (heap.base + heap.len ≤ addr)
    → HasHeaders heap.base after held
headers_beside heap held before after addr n holds headers changed beside = λ k d below.
    let b = get_or held k d in
    let block : IsBlock heap.len b = holds.blocks k d below in
    header_stays heap.base before after addr n b changed
    (elim beside [ inl h ↦ inr (omega arith) | inr h ↦ inl (omega (arith, block.within, block.room)) ])
    (headers k d below)

pub headers_within : (heap : HeapModel) (held : List Block) (b : Block) (before after : List ℕ) (addr n : ℕ) → Holds heap held → Contains held b → HasHeaders heap.base before held → ChangesOnly before after addr n
    → address_of heap b.place ≤ addr → addr + n ≤ heap.base + b.place + b.length → HasHeaders heap.base after held
headers_within heap held b before after addr n holds is_held headers changed low high =
    All-from_get_or (HasHeader heap.base after) held b (λ i below.
    let k = is_held.0 in
    let c = get_or held i b in
    let at = get_or held k b in
    let same : at ≡ b = is_held.2 in
    let place : at.place ≡ b.place = ap (λ (d : Block). d.place) same in
    let long : at.length ≡ b.length = ap (λ (d : Block). d.length) same in
    let block : IsBlock heap.len c = holds.blocks i b below in
    let beside : AreApart c at → (heap.base + c.place + 32 ≤ addr) ⊎ (addr + n ≤ heap.base + c.place) =
    λ apart. elim apart [ inl h ↦ inl (omega (arith, block.room)) | inr h ↦ inr (omega arith) ] in
    header_stays heap.base before after addr n c changed
    (elim (cases_order i k) [
      | inl e ↦ let there : c.place ≡ at.place = ap (λ j. (get_or held j b).place) e in inl (omega arith)
      | inr (inl h) ↦ beside (holds.apart i k b h is_held.1)
      | inr (inr h) ↦ beside (apart_swapped at c (holds.apart k i b h below))
    ])
    (headers i b below))

pub headers_written : (heap : HeapModel) (held : List Block) (b : Block) (before after : List ℕ) (h : Header) → Holds heap held → Contains held b → HasHeaders heap.base before held → ChangesOnly before after (heap.base + b.place) 32
    → header_at after (heap.base + b.place) ≡ h → h.birth ≡ b.birth → block_size h.size ≡ b.length → HasHeaders heap.base after held
headers_written heap held b before after h holds is_held headers changed written birth_is size_is =
    All-from_get_or (HasHeader heap.base after) held b (λ i below.
    let k = is_held.0 in
    let c = get_or held i b in
    let at = get_or held k b in
    let same : at ≡ b = is_held.2 in
    let place : at.place ≡ b.place = ap (λ (d : Block). d.place) same in
    let long : at.length ≡ b.length = ap (λ (d : Block). d.length) same in
    let block : IsBlock heap.len c = holds.blocks i b below in
    let here : IsBlock heap.len at = holds.blocks k b is_held.1 in
    let old = headers i b below in
    let beside : AreApart c at → HasHeader heap.base after c =
    λ apart. header_stays heap.base before after (heap.base + b.place) 32 c changed (elim apart [ inl q ↦ inl (omega (arith, block.room)) | inr q ↦ inr (omega (arith, here.room)) ]) old in
    let new : HasHeader heap.base after b =
    record { birth = ap (λ (r : Header). r.birth) written ∙ birth_is; size = ap (λ (r : Header). block_size r.size) written ∙ size_is } in
    elim (cases_order i k) [
      | inl e ↦ subst (HasHeader heap.base after) (sym (ap (λ j. get_or held j b) e ∙ same)) new
      | inr (inl q) ↦ beside (holds.apart i k b q is_held.1)
      | inr (inr q) ↦ beside (apart_swapped at c (holds.apart k i b q below))
    ])
