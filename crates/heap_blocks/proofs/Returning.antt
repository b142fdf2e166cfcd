-- What a heap holds after a block is given back.
use Rattle.std.proofs.Common.{◌≡◌, ◌<◌, ◌+◌, ◌-◌, ◌*◌, ◌/◌, inl, inr, ℕ, Bool, true, false, not, List, length, get_or, Some, sym, ap, ◌∙◌, subst, arith}
use Rattle.std.specs.Prelude.{All, Contains, filter, nat_eq}
use Rattle.std.proofs.lemmas.Bool.{cases_lt, cases_order, not-true, not-false, eqb-true, eqb-false}
use Rattle.std.proofs.lemmas.List.Elements.{All-filter, All-from_get_or, All-contains, filter_passes}
use Rattle.std.proofs.lemmas.List.Kept.{AllPairs-filter}
use Rattle.byte_memory.specs.Bytes.{word}
use Rattle.hs_base.specs.Place.{Block, block_size, without_block}
use Rattle.heap_blocks.specs.declared.marks.Mark.{Mark}
use Rattle.heap_blocks.specs.declared.marks.Mark.TheVariants.{Free}
use Rattle.heap_blocks.specs.Runs.{Filled}
use Rattle.heap_blocks.specs.Held.{HeapModel, Holds, IsBlock, AreApart, HaveOwnBirths, HasHeader, HasHeaders, IsObject, mark_of}
use Rattle.heap_blocks.proofs.Marking.{IsIn, IsOut, out_of_other, free_from_out, mark_kept}
use Rattle.heap_blocks.proofs.Holding.{marked_heap}

abbrev keeps : Block → Block → Bool
keeps b c = not (nat_eq c.birth b.birth)

pub apart_swapped : (a b : Block) → AreApart a b → AreApart b a
apart_swapped a b (inl h) = inr h
apart_swapped a b (inr h) = inl h

module _ (heap : HeapModel) (held : List Block) (b : Block) (holds : Holds heap held) (births : HaveOwnBirths held) (is_held : Contains held b) where
  only_at : (i : ℕ) → i < length held → keeps b (get_or held i b) ≡ false → get_or held i b ≡ b
  only_at i below gone =
      let c = get_or held i b in
      let k = is_held.0 in
      let here : get_or held k b ≡ b = is_held.2 in
      let same : c.birth ≡ b.birth = eqb-true c.birth b.birth (not-false (nat_eq c.birth b.birth) gone) in
      elim (cases_order i k) [
        | inl e ↦ ap (λ j. get_or held j b) e ∙ here
        | inr (inl h) ↦ absurd (births i k b h is_held.1 (same ∙ sym (ap (λ (d : Block). d.birth) here)))
        | inr (inr h) ↦ absurd (births k i b h below (ap (λ (d : Block). d.birth) here ∙ sym same))
      ]

  other_at : (i : ℕ) → i < length held → keeps b (get_or held i b) ≡ true → AreApart (get_or held i b) b
  other_at i below kept =
      let c = get_or held i b in
      let k = is_held.0 in
      let here : get_or held k b ≡ b = is_held.2 in
      let other : c.birth ≡ b.birth → ⊥ = eqb-false c.birth b.birth (not-true (nat_eq c.birth b.birth) kept) in
      elim (cases_order i k) [
        | inl e ↦ absurd (other (ap (λ (d : Block). d.birth) (ap (λ j. get_or held j b) e ∙ here)))
        | inr (inl h) ↦ subst (AreApart c) here (holds.apart i k b h is_held.1)
        | inr (inr h) ↦ apart_swapped b c (subst (λ d. AreApart d c) here (holds.apart k i b h below))
      ]

  -- a block of that birth is the block itself
  only : All (λ c. keeps b c ≡ false → c ≡ b) held
  only = All-from_get_or (λ c. keeps b c ≡ false → c ≡ b) held b only_at

  -- every block that stays is apart from it
  others : All (λ c. keeps b c ≡ true → AreApart c b) held
  others = All-from_get_or (λ c. keeps b c ≡ true → AreApart c b) held b other_at

  free_there : (place : ℕ) → IsIn place b → mark_of (without_block held b.birth) place ≡ Free
  free_there place inside =
      let kept = All-filter (keeps b) (λ c. keeps b c ≡ true → AreApart c b) held others in
      let passes = filter_passes (keeps b) held in
      free_from_out (filter (keeps b) held) place
      (λ i d below. out_of_other (get_or (filter (keeps b) held) i d) b place (kept i d below (passes i d below)) inside)

  same_there : (place : ℕ) → IsOut place b → mark_of (without_block held b.birth) place ≡ mark_of held place
  same_there place out =
      mark_kept (keeps b) held place (λ i d below gone. subst (IsOut place) (sym (only i d below gone)) out)

  pub holds_released : (after : List Mark) (from count : ℕ) → b.place ≡ from * 16 → b.length ≡ count * 16 → Filled heap.marks after from count Free → Holds (marked_heap heap after) (without_block held b.birth)
  holds_released after from count place_is length_is filled = record {
    marks = λ n below. elim (cases_lt n from) [
      | inl h ↦ filled.below n h ∙ holds.marks n (omega (arith, filled.long)) ∙ ap Some (sym (same_there (n * 16) (inl (omega arith))))
      | inr h ↦ elim (cases_lt n (from + count)) [
        | inr k ↦ filled.above n k ∙ holds.marks n (omega (arith, filled.long)) ∙ ap Some (sym (same_there (n * 16) (inr (omega arith))))
        | inl k ↦ filled.inside n h k ∙ ap Some (sym (free_there (n * 16) (record { above = omega arith; below = omega arith })))
      ]
    ];
    blocks = All-filter (keeps b) (IsBlock heap.len) held holds.blocks;
    apart = AllPairs-filter AreApart (keeps b) held holds.apart;
  }

-- by what the header says
pub released : (heap : HeapModel) (bytes : List ℕ) (addr size : ℕ) (held : List Block) (b : Block) (before after : List Mark) → IsObject heap bytes addr held b → HaveOwnBirths held → size ≡ word bytes (addr - 32 + 8) 4 → before ≡ heap.marks
    → Filled before after ((addr - 32 - heap.base) / 16) (size / 16 + 3) Free → Holds (marked_heap heap after) (without_block held b.birth)
released heap bytes addr size held b before after object births size_is before_is filled =
    let block = All-contains (IsBlock heap.len) held b object.holds.blocks object.contains in
    let header = All-contains (HasHeader heap.base bytes) held b object.headers object.contains in
    let at : addr - 32 + 8 ≡ heap.base + b.place + 8 = omega (arith, object.address) in
    let size_of : size ≡ word bytes (heap.base + b.place + 8) 4 = size_is ∙ ap (λ a. word bytes a 4) at in
    let length_of : block_size size ≡ b.length = ap block_size size_of ∙ header.size in
    let place_is : b.place ≡ (addr - 32 - heap.base) / 16 * 16 = omega (arith, object.address, block.aligned) in
    let length_is : b.length ≡ (size / 16 + 3) * 16 = sym length_of ∙ omega arith in
    holds_released heap held b object.holds births object.contains after ((addr - 32 - heap.base) / 16) (size / 16 + 3) place_is length_is
    (subst (λ l. Filled l after ((addr - 32 - heap.base) / 16) (size / 16 + 3) Free) before_is filled)

pub headers_released : (base : ℕ) (bytes : List ℕ) (held : List Block) (birth : ℕ) → HasHeaders base bytes held → HasHeaders base bytes (without_block held birth)
headers_released base bytes held birth headers =
    All-filter (λ (b : Block). not (nat_eq b.birth birth)) (HasHeader base bytes) held headers
