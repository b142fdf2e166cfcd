-- Which block holds an address, and what stays true of all heaps.
use Rattle.std.proofs.Common.{◌≡◌, ◌≤◌, ◌<◌, ◌+◌, ◌*◌, ◌/◌, inl, inr, ℕ, zero, suc, true, false, List, [], ◌∷◌, length, get_or, Some, None, refl, sym, ap, subst, ◌∙◌, arith}
use Rattle.std.specs.Prelude.{All, Contains, find, option_map, nat_le, nat_lt, slice_get}
use Rattle.std.proofs.lemmas.Bool.{cases_Bool, cases_lt, cases_order, and_from, and_parts, and_left, and_right, le-leb, lt-leb, lt-ltb, le-ltb, leb-true, ltb-true, cond-true, cond-false}
use Rattle.std.proofs.lemmas.List.Elements.{All-head, All-tail, All-from_get_or}
use Rattle.std.proofs.lemmas.Option.{same_Some, slice_get_within}
use Rattle.hs_base.specs.Place.{Block}
use Rattle.heap_blocks.specs.declared.marks.Mark.{Mark}
use Rattle.heap_blocks.specs.declared.marks.Mark.TheVariants.{Free, Of}
use Rattle.heap_blocks.specs.Runs.{Filled}
use Rattle.heap_blocks.specs.Held.{HeapModel, HasAddress, Holds, AreApart, IsBlock, IsHeap, address_of, has_address, owner_of, mark_of}
use Rattle.heap_blocks.proofs.Marking.{IsIn, IsOut, in_or_out, out_from_free, mark_in, mark_out}

-- What every heap keeps

pub shape_filled : (base len : ℕ) (before after : List Mark) (from count : ℕ) (mark : Mark) → IsHeap base len before → Filled before after from count mark → ((start : ℕ) → mark ≡ Of start → start * 16 + 48 ≤ len) → IsHeap base len after
shape_filled base len before after from count mark shape filled room = record {
  aligned = shape.aligned;
  reach = shape.reach;
  long = filled.long ∙ shape.long;
  starts = λ n start marked. elim (cases_lt n from) [
    | inl h ↦ shape.starts n start (sym (filled.below n h) ∙ marked)
    | inr h ↦ elim (cases_lt n (from + count)) [
      | inl k ↦ room start (same_Some mark (Of start) (sym (filled.inside n h k) ∙ marked))
      | inr k ↦ shape.starts n start (sym (filled.above n k) ∙ marked)
    ]
  ];
}

pub shape_placed : (base len : ℕ) (before after : List Mark) (from count : ℕ) → IsHeap base len before → 3 ≤ count → from + count ≤ length before → Filled before after from count (Of from) → IsHeap base len after
shape_placed base len before after from count shape room inside filled =
    shape_filled base len before after from count (Of from) shape filled (λ start same. let at : from ≡ start = cc in omega (arith, shape.long))

pub shape_freed : (base len : ℕ) (before after : List Mark) (from count : ℕ) → IsHeap base len before → Filled before after from count Free → IsHeap base len after
shape_freed base len before after from count shape filled =
    shape_filled base len before after from count Free shape filled (λ start same. cc)

-- Owners

no_owner : (heap : HeapModel) (held : List Block) (addr : ℕ) → All (λ b. has_address heap addr b ≡ false) held → owner_of heap held addr ≡ None
no_owner heap [] addr none = refl
no_owner heap (b ∷ held) addr none =
    let test = has_address heap addr in
    ap (option_map (λ (b : Block). address_of heap b.place)) (cond-false (test b) (Some b) (find test held) (All-head (λ b. test b ≡ false) b held none))
    ∙ no_owner heap held addr (All-tail (λ b. test b ≡ false) b held none)

address_below : (heap : HeapModel) (addr : ℕ) (b : Block) → addr < heap.base → has_address heap addr b ≡ false
address_below heap addr b below =
    and_left (nat_le (heap.base + b.place) addr) (nat_lt addr (heap.base + b.place + b.length)) (lt-leb (heap.base + b.place) addr (omega arith))

pub below_owns : (heap : HeapModel) (held : List Block) (addr : ℕ) → addr < heap.base → owner_of heap held addr ≡ None
below_owns heap held addr below =
    no_owner heap held addr (λ i d less. address_below heap addr (get_or held i d) below)

module _ (heap : HeapModel) (addr n off : ℕ) (at : addr ≡ heap.base + off) (n_is : n ≡ off / 16) where
  out_address : (len : ℕ) (b : Block) → IsBlock len b → IsOut (n * 16) b → has_address heap addr b ≡ false
  out_address len b block (inl h) =
      and_left (nat_le (heap.base + b.place) addr) (nat_lt addr (heap.base + b.place + b.length)) (lt-leb (heap.base + b.place) addr (omega (arith, block.aligned)))
  out_address len b block (inr h) =
      and_right (nat_le (heap.base + b.place) addr) (nat_lt addr (heap.base + b.place + b.length)) (le-ltb addr (heap.base + b.place + b.length) (omega arith))

  in_address : (len : ℕ) (b : Block) → IsBlock len b → IsIn (n * 16) b → has_address heap addr b ≡ true
  in_address len b block i =
      and_from (nat_le (heap.base + b.place) addr) (nat_lt addr (heap.base + b.place + b.length))
      (le-leb (heap.base + b.place) addr (omega (arith, i.above))) (lt-ltb addr (heap.base + b.place + b.length) (omega (arith, i.below, block.aligned, block.whole)))

  pub out_owner : (held : List Block) → All (IsBlock heap.len) held → All (IsOut (n * 16)) held → owner_of heap held addr ≡ None
  out_owner held blocks out =
      no_owner heap held addr (λ i d below. out_address heap.len (get_or held i d) (blocks i d below) (out i d below))

  -- the first block by which a place is marked is the first that has its bytes
  marked_owner : (held : List Block) (start : ℕ) → All (IsBlock heap.len) held → mark_of held (n * 16) ≡ Of start → owner_of heap held addr ≡ Some (address_of heap (start * 16))
  marked_owner [] start blocks marked = cc
  marked_owner (b ∷ held) start blocks marked =
      let test = has_address heap addr in
      let address = option_map (λ (b : Block). address_of heap b.place) in
      let block = All-head (IsBlock heap.len) b held blocks in
      elim (in_or_out (n * 16) b) [
        | inl i ↦ let same : Of (b.place / 16) ≡ Of start = sym (mark_in b held (n * 16) i) ∙ marked in
            let started : b.place / 16 ≡ start = cc in
            let place_is : b.place ≡ start * 16 = omega (arith, block.aligned) in
            ap address (cond-true (test b) (Some b) (find test held) (in_address heap.len b block i)) ∙ ap (λ p. Some (address_of heap p)) place_is
        | inr out ↦ ap address (cond-false (test b) (Some b) (find test held) (out_address heap.len b block out))
            ∙ marked_owner held start (All-tail (IsBlock heap.len) b held blocks) (sym (mark_out b held (n * 16) out) ∙ marked)
      ]

  module _ (held : List Block) (shape : IsHeap heap.base heap.len heap.marks) (holds : Holds heap held) where
    pub mark_owns : (start : ℕ) → slice_get heap.marks n ≡ Some (Of start) → owner_of heap held addr ≡ Some (address_of heap (start * 16))
    mark_owns start here =
        let below : n < length heap.marks = slice_get_within heap.marks n (Of start) here in
        marked_owner held start holds.blocks (same_Some (mark_of held (n * 16)) (Of start) (sym (holds.marks n below) ∙ here))

    pub free_owns : slice_get heap.marks n ≡ Some Free → owner_of heap held addr ≡ None
    free_owns free =
        let below : n < length heap.marks = slice_get_within heap.marks n Free free in
        out_owner held holds.blocks (out_from_free held (n * 16) (same_Some (mark_of held (n * 16)) Free (sym (holds.marks n below) ∙ free)))

    pub past_owns : length heap.marks ≤ n → owner_of heap held addr ≡ None
    past_owns past =
        out_owner held holds.blocks (λ k d less. let block = holds.blocks k d less in inr (omega (arith, block.within, block.aligned, block.whole, shape.long)))

-- The owner of an address of a block that is held

owner_at : (heap : HeapModel) (addr place : ℕ) (held : List Block) (k : ℕ) (d : Block) → k < length held → has_address heap addr (get_or held k d) ≡ true → All (λ c. has_address heap addr c ≡ true → c.place ≡ place) held
    → owner_of heap held addr ≡ Some (address_of heap place)
owner_at heap addr place [] k d below here known = absurd (omega arith)
owner_at heap addr place (c ∷ held) zero d below here known =
    let test = has_address heap addr in
    ap (option_map (λ (b : Block). address_of heap b.place)) (cond-true (test c) (Some c) (find test held) here)
    ∙ ap (λ p. Some (address_of heap p)) (All-head (λ c. test c ≡ true → c.place ≡ place) c held known here)
owner_at heap addr place (c ∷ held) (suc k) d below here known =
    let test = has_address heap addr in
    let address = option_map (λ (b : Block). address_of heap b.place) in
    elim (cases_Bool (test c)) [
      | inl hit ↦ ap address (cond-true (test c) (Some c) (find test held) hit)
          ∙ ap (λ p. Some (address_of heap p)) (All-head (λ c. test c ≡ true → c.place ≡ place) c held known hit)
      | inr miss ↦ ap address (cond-false (test c) (Some c) (find test held) miss)
          ∙ owner_at heap addr place held k d (omega arith) here (All-tail (λ c. test c ≡ true → c.place ≡ place) c held known)
    ]

has_address_true : (heap : HeapModel) (addr : ℕ) (b : Block) → HasAddress heap addr b → has_address heap addr b ≡ true
has_address_true heap addr b (low, high) =
    and_from (nat_le (heap.base + b.place) addr) (nat_lt addr (heap.base + b.place + b.length)) (le-leb (heap.base + b.place) addr low) (lt-ltb addr (heap.base + b.place + b.length) high)

has_address_only : (heap : HeapModel) (addr : ℕ) (b : Block) → has_address heap addr b ≡ true → HasAddress heap addr b
has_address_only heap addr b h =
    let both = and_parts (nat_le (heap.base + b.place) addr) (nat_lt addr (heap.base + b.place + b.length)) h in
    (leb-true (heap.base + b.place) addr both.0, ltb-true addr (heap.base + b.place + b.length) both.1)

-- blocks that are apart have no address in common
not_both : {P : Type 0} (heap : HeapModel) (addr : ℕ) (a b : Block) → AreApart a b → HasAddress heap addr a → HasAddress heap addr b → P
not_both heap addr a b (inl h) (low, high) (low', high') = absurd (omega arith)
not_both heap addr a b (inr h) (low, high) (low', high') = absurd (omega arith)

pub held_owns : (heap : HeapModel) (held : List Block) (b : Block) (addr : ℕ) → Holds heap held → Contains held b → HasAddress heap addr b → owner_of heap held addr ≡ Some (address_of heap b.place)
held_owns heap held b addr holds is_held has =
    let k = is_held.0 in
    let same : get_or held k b ≡ b = is_held.2 in
    let here : HasAddress heap addr (get_or held k b) = subst (HasAddress heap addr) (sym same) has in
    owner_at heap addr b.place held k b is_held.1 (has_address_true heap addr (get_or held k b) here)
    (All-from_get_or (λ c. has_address heap addr c ≡ true → c.place ≡ b.place) held b (λ i below hit.
    let there = has_address_only heap addr (get_or held i b) hit in
    elim (cases_order i k) [
      | inl e ↦ ap (λ (c : Block). c.place) (ap (λ j. get_or held j b) e ∙ same)
      | inr (inl h) ↦ not_both heap addr (get_or held i b) (get_or held k b) (holds.apart i k b h is_held.1) there here
      | inr (inr h) ↦ not_both heap addr (get_or held k b) (get_or held i b) (holds.apart k i b h below) here there
    ]))
