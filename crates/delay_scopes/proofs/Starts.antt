-- The starts of the objects of held blocks.
use Rattle.std.proofs.Common.{◌≡◌, ◌≢◌, ◌≤◌, ◌<◌, ◌+◌, ◌-◌, ◌^◌, inl, inr, ℕ, suc, true, List, [], ◌∷◌, length, get_or, Option, Some, None, refl, sym, ap, ◌∙◌, subst, arith}
use Rattle.std.specs.Prelude.{◌↔◌, Contains, find, nat_eq, option_map}
use Rattle.std.specs.Option.{option_eq}
use Rattle.std.proofs.lemmas.Bool.{cases_Bool, cases_order, cond-true, cond-false, eq-eqb, eqb-true, false≢true}
use Rattle.std.proofs.lemmas.List.{get_or_default}
use Rattle.std.proofs.lemmas.List.Elements.{All-contains}
use Rattle.std.proofs.lemmas.Option.{none-some, same_Some}
use Rattle.hs_base.specs.Place.{Block, block_size}
use Rattle.heap_blocks.specs.Heads.{header_at}
use Rattle.heap_blocks.specs.Held.{HeapModel, AreApart, HasAddress, HasHeader, HasHeaders, Holds, IsBlock, address_of, has_address, owner_of}
use Rattle.heap_blocks.specs.Laws.{OwnersAreFound}
use Rattle.delay_scopes.specs.Queue.{IsStart, header_of}
use Rattle.delay_scopes.specs.Walks.{IsInside}

-- Who owns a start

contains_later : (b c : Block) (held : List Block) → Contains held b → Contains (c ∷ held) b
contains_later b c held (k, below, same) = (suc k, omega arith, same)

-- an address that is its owner is a start
pub start_from_owner : (heap : HeapModel) (held : List Block) (addr : ℕ) → Some addr ≡ owner_of heap held addr → IsStart heap.base held addr
start_from_owner heap [] addr owns = absurd (none-some addr (sym owns))
start_from_owner heap (b ∷ held) addr owns =
    let test = has_address heap addr in
    let address = option_map (λ (b : Block). address_of heap b.place) in
    elim (cases_Bool (test b)) [
      | inl hit ↦ record {
        block = b;
        contains = (0, omega arith, refl);
        address = same_Some addr (address_of heap b.place) (owns ∙ ap address (cond-true (test b) (Some b) (find test held) hit));
      }
      | inr miss ↦ let rest = start_from_owner heap held addr (owns ∙ ap address (cond-false (test b) (Some b) (find test held) miss)) in
          record { block = rest.block; contains = contains_later rest.block b held rest.contains; address = rest.address }
    ]

-- whether an owner is an address, as a test
pub owner_test : (owner : Option ℕ) (addr : ℕ) → (option_eq nat_eq owner (Some addr) ≡ true) ↔ (owner ≡ Some addr)
owner_test None addr = ((λ t. absurd (false≢true t)), (λ e. absurd (none-some addr e)))
owner_test (Some x) addr = ((λ t. ap Some (eqb-true x addr t)), (λ e. eq-eqb x addr (same_Some x addr e)))

module _ (heap : HeapModel) (held : List Block) (addr : ℕ) (holds : Holds heap held) (start : IsStart heap.base held addr) where
  pub start_block : IsBlock heap.len start.block
  start_block = All-contains (IsBlock heap.len) held start.block holds.blocks start.contains

  -- a start is its own owner
  pub owner_of_start : OwnersAreFound → owner_of heap held addr ≡ Some addr
  owner_of_start found =
      let has : HasAddress heap addr start.block = (omega (arith, start.address), omega (arith, start.address, start_block.room)) in
      found heap held start.block addr holds start.contains has ∙ ap Some (sym start.address)

  module _ (bytes : List ℕ) (headers : HasHeaders heap.base bytes held) (inside : heap.base + heap.len ≤ length bytes) where
    pub block_is : addr - 32 ≡ heap.base + start.block.place
    block_is = omega (arith, start.address)

    pub block_header : HasHeader heap.base bytes start.block
    block_header = All-contains (HasHeader heap.base bytes) held start.block headers start.contains

    pub birth_is : (header_of bytes addr).birth ≡ start.block.birth
    birth_is = ap (λ a. (header_at bytes a).birth) block_is ∙ block_header.birth

    pub length_is : block_size (header_of bytes addr).size ≡ start.block.length
    length_is =
        ap (λ a. block_size (header_at bytes a).size) block_is ∙ block_header.size

    pub start_ends : addr - 32 + block_size (header_of bytes addr).size ≤ heap.base + heap.len
    start_ends = omega (arith, block_is, length_is, start_block.within)

    pub start_inside : addr + (header_of bytes addr).size < 2 ^ 32 → IsInside bytes addr
    start_inside reach = record { start = omega (arith, start.address); inside = omega (arith, start_ends, inside); reach = reach }

pub swapped : (a b : Block) → AreApart a b → AreApart b a
swapped a b (inl h) = inr h
swapped a b (inr h) = inl h

-- blocks of different starts are apart
pub starts_apart : (heap : HeapModel) (held : List Block) (a b : ℕ) → Holds heap held → (s : IsStart heap.base held a) → (t : IsStart heap.base held b) → a ≢ b → AreApart s.block t.block
starts_apart heap held a b holds s t other =
    let i = s.contains.0 in
    let j = t.contains.0 in
    let x = get_or held i s.block in
    let y = get_or held j s.block in
    let first : x ≡ s.block = s.contains.2 in
    let second : y ≡ t.block = get_or_default held j s.block t.block t.contains.1 ∙ t.contains.2 in
    elim (cases_order i j) [
      | inl e ↦ let same : s.block ≡ t.block = sym first ∙ ap (λ k. get_or held k s.block) e ∙ second in
          absurd (other (s.address ∙ ap (λ (c : Block). heap.base + c.place + 32) same ∙ sym t.address))
      | inr (inl less) ↦ subst (λ (c : Block). AreApart c t.block) first (subst (AreApart x) second (holds.apart i j s.block less t.contains.1))
      | inr (inr less) ↦ swapped t.block s.block (subst (λ (c : Block). AreApart c s.block) second (subst (AreApart y) first (holds.apart j i s.block less s.contains.1)))
    ]
