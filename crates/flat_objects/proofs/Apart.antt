-- Objects that are not dead stand apart.
use Rattle.std.proofs.Common.{◌≡◌, ◌≤◌, ◌+◌, ◌⊎◌, inl, inr, ℕ, List, ap, refl, subst, arith}
use Rattle.std.specs.Prelude.{Contains}
use Rattle.hs_base.specs.Object.{Object, object_at}
use Rattle.hs_base.specs.Place.{Block}
use Rattle.heap_blocks.specs.Held.{AreApart}
use Rattle.flat_objects.specs.Memory.{Memory, Range, Statics, Locals, Heap, IsMemory, heap_of, range_of, end_of}
use Rattle.flat_objects.specs.Standing.{IsThere}
use Rattle.flat_objects.specs.Keeping.{Keeps, blocks_of}
use Rattle.flat_objects.proofs.Members.{related}
use Rattle.flat_objects.proofs.Blocks.{own_block, block_is_held}
use Rattle.flat_objects.proofs.Owners.{own_range, own_lies}

-- one object with one byte more ends before the header of another
abbrev pub EndsBefore : (ℕ → ℕ) → List Object → ℕ → ℕ → Type 0
EndsBefore places objects b c = places b + (object_at objects b).size + 33 ≤ places c

-- two ranges are the same, or one ends before the other
abbrev pub RangesApart : Memory → Range → Range → Type 0
RangesApart memory r s =
    (r ≡ s) ⊎ ((end_of (heap_of memory r) ≤ (heap_of memory s).base) ⊎ (end_of (heap_of memory s) ≤ (heap_of memory r).base))

module _ (locals heap : ℕ) (memory : Memory) (shape : IsMemory locals heap memory) where
  pub ranges_apart : (r s : Range) → RangesApart memory r s
  ranges_apart Statics Statics = inl refl
  ranges_apart Statics Locals = inr (inl (omega (arith, shape.statics_end, shape.locals_from)))
  ranges_apart Statics Heap = inr (inl (omega (arith, shape.statics_end, shape.locals_end, shape.locals_from, shape.heap_from)))
  ranges_apart Locals Statics = inr (inr (omega (arith, shape.statics_end, shape.locals_from)))
  ranges_apart Locals Locals = inl refl
  ranges_apart Locals Heap = inr (inl (omega (arith, shape.locals_end, shape.heap_from)))
  ranges_apart Heap Statics = inr (inr (omega (arith, shape.statics_end, shape.locals_end, shape.locals_from, shape.heap_from)))
  ranges_apart Heap Locals = inr (inr (omega (arith, shape.locals_end, shape.heap_from)))
  ranges_apart Heap Heap = inl refl

  module _ (places : ℕ → ℕ) (objects : List Object) (keeps : Keeps memory places objects) (b c : ℕ) (b_there : IsThere objects b) (c_there : IsThere objects c) (differ : b ≡ c → ⊥) where
    from_blocks : AreApart (own_block memory places objects b) (own_block memory places objects c) → range_of (object_at objects b).sort ≡ range_of (object_at objects c).sort → EndsBefore places objects b c ⊎ EndsBefore places objects c b
    from_blocks (inl h) same =
        let base : (own_range memory objects b).base ≡ (own_range memory objects c).base = ap (λ r. (heap_of memory r).base) same in
        inl (omega (arith, (keeps.standing b b_there).room, (keeps.standing c c_there).room))
    from_blocks (inr h) same =
        let base : (own_range memory objects b).base ≡ (own_range memory objects c).base = ap (λ r. (heap_of memory r).base) same in
        inr (omega (arith, (keeps.standing b b_there).room, (keeps.standing c c_there).room))

    pub objects_apart : EndsBefore places objects b c ⊎ EndsBefore places objects c b
    objects_apart =
        let lies_b = own_lies memory places objects keeps b b_there in
        let lies_c = own_lies memory places objects keeps c c_there in
        elim (ranges_apart (range_of (object_at objects b).sort) (range_of (object_at objects c).sort)) [
          | inr (inl h) ↦ inl (omega (arith, lies_b.below, lies_c.above))
          | inr (inr h) ↦ inr (omega (arith, lies_c.below, lies_b.above))
          | inl same ↦
              let range = range_of (object_at objects c).sort in
              let held_b = subst (λ (r : Range). Contains (blocks_of memory places objects r) (own_block memory places objects b)) same (block_is_held memory places objects b b_there) in
              let held_c = block_is_held memory places objects c c_there in
              elim (related AreApart (blocks_of memory places objects range) (own_block memory places objects b) (own_block memory places objects c) (keeps.held range).apart held_b held_c (λ e. differ (ap (λ (x : Block). x.birth) e))) [
                | inl h ↦ from_blocks h same
                | inr (inl h) ↦ from_blocks (inr h) same
                | inr (inr h) ↦ from_blocks (inl h) same
              ]
        ]
