use Rattle.std.proofs.Common.{◌≡◌, ◌+◌, ◌*◌, ◌/◌, ◌∙◌, ℕ, Option, Some, sym, ap, subst, arith}
use Rattle.std.specs.Prelude.{option_map}
use Rattle.hs_base.specs.Place.{block_size, with_block}
use Rattle.heap_blocks.specs.declared.headers.Header.{Header}
use Rattle.heap_blocks.specs.declared.marks.Mark.TheVariants.{Of}
use Rattle.heap_blocks.specs.Runs.{IsFirstRun}
use Rattle.heap_blocks.specs.Held.{HeapModel, Holds, HasHeaders, address_of, fit_of}
use Rattle.heap_blocks.proofs.Holing.{hole_from_run, same_filled}
use Rattle.heap_blocks.proofs.Holding.{marked_heap}
use Rattle.heap_blocks.proofs.Objects.{new_object}
use Rattle.heap_blocks.proofs.Owning.{shape_placed}
use Rattle.heap_blocks.proofs.Placing.{none_fits, placed_address, placed_headers, placed_holds}
use Rattle.heap_blocks.proofs.blocks.Heap.place.Goals as goal

pub take-requires-clause-free : goal.take-requires-clause-free
take-requires-clause-free g c =
    let heap : HeapModel = record { base = c.self.inside.base; len = c.self.inside.len; marks = c.self.inside.marks } in
    let same : heap ≡ c.args.self.now = (c.self.view_is ∙ c.room.ensures.same) in
    let count = c.args.size / 16 + 3 in
    let first = subst (λ (h : HeapModel). IsFirstRun h.marks count c.in-Some.from) (sym same) c.in-Some.ensures.place in
    hole_from_run heap.marks c.self.inside.holes c.self.invariant.same c.in-Some.from count first.run

pub invariant_of-self : goal.invariant_of-self
invariant_of-self g c =
    let heap : HeapModel = record { base = c.self.inside.base; len = c.self.inside.len; marks = c.self.inside.marks } in
    let same : heap ≡ c.args.self.now = (c.self.view_is ∙ c.room.ensures.same) in
    let count = c.args.size / 16 + 3 in
    let first = subst (λ (h : HeapModel). IsFirstRun h.marks count c.in-Some.from) (sym same) c.in-Some.ensures.place in
    let marked = c.fill.ensures in
    record {
      shape = shape_placed heap.base heap.len heap.marks c.fill.new.self c.in-Some.from count c.self.invariant.shape (omega arith) first.run.inside marked;
      same = same_filled heap.marks c.self.inside.holes c.self.invariant.same c.fill.new.self c.take.new.self c.in-Some.from count (Of c.in-Some.from) marked c.take.ensures;
    }

pub returns-in_default-clause-address : goal.returns-in_default-clause-address
returns-in_default-clause-address g c = λ held holds.
    let heap = c.args.self.now in
    sym (ap (option_map (address_of heap)) (none_fits heap held c.args.size c.room.ensures.shape holds c.in_default.ensures.place))

pub returns-in_default-clause-held : goal.returns-in_default-clause-held
returns-in_default-clause-held g c = λ held holds.
    let heap = c.args.self.now in
    let same = subst (λ (fit : Option ℕ). Holds heap (with_block held c.args.birth (block_size c.args.size) fit)) (sym (none_fits heap held c.args.size c.room.ensures.shape holds c.in_default.ensures.place)) holds in
    subst (λ (h : HeapModel). Holds h (with_block held c.args.birth (block_size c.args.size) (fit_of heap held c.args.size))) (sym c.room.ensures.same) same

pub returns-in_default-clause-headers : goal.returns-in_default-clause-headers
returns-in_default-clause-headers g c = λ held holds headers.
    let heap = c.args.self.now in
    let same = subst (λ (fit : Option ℕ). HasHeaders heap.base c.args.bytes.now (with_block held c.args.birth (block_size c.args.size) fit)) (sym (none_fits heap held c.args.size c.room.ensures.shape holds c.in_default.ensures.place)) headers in
    subst (λ (h : HeapModel). HasHeaders h.base c.args.bytes.now (with_block held c.args.birth (block_size c.args.size) (fit_of heap held c.args.size))) (sym c.room.ensures.same) same

pub returns-clause-address : goal.returns-clause-address
returns-clause-address g c = λ held holds.
    let heap = c.args.self.now in
    let base : c.self.inside.base ≡ heap.base = ap (λ (h : HeapModel). h.base) (c.self.view_is ∙ c.room.ensures.same) in
    placed_address heap held c.args.size c.room.ensures.shape holds c.in-Some.from (c.self.inside.base + 16 * c.in-Some.from + 32) c.in-Some.ensures.place (omega arith)

pub returns-clause-held : goal.returns-clause-held
returns-clause-held g c = λ held holds.
    let heap : HeapModel = record { base = c.self.inside.base; len = c.self.inside.len; marks = c.self.inside.marks } in
    let same : heap ≡ c.args.self.now = (c.self.view_is ∙ c.room.ensures.same) in
    let count = c.args.size / 16 + 3 in
    let first = subst (λ (h : HeapModel). IsFirstRun h.marks count c.in-Some.from) (sym same) c.in-Some.ensures.place in
    let marked = c.fill.ensures in
    subst (λ (h : HeapModel). Holds (marked_heap heap c.fill.new.self) (with_block held c.args.birth (block_size c.args.size) (fit_of h held c.args.size))) same
    (placed_holds heap held c.args.size c.self.invariant.shape (subst (λ (h : HeapModel). Holds h held) (sym same) holds) c.in-Some.from c.args.birth c.fill.new.self first marked)

pub returns-clause-headers : goal.returns-clause-headers
returns-clause-headers g c = λ held holds headers.
    let heap = c.args.self.now in
    let base : c.self.inside.base ≡ heap.base = ap (λ (h : HeapModel). h.base) (c.self.view_is ∙ c.room.ensures.same) in
    subst (λ (n : ℕ). HasHeaders n c.write_block.new.bytes (with_block held c.args.birth (block_size c.args.size) (fit_of heap held c.args.size))) (sym base)
    (placed_headers heap held c.args.size c.room.ensures.shape holds c.args.bytes.now c.write_block.new.bytes c.in-Some.from c.args.birth (c.self.inside.base + 16 * c.in-Some.from) c.new-header.result c.in-Some.ensures.place headers c.write_block.ensures.placed (omega arith) (ap (λ (h : Header). h.birth) c.new-header.ensures) (ap (λ (h : Header). h.size) c.new-header.ensures))

pub returns-clause-object : goal.returns-clause-object
returns-clause-object g c = λ held holds headers.
    let old = c.args.self.now in
    let fit = fit_of old held c.args.size in
    let addr = c.self.inside.base + 16 * c.in-Some.from + 32 in
    let base : c.self.inside.base ≡ old.base = ap (λ (h : HeapModel). h.base) (c.self.view_is ∙ c.room.ensures.same) in
    let new : HeapModel = record { base = c.self.inside.base; len = c.self.inside.len; marks = c.fill.new.self } in
    new_object new c.write_block.new.bytes held c.args.birth c.args.size addr fit
    (subst (λ (n : ℕ). Some addr ≡ option_map (λ (p : ℕ). n + p + 32) fit) (sym base) (returns-clause-address g c held holds))
    (returns-clause-held g c held holds) (returns-clause-headers g c held holds headers)
