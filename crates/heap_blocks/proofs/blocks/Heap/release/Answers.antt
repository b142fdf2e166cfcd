use Rattle.std.proofs.Common.{◌≡◌, ◌+◌, ◌-◌, ◌/◌, ℕ, refl, sym, ap, subst}
use Rattle.hs_base.specs.Place.{without_block}
use Rattle.heap_blocks.specs.declared.marks.Mark.TheVariants.{Free}
use Rattle.heap_blocks.specs.Held.{HeapModel, HasHeaders, IsObject}
use Rattle.heap_blocks.proofs.Holing.{object_taken, same_filled}
use Rattle.heap_blocks.proofs.Owning.{shape_freed}
use Rattle.heap_blocks.proofs.Returning.{released, headers_released}
use Rattle.heap_blocks.proofs.blocks.Heap.release.Goals as goal

pub give-requires-clause-taken : goal.give-requires-clause-taken
give-requires-clause-taken g c =
    let heap : HeapModel = record { base = c.self.inside.base; len = c.self.inside.len; marks = c.self.inside.marks } in
    let same : heap ≡ c.args.self.now = c.self.view_is in
    let held = c.requires.object.0 in
    let b = c.requires.object.1 in
    let object = subst (λ (h : HeapModel). IsObject h c.args.bytes.now c.args.addr held b) (sym same) c.requires.object.2 in
    object_taken heap c.args.bytes.now c.args.addr c.read_size-size.result held b c.self.inside.holes c.self.invariant.shape c.self.invariant.same object c.read_size-size.ensures.size

pub invariant_of-self : goal.invariant_of-self
invariant_of-self g c =
    let marks = c.self.inside.marks in
    let from = (c.args.addr - 32 - c.self.inside.base) / 16 in
    let count = c.read_size-size.result / 16 + 3 in
    let marked = c.fill.ensures in
    record {
      shape = shape_freed c.self.inside.base c.self.inside.len marks c.fill.new.self from count c.self.invariant.shape marked;
      same = same_filled marks c.self.inside.holes c.self.invariant.same c.fill.new.self c.give.new.self from count Free marked c.give.ensures;
    }

pub returns-clause-held : goal.returns-clause-held
returns-clause-held g c = λ held b object births.
    let heap : HeapModel = record { base = c.self.inside.base; len = c.self.inside.len; marks = c.self.inside.marks } in
    let same : heap ≡ c.args.self.now = c.self.view_is in
    released heap c.args.bytes.now c.args.addr c.read_size-size.result held b heap.marks c.fill.new.self (subst (λ (h : HeapModel). IsObject h c.args.bytes.now c.args.addr held b) (sym same) object) births c.read_size-size.ensures.size refl c.fill.ensures

pub returns-clause-headers : goal.returns-clause-headers
returns-clause-headers g c = λ held b object.
    let base : c.self.inside.base ≡ c.args.self.now.base = ap (λ (h : HeapModel). h.base) c.self.view_is in
    subst (λ (n : ℕ). HasHeaders n c.args.bytes.now (without_block held b.birth)) (sym base) (headers_released c.args.self.now.base c.args.bytes.now held b.birth object.headers)
