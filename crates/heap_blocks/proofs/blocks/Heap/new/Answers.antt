use Rattle.std.proofs.Common.{◌/◌, List, [], refl, sym, subst}
use Rattle.heap_blocks.specs.declared.marks.Mark.{Mark}
use Rattle.heap_blocks.specs.Held.{HeapModel, Holds, IsHeapWithHoles}
use Rattle.heap_blocks.proofs.Holing.{empty_shape, holds_none}
use Rattle.heap_blocks.proofs.blocks.Heap.new.Goals as goal

pub invariant_of-result : goal.invariant_of-result
invariant_of-result c =
    let n = c.args.len / 16 in
    subst (λ (l : List Mark). IsHeapWithHoles c.args.base c.args.len l c.in_ok-new-2.field-0) (sym c.in_ok-new.ensures) (empty_shape c.args.base c.args.len n c.in_ok-new-2.field-0 c.requires.aligned c.requires.fits refl c.in_ok-new-2.ensures)

pub returns-clause-free : goal.returns-clause-free
returns-clause-free c =
    subst (λ (l : List Mark). let heap : HeapModel = record { base = c.args.base; len = c.args.len; marks = l } in Holds heap []) (sym c.in_ok-new.ensures) (holds_none c.args.base c.args.len (c.args.len / 16))
