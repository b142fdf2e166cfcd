use Rattle.std.proofs.Common.{◌≡◌, ◌∙◌, sym, subst}
use Rattle.heap_blocks.specs.Held.{Holds, owner_of}
use Rattle.flat_objects.specs.Memory.{Memory, Heap}
use Rattle.flat_objects.specs.Keeping.{blocks_of}
use Rattle.flat_objects.proofs.HeapStarts.{owner_of_start, owner_test, start_owned}
use Rattle.flat_objects.proofs.memory.FlatObjects.is_heap_start.Goals as goal

pub returns-clause-start : goal.returns-clause-start
returns-clause-start g c = λ places objects keeps.
    let memory = c.args.self.now in
    let held = blocks_of memory places objects Heap in
    let owner : c.owner.result ≡ owner_of memory.heap held c.args.addr =
    subst (λ (m : Memory). c.owner.result ≡ owner_of m.heap held c.args.addr) c.self.view_is (c.owner.ensures.owner held (subst (λ (m : Memory). Holds m.heap held) (sym c.self.view_is) (keeps.held Heap))) in
    let says = owner_test c.owner.result c.args.addr in (
      (λ t. start_owned memory places objects keeps c.args.addr (sym owner ∙ says.0 (sym c.eq.ensures ∙ t))),
      (λ start. c.eq.ensures ∙ says.1 (owner ∙ owner_of_start memory places objects keeps c.args.addr start)),
    )
