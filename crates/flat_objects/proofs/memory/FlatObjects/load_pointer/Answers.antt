use Rattle.std.proofs.Common.{◌∙◌, ap, subst}
use Rattle.byte_memory.specs.Bytes.{word}
use Rattle.flat_objects.specs.Memory.{Memory, IsMemory}
use Rattle.flat_objects.proofs.Loaded.{loaded_pointer_is}
use Rattle.flat_objects.proofs.memory.FlatObjects.load_pointer.Goals as goal

pub returns-clause-loads : goal.returns-clause-loads
returns-clause-loads g c = λ places objects p at.
    let shape = subst (IsMemory c.self.inside.locals_from c.self.inside.heap_from) c.self.view_is c.self.invariant in
    let allowed = c.in_ok-access_pointer.ensures.allows places objects p at in
    loaded_pointer_is c.self.inside.locals_from c.self.inside.heap_from c.args.self.now shape places objects p c.args.addr at allowed.0 c.read.result allowed.1
    (c.read.ensures.value ∙ ap (λ (m : Memory). word m.bytes c.args.addr 4) c.self.view_is)
