use Rattle.std.proofs.Common.{◌≡◌, ◌∙◌, ◌+◌, length, ap, subst, arith}
use Rattle.byte_memory.specs.Bytes.{word}
use Rattle.byte_memory.specs.BytesEquations.{word_1}
use Rattle.flat_objects.specs.Memory.{Memory, IsMemory}
use Rattle.flat_objects.proofs.Behind.{string_byte_is}
use Rattle.flat_objects.proofs.memory.FlatObjects.string_byte.Goals as goal

pub overflow_add-addr : goal.overflow_add-addr
overflow_add-addr g c =
    let k = c.requires in
    let shape = subst (IsMemory c.self.inside.locals_from c.self.inside.heap_from) c.self.view_is c.self.invariant in
    let told = string_byte_is c.self.inside.locals_from c.self.inside.heap_from c.args.self.now shape k.0 k.1 k.2 c.args.addr k.3 c.args.i k.4 in
    omega (arith, told.0, shape.reach)

pub read-requires-clause-inside : goal.read-requires-clause-inside
read-requires-clause-inside g c =
    let k = c.requires in
    let shape = subst (IsMemory c.self.inside.locals_from c.self.inside.heap_from) c.self.view_is c.self.invariant in
    let told = string_byte_is c.self.inside.locals_from c.self.inside.heap_from c.args.self.now shape k.0 k.1 k.2 c.args.addr k.3 c.args.i k.4 in
    let bytes : length c.self.inside.bytes ≡ length c.args.self.now.bytes = ap (λ (m : Memory). length m.bytes) c.self.view_is in
    omega (arith, told.0)

pub returns : goal.returns
returns g c = λ places objects p bytes string.
    let shape = subst (IsMemory c.self.inside.locals_from c.self.inside.heap_from) c.self.view_is c.self.invariant in
    let told = string_byte_is c.self.inside.locals_from c.self.inside.heap_from c.args.self.now shape places objects p c.args.addr bytes c.args.i string in
    c.read.ensures.value ∙ ap (λ (m : Memory). word m.bytes (c.args.addr + c.args.i) 1) c.self.view_is ∙ word_1 c.args.self.now.bytes (c.args.addr + c.args.i) told.0 ∙ told.1
