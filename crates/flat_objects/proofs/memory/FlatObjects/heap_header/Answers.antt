use Rattle.std.proofs.Common.{◌≡◌, ◌∙◌, length, ap, subst, arith, sym}
use Rattle.delay_scopes.specs.Queue.{header_of}
use Rattle.flat_objects.specs.Memory.{Memory, IsMemory}
use Rattle.flat_objects.specs.Keeping.{IsHeaderOf}
use Rattle.heap_blocks.specs.declared.headers.Header.{Header}
use Rattle.hs_base.specs.Object.{object_at}
use Rattle.flat_objects.proofs.HeapStarts.{start_head, start_header}
use Rattle.flat_objects.proofs.memory.FlatObjects.heap_header.Goals as goal

pub read-requires-clause-inside : goal.read-requires-clause-inside
read-requires-clause-inside g c =
    let places = c.requires.0 in
    let objects = c.requires.1 in
    let keeps = c.requires.2 in
    let shape = subst (IsMemory c.self.inside.locals_from c.self.inside.heap_from) c.self.view_is c.self.invariant in
    let start = (c.is_heap_start.ensures.start places objects keeps).0 c.if-not-is_heap_start.false in
    let head = start_head c.args.self.now places objects keeps c.args.addr c.self.inside.locals_from c.self.inside.heap_from shape start in
    let bytes = ap (λ (m : Memory). length m.bytes) c.self.view_is in
    omega (arith, head.room, head.inside)

pub returns-clause-header : goal.returns-clause-header
returns-clause-header g c = λ places objects keeps.
    let start = (c.is_heap_start.ensures.start places objects keeps).0 c.if-not-is_heap_start.false in
    let read : c.read.result ≡ header_of c.args.self.now.bytes c.args.addr = c.read.ensures.header ∙ ap (λ (m : Memory). header_of m.bytes c.args.addr) c.self.view_is in
    (start, subst (λ (h : Header). IsHeaderOf h start.birth (object_at objects start.birth)) (sym read) (start_header c.args.self.now places objects keeps c.args.addr start))
