use Rattle.std.proofs.Common.{◌≡◌, sym, subst}
use Rattle.heap_blocks.specs.Held.{Holds, owner_of}
use Rattle.flat_objects.specs.Memory.{Memory, Statics, Locals, Heap, heap_of}
use Rattle.flat_objects.proofs.memory.FlatObjects.owner.Goals as goal

pub returns-then-addr-self-clause-from : goal.returns-then-addr-self-clause-from
returns-then-addr-self-clause-from g c = λ held holds. (
  Statics,
  subst (λ (m : Memory). c.owner.result ≡ owner_of (heap_of m Statics) (held Statics) c.args.addr) c.self.view_is
      (c.owner.ensures.owner (held Statics) (subst (λ (m : Memory). Holds (heap_of m Statics) (held Statics)) (sym c.self.view_is) (holds Statics))),
)

pub returns-then-addr-self-2-clause-from : goal.returns-then-addr-self-2-clause-from
returns-then-addr-self-2-clause-from g c = λ held holds. (
  Locals,
  subst (λ (m : Memory). c.owner-then-addr-self-2.result ≡ owner_of (heap_of m Locals) (held Locals) c.args.addr) c.self.view_is
      (c.owner-then-addr-self-2.ensures.owner (held Locals) (subst (λ (m : Memory). Holds (heap_of m Locals) (held Locals)) (sym c.self.view_is) (holds Locals))),
)

pub returns-else-addr-self-2-clause-from : goal.returns-else-addr-self-2-clause-from
returns-else-addr-self-2-clause-from g c = λ held holds. (
  Heap,
  subst (λ (m : Memory). c.owner-else-addr-self-2.result ≡ owner_of (heap_of m Heap) (held Heap) c.args.addr) c.self.view_is
      (c.owner-else-addr-self-2.ensures.owner (held Heap) (subst (λ (m : Memory). Holds (heap_of m Heap) (held Heap)) (sym c.self.view_is) (holds Heap))),
)
