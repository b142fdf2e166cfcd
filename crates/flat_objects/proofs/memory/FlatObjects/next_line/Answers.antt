use Rattle.std.proofs.Common.{◌≡◌, ap, subst, arith}
use Rattle.flat_objects.specs.Memory.{Memory, IsMemory, end_of}
use Rattle.flat_objects.proofs.Leaking.{next_is, next_met, no_line_yet}
use Rattle.flat_objects.proofs.memory.FlatObjects.next_line.Goals as goal

pub loop-granule-init : goal.loop-granule-init
loop-granule-init g c =
    let shape = subst (IsMemory c.self.inside.locals_from c.self.inside.heap_from) c.self.view_is c.self.invariant in
    let base = ap (λ (m : Memory). m.heap.base) c.self.view_is in
    record {
      next = λ places objects keeps. no_line_yet c.self.inside.locals_from c.self.inside.heap_from c.args.self.now shape places objects keeps c.args.after _ (omega (arith, c.base-granule.ensures.base));
      work = omega (arith, c.base-granule.ensures.base);
    }

pub loop-granule-preserved : goal.loop-granule-preserved
loop-granule-preserved g c =
    let shape = subst (IsMemory c.self.inside.locals_from c.self.inside.heap_from) c.self.view_is c.self.invariant in
    record {
      next = λ places objects keeps.
          next_met c.self.inside.locals_from c.self.inside.heap_from c.args.self.now shape places objects keeps c.args.after c.loop-granule.granule c.loop-granule.next c.with_line-next.result c.heap_header-found.result
          c.with_line-next.ensures (c.loop-granule.invariant.next places objects keeps) (c.heap_header-found.ensures.header places objects keeps);
      work = omega (arith, c.loop-granule.invariant.work, c.heap_header-found.ensures.work);
    }

pub returns-clause-line : goal.returns-clause-line
returns-clause-line g c = λ places objects keeps.
    let shape = subst (IsMemory c.self.inside.locals_from c.self.inside.heap_from) c.self.view_is c.self.invariant in
    let end : end_of c.self.inside.heap ≡ end_of c.args.self.now.heap = ap (λ (m : Memory). end_of m.heap) c.self.view_is in
    next_is c.self.inside.locals_from c.self.inside.heap_from c.args.self.now shape places objects keeps c.args.after c.loop-granule.granule c.loop-granule.next (omega (arith, c.end-granule-end.ensures))
    (c.loop-granule.invariant.next places objects keeps)
