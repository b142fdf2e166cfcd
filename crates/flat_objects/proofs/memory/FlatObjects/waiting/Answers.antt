use Rattle.std.proofs.Common.{◌≡◌, ap, refl, subst, arith}
use Rattle.flat_objects.specs.Memory.{Memory, IsMemory, end_of}
use Rattle.flat_objects.proofs.Waited.{none_yet, one_waits, some_wait, sums, tally_met}
use Rattle.flat_objects.proofs.memory.FlatObjects.waiting.Goals as goal

pub loop-granule-init : goal.loop-granule-init
loop-granule-init g c =
    let shape = subst (IsMemory c.self.inside.locals_from c.self.inside.heap_from) c.self.view_is c.self.invariant in
    let base = ap (λ (m : Memory). m.heap.base) c.self.view_is in
    record {
      sums = λ places objects keeps. none_yet c.self.inside.locals_from c.self.inside.heap_from c.args.self.now shape places objects keeps c.args.asked _ _ (omega (arith, c.base-granule.ensures.base)) refl refl refl;
      few = omega arith;
      small = omega arith;
      low = omega arith;
      work = omega (arith, c.base-granule.ensures.base);
    }

pub loop-granule-preserved : goal.loop-granule-preserved
loop-granule-preserved g c =
    let shape = subst (IsMemory c.self.inside.locals_from c.self.inside.heap_from) c.self.view_is c.self.invariant in
    let kept = c.loop-granule.invariant in
    record {
      sums = λ places objects keeps.
          tally_met c.self.inside.locals_from c.self.inside.heap_from c.args.self.now shape places objects keeps c.args.asked c.loop-granule.granule c.loop-granule.tally c.with_waiting-tally.result c.heap_header-found.result
          c.with_waiting-tally.ensures.met (c.heap_header-found.ensures.header places objects keeps) (kept.sums places objects keeps);
      few = omega (arith, kept.few, c.with_waiting-tally.ensures.few);
      small = omega (arith, kept.small, c.with_waiting-tally.ensures.small);
      low = omega (arith, kept.low, c.with_waiting-tally.ensures.low);
      work = omega (arith, kept.work, c.heap_header-found.ensures.work);
    }

-- one line is no more than a header holds
pub overflow_cast-result : goal.overflow_cast-result
overflow_cast-result g c = omega (arith, c.loop-granule.invariant.low, c.if-tally-eq1.true)

pub returns-then-tally-eq1-clause-waiting : goal.returns-then-tally-eq1-clause-waiting
returns-then-tally-eq1-clause-waiting g c = λ places objects keeps.
    let shape = subst (IsMemory c.self.inside.locals_from c.self.inside.heap_from) c.self.view_is c.self.invariant in
    let end : end_of c.self.inside.heap ≡ end_of c.args.self.now.heap = ap (λ (m : Memory). end_of m.heap) c.self.view_is in
    let all = sums c.self.inside.locals_from c.self.inside.heap_from c.args.self.now shape places objects keeps c.args.asked c.loop-granule.granule c.loop-granule.tally (omega (arith, c.end-granule-end.ensures))
    (c.loop-granule.invariant.sums places objects keeps) in
    one_waits c.self.inside.locals_from c.self.inside.heap_from c.args.self.now shape places objects keeps c.args.asked c.loop-granule.tally _ all refl refl c.if-tally-eq1.true refl

pub returns-else-tally-eq1-clause-waiting : goal.returns-else-tally-eq1-clause-waiting
returns-else-tally-eq1-clause-waiting g c = λ places objects keeps.
    let shape = subst (IsMemory c.self.inside.locals_from c.self.inside.heap_from) c.self.view_is c.self.invariant in
    let end : end_of c.self.inside.heap ≡ end_of c.args.self.now.heap = ap (λ (m : Memory). end_of m.heap) c.self.view_is in
    let all = sums c.self.inside.locals_from c.self.inside.heap_from c.args.self.now shape places objects keeps c.args.asked c.loop-granule.granule c.loop-granule.tally (omega (arith, c.end-granule-end.ensures))
    (c.loop-granule.invariant.sums places objects keeps) in
    some_wait c.self.inside.locals_from c.self.inside.heap_from c.args.self.now shape places objects keeps c.args.asked c.loop-granule.tally _ all refl refl c.if-tally-eq1.false refl
