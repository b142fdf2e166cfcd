use Rattle.std.proofs.Common.{◌≡◌, ◌≤◌, ◌+◌, ◌*◌, ◌^◌, ◌∙◌, refl, ap, sym, subst, arith}
use Rattle.hs_base.specs.declared.ends.Leak.{Leak}
use Rattle.flat_objects.specs.Memory.{Memory, IsMemory, end_of}
use Rattle.flat_objects.specs.Leaks.{with_object}
use Rattle.flat_objects.proofs.Leaking.{blocks_met, bytes_met, few_met, leak_is, line_met, no_sum_yet, of_line, one_each, size_each, small_met}
use Rattle.flat_objects.proofs.memory.FlatObjects.leak_of.Goals as goal

pub loop-granule-init : goal.loop-granule-init
loop-granule-init g c =
    let shape = subst (IsMemory c.self.inside.locals_from c.self.inside.heap_from) c.self.view_is c.self.invariant in
    let base = ap (λ (m : Memory). m.heap.base) c.self.view_is in
    record {
      line = refl;
      blocks = λ places objects keeps. sym (no_sum_yet c.self.inside.locals_from c.self.inside.heap_from c.args.self.now shape places objects keeps one_each (of_line c.args.line) _ (omega (arith, c.base-granule.ensures.base)));
      bytes = λ places objects keeps. sym (no_sum_yet c.self.inside.locals_from c.self.inside.heap_from c.args.self.now shape places objects keeps size_each (of_line c.args.line) _ (omega (arith, c.base-granule.ensures.base)));
      few = omega arith;
      small = omega arith;
      work = omega (arith, c.base-granule.ensures.base);
    }

pub loop-granule-preserved : goal.loop-granule-preserved
loop-granule-preserved g c =
    let shape = subst (IsMemory c.self.inside.locals_from c.self.inside.heap_from) c.self.view_is c.self.invariant in
    let kept = c.loop-granule.invariant in
    let is : c.with_object-leak.result ≡ with_object c.loop-granule.leak c.heap_header-found.result = c.with_object-leak.ensures in
    record {
      line = ap (λ (l : Leak). l.line) is ∙ line_met c.loop-granule.leak c.heap_header-found.result ∙ kept.line;
      blocks = λ places objects keeps.
          ap (λ (l : Leak). l.blocks) is
          ∙ blocks_met c.self.inside.locals_from c.self.inside.heap_from c.args.self.now shape places objects keeps c.args.line c.loop-granule.granule c.loop-granule.leak c.heap_header-found.result
          (c.heap_header-found.ensures.header places objects keeps) kept.line (kept.blocks places objects keeps);
      bytes = λ places objects keeps.
          ap (λ (l : Leak). l.bytes) is
          ∙ bytes_met c.self.inside.locals_from c.self.inside.heap_from c.args.self.now shape places objects keeps c.args.line c.loop-granule.granule c.loop-granule.leak c.heap_header-found.result
          (c.heap_header-found.ensures.header places objects keeps) kept.line (kept.bytes places objects keeps);
      few = subst (λ (l : Leak). l.blocks ≤ c.loop-granule.granule + 1) (sym is) (few_met c.loop-granule.granule c.loop-granule.leak c.heap_header-found.result kept.few);
      small = subst (λ (l : Leak). l.bytes ≤ 2 ^ 32 * (c.loop-granule.granule + 1)) (sym is)
          (small_met c.self.inside.locals_from c.self.inside.heap_from c.args.self.now shape c.requires.0 c.requires.1 c.requires.2 c.loop-granule.granule c.loop-granule.leak c.heap_header-found.result
          (c.heap_header-found.ensures.header c.requires.0 c.requires.1 c.requires.2) kept.small);
      work = omega (arith, kept.work, c.heap_header-found.ensures.work);
    }

pub returns-clause-leak : goal.returns-clause-leak
returns-clause-leak g c = λ places objects keeps.
    let shape = subst (IsMemory c.self.inside.locals_from c.self.inside.heap_from) c.self.view_is c.self.invariant in
    let kept = c.loop-granule.invariant in
    let end : end_of c.self.inside.heap ≡ end_of c.args.self.now.heap = ap (λ (m : Memory). end_of m.heap) c.self.view_is in
    leak_is c.self.inside.locals_from c.self.inside.heap_from c.args.self.now shape places objects keeps c.args.line c.loop-granule.granule c.loop-granule.leak (omega (arith, c.end-granule-end.ensures))
    kept.line (kept.blocks places objects keeps) (kept.bytes places objects keeps)
