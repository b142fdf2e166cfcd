use Rattle.std.proofs.Common.{◌∙◌, ap, not, refl, sym}
use Rattle.local_liveness.proofs.Marks.{marks_same, passed_full, passed_some}
use Rattle.local_liveness.proofs.register_set.RegisterSet.next_place.Goals as goal

pub returns-then-common-clause-passed : goal.returns-then-common-clause-passed
returns-then-common-clause-passed c r low high =
    let one = c.args.self.now in let other = c.args.other.now in
    let one_some = c.deref.result.now in let other_some = c.deref-then-common.result.now in
    let ones = marks_same _ one _ one_some _ c.self.inside.full.items (sym c.self.view_is) c.deref.ensures.value refl c.self.invariant in
    let others = marks_same _ other _ other_some _ c.other.inside.full.items (sym c.other.view_is) c.deref-then-common.ensures.value refl c.other.invariant in
    passed_some one one_some c.self.inside.full.items other other_some c.other.inside.full.items ones others c.args.from c.args.until c.first_bit.result c.first_bit.ensures r low high
    ∙ sym (ap not c.if-common.true)

pub returns-else-common-clause-passed : goal.returns-else-common-clause-passed
returns-else-common-clause-passed c r low high =
    let one = c.args.self.now in let other = c.args.other.now in
    let one_full = c.deref-else-common.result.now in let other_full = c.deref-else-common-2.result.now in
    let ones = marks_same _ one _ c.self.inside.some.items _ one_full (sym c.self.view_is) refl c.deref-else-common.ensures.value c.self.invariant in
    let others = marks_same _ other _ c.other.inside.some.items _ other_full (sym c.other.view_is) refl c.deref-else-common-2.ensures.value c.other.invariant in
    passed_full one c.self.inside.some.items one_full other c.other.inside.some.items other_full ones others c.args.from c.args.until c.first_bit-else-common.result
    c.first_bit-else-common.ensures r low high
    ∙ sym (ap not c.if-common.false)
