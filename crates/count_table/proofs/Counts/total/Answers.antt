use Rattle.std.proofs.Common.{◌≡◌, ◌≤◌, ◌+◌, ◌-◌, length, sum, take, drop, ap, sym, ◌∙◌, subst, arith}
use Rattle.std.specs.Prelude.{slice_range}
use Rattle.std.proofs.lemmas.List.{take_all}
use Rattle.std.proofs.lemmas.List.Sums.{sum_by_more_le, sum_by-take-drop, sum_by-take-le}
use Rattle.count_table.specs.Table.{Table, counts_of}
use Rattle.count_table.proofs.Kept.{sum-slice-le, sum-some, sum_is-parts}
use Rattle.count_table.proofs.Counts.total.Goals as goal

pub overflow_add-total : goal.overflow_add-total
overflow_add-total g c =
    let rows = c.deref.result.now in
    let number = c.args.first + c.args.number - c.args.first in
    let more = sum_by_more_le (λ x. x) (take number (drop c.args.first rows)) c.loop-low.low-index 0 c.loop-low-test.true in
    let part = sum_by-take-le (λ x. x) (drop c.args.first rows) number in
    let rest = sum_by-take-drop (λ x. x) rows c.args.first in
    omega (arith, c.loop-low.invariant.total, c.from-total.ensures, ap sum c.deref.ensures.value, sum_is-parts c.self.invariant, c.self.invariant.bounded, c.self.invariant.fits)

pub total-requires-clause-fits : goal.total-requires-clause-fits
total-requires-clause-fits g c =
    omega (arith, sum_is-parts c.self.invariant, c.self.invariant.bounded, c.self.invariant.fits)

pub overflow_add-result : goal.overflow_add-result
overflow_add-result g c =
    let rows = c.deref.result.now in
    let first = c.args.first in
    let end = c.args.first + c.args.number in
    let inside = c.self.inside in
    let counts = counts_of inside.lows.items inside.excess.list in
    let within : end ≤ length counts = subst (λ (t : Table). end ≤ length t.counts) (sym c.self.view_is) c.requires in
    let some = take (end - first) (drop first rows) in
    let over : length some ≤ c.loop-low.low-index = omega arith in
    let bytes : c.loop-low.total ≡ sum (slice_range inside.lows.items first end) =
    c.loop-low.invariant.total ∙ ap sum (take_all c.loop-low.low-index some over) ∙ ap (λ l. sum (slice_range l first end)) c.deref.ensures.value in
    let all = sum-some c.self.invariant first end (omega arith) within in
    omega (arith, c.total.ensures, bytes, all, sum-slice-le counts first end, c.self.invariant.bounded, c.self.invariant.fits)

pub returns-clause-total : goal.returns-clause-total
returns-clause-total g c =
    let rows = c.deref.result.now in
    let first = c.args.first in
    let end = c.args.first + c.args.number in
    let inside = c.self.inside in
    let counts = counts_of inside.lows.items inside.excess.list in
    let within : end ≤ length counts = subst (λ (t : Table). end ≤ length t.counts) (sym c.self.view_is) c.requires in
    let some = take (end - first) (drop first rows) in
    let over : length some ≤ c.loop-low.low-index = omega arith in
    let bytes : c.loop-low.total ≡ sum (slice_range inside.lows.items first end) =
    c.loop-low.invariant.total ∙ ap sum (take_all c.loop-low.low-index some over) ∙ ap (λ l. sum (slice_range l first end)) c.deref.ensures.value in
    let all = sum-some c.self.invariant first end (omega arith) within in
    omega (arith, c.total.ensures, bytes, all, ap (λ (t : Table). sum (slice_range t.counts first end)) c.self.view_is)
