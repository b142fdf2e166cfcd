use Rattle.std.proofs.Common.{◌≤◌, ◌-◌, ℕ, List, length, take, drop, ap, sym, ◌∙◌, arith}
use Rattle.std.specs.Prelude.{slice_range, sum_by}
use Rattle.std.proofs.lemmas.List.{take_all}
use Rattle.std.proofs.lemmas.List.Sums.{sum_by_more_le, sum_by-take-drop, sum_by-take-le}
use Rattle.count_table.proofs.Around.{pairs_within-places}
use Rattle.count_table.proofs.excess.Excess.total.Goals as goal

pub overflow_add-total : goal.overflow_add-total
overflow_add-total c =
    let list = c.as_slice.result.now in
    let a = c.place_of.result in
    let b = c.place_of-2.result in
    let more = sum_by_more_le (λ (p : ℕ × ℕ). p.1) (take (b - a) (drop a list)) c.loop-pair.pair-index (0, 0) c.loop-pair-test.true in
    let part = sum_by-take-le (λ (p : ℕ × ℕ). p.1) (drop a list) (b - a) in
    let rest = sum_by-take-drop (λ (p : ℕ × ℕ). p.1) list a in
    omega (arith, c.loop-pair.invariant, ap (λ l. sum_by (λ (p : ℕ × ℕ). p.1) l) c.as_slice.ensures, c.requires.fits)

pub returns : goal.returns
returns c =
    let list = c.args.self.now.list in
    let a = c.place_of.result in
    let b = c.place_of-2.result in
    let some = take (b - a) (drop a c.as_slice.result.now) in
    let over : length some ≤ c.loop-pair.pair-index = omega arith in
    let all : List (ℕ × ℕ) → ℕ = λ l. sum_by (λ p. p.1) l in
    c.loop-pair.invariant
    ∙ ap all (take_all c.loop-pair.pair-index some over)
    ∙ ap (λ l. all (slice_range l a b)) c.as_slice.ensures
    ∙ ap all (sym (pairs_within-places list c.args.first c.args.end a b c.requires.ordered c.place_of.ensures.within c.place_of-2.ensures.within c.place_of.ensures.place c.place_of-2.ensures.place))
