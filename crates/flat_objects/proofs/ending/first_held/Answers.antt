use Rattle.std.proofs.Common.{ℕ, Bool, sym, ◌∙◌, arith}
use Rattle.std.specs.Prelude.{not, nat_eq, slice_index}
use Rattle.std.specs.List.{sum_by}
use Rattle.delay_scopes.specs.Check.{granules_of}
use Rattle.flat_objects.proofs.EndingCounts.{position_found, position_none}
use Rattle.flat_objects.proofs.ending.first_held.Goals as goal

pub returns-then-is_held : goal.returns-then-is_held
returns-then-is_held g c =
    let held : ℕ → Bool = λ addr. not (nat_eq (sum_by (slice_index c.args.counts.now.counts) (granules_of c.args.bytes.now addr)) 0) in
    sym (position_found held c.args.locals.now c.loop-number.number c.loop-number-test.true c.loop-number.invariant (sym c.is_held.ensures.held ∙ c.if-is_held.true))

pub returns : goal.returns
returns g c =
    let held : ℕ → Bool = λ addr. not (nat_eq (sum_by (slice_index c.args.counts.now.counts) (granules_of c.args.bytes.now addr)) 0) in
    sym (position_none held c.args.locals.now (λ k less. c.loop-number.invariant k (omega arith)))
