use Rattle.std.proofs.Common.{◌≡◌, ◌+◌, ◌-◌, ◌*◌, ℕ, length, ap, ◌∙◌, arith}
use Rattle.std.specs.Prelude.{not, nat_eq, slice_index}
use Rattle.std.specs.List.{sum_by}
use Rattle.hs_base.specs.Freeing.{first_held}
use Rattle.delay_scopes.specs.Pointers.{into_granule, slots_of, words_inside}
use Rattle.delay_scopes.specs.Check.{granules_of}
use Rattle.delay_scopes.proofs.Covering.{steps_off}
use Rattle.delay_scopes.proofs.Finding.{steps_seen}
use Rattle.delay_scopes.proofs.Working.{sum_by_both}
use Rattle.delay_scopes.proofs.scopes.Scopes.check.Goals as goal

pub find_held-requires-clause-granules : goal.find_held-requires-clause-granules
find_held-requires-clause-granules g c =
    let lowered = c.take_off_all.ensures.counts c.requires.covered.0 c.requires.covered.1 in
    omega (arith, lowered.long, c.requires.granules)

pub returns-clause-answer : goal.returns-clause-answer
returns-clause-answer g c = λ queue covered.
    let bytes = c.args.bytes.now in
    let words = words_inside c.args.forms.now bytes queue in
    let before = c.args.counts.now.counts in
    let after = c.take_off_all.new.counts.counts in
    let lowered = c.take_off_all.ensures.counts queue covered in
    let same : (granule : ℕ) → slice_index after granule ≡ slice_index before granule - into_granule granule words =
    λ granule. let exact = lowered.exact granule in omega arith in
    c.find_held.ensures.held queue covered.chain
    ∙ ap (λ (left : ℕ → ℕ). first_held (λ addr. not (nat_eq (sum_by left (granules_of bytes addr)) 0)) queue) (λ i. λ granule. same granule i)

pub returns-clause-work : goal.returns-clause-work
returns-clause-work g c = λ queue covered.
    let bytes = c.args.bytes.now in
    let forms = c.args.forms.now in
    let off = c.take_off_all.ensures.work queue covered in
    let seen = c.find_held.ensures.work queue covered.chain in
    let both = sum_by_both (steps_off forms bytes) (steps_seen bytes) (λ addr. 5 + length (granules_of bytes addr) + 2 * length (slots_of forms bytes addr)) (λ addr. omega arith) queue in
    omega arith
