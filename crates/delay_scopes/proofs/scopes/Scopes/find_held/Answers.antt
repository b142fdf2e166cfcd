use Rattle.std.proofs.Common.{◌≡◌, ◌<◌, ◌+◌, ◌∙◌, sym, ap, refl, arith}
use Rattle.delay_scopes.specs.Queue.{ScopesModel}
use Rattle.delay_scopes.proofs.Chaining.{header_fits, header_inside}
use Rattle.delay_scopes.proofs.Finding.{found_here, next_inside, none_more, work_here}
use Rattle.delay_scopes.proofs.scopes.Scopes.find_held.Goals as goal

pub is_held-requires-clause-inside : goal.is_held-requires-clause-inside
is_held-requires-clause-inside g c =
    let many : c.self.inside.waiting ≡ c.args.self.now.waiting = ap (λ (s : ScopesModel). s.waiting) c.self.view_is in
    let below : c.loop-place._place < c.args.self.now.waiting = omega (arith, c.loop-place-test.true) in
    let yet = c.loop-place.invariant c.requires.chain.0 c.requires.chain.1 in
    next_inside c.args.self.now c.args.bytes.now c.args.counts.now.counts c.requires.chain.0 c.requires.chain.1 c.args.steps.now c.loop-place.steps c.loop-place._place c.loop-place.block below yet (c.loop-place.block + 32) refl

pub overflow_add-result : goal.overflow_add-result
overflow_add-result g c =
    let many : c.self.inside.waiting ≡ c.args.self.now.waiting = ap (λ (s : ScopesModel). s.waiting) c.self.view_is in
    let below : c.loop-place._place < c.args.self.now.waiting = omega (arith, c.loop-place-test.true) in
    let yet = c.loop-place.invariant c.requires.chain.0 c.requires.chain.1 in
    let fits = header_fits c.args.self.now c.args.bytes.now c.requires.chain.0 c.requires.chain.1 c.loop-place._place c.loop-place.block below yet.at in
    omega arith

pub read_next-block-requires-clause-inside : goal.read_next-block-requires-clause-inside
read_next-block-requires-clause-inside g c =
    let many : c.self.inside.waiting ≡ c.args.self.now.waiting = ap (λ (s : ScopesModel). s.waiting) c.self.view_is in
    let below : c.loop-place._place < c.args.self.now.waiting = omega (arith, c.loop-place-test.true) in
    let yet = c.loop-place.invariant c.requires.chain.0 c.requires.chain.1 in
    header_inside c.args.self.now c.args.bytes.now c.requires.chain.0 c.requires.chain.1 c.loop-place._place c.loop-place.block below yet.at

pub read_next-block-requires-clause-fits : goal.read_next-block-requires-clause-fits
read_next-block-requires-clause-fits g c =
    let many : c.self.inside.waiting ≡ c.args.self.now.waiting = ap (λ (s : ScopesModel). s.waiting) c.self.view_is in
    let below : c.loop-place._place < c.args.self.now.waiting = omega (arith, c.loop-place-test.true) in
    let yet = c.loop-place.invariant c.requires.chain.0 c.requires.chain.1 in
    header_fits c.args.self.now c.args.bytes.now c.requires.chain.0 c.requires.chain.1 c.loop-place._place c.loop-place.block below yet.at

pub returns-then-is_held-clause-held : goal.returns-then-is_held-clause-held
returns-then-is_held-clause-held g c = λ queue chain.
    let many : c.self.inside.waiting ≡ c.args.self.now.waiting = ap (λ (s : ScopesModel). s.waiting) c.self.view_is in
    let below : c.loop-place._place < c.args.self.now.waiting = omega (arith, c.loop-place-test.true) in
    found_here c.args.self.now c.args.bytes.now c.args.counts.now.counts queue chain c.args.steps.now c.loop-place.steps c.loop-place._place c.loop-place.block below (c.loop-place.invariant queue chain)
    (c.loop-place.block + 32) refl (sym c.is_held.ensures.held ∙ c.if-is_held.true)

pub returns-then-is_held-clause-work : goal.returns-then-is_held-clause-work
returns-then-is_held-clause-work g c = λ queue chain.
    let many : c.self.inside.waiting ≡ c.args.self.now.waiting = ap (λ (s : ScopesModel). s.waiting) c.self.view_is in
    let below : c.loop-place._place < c.args.self.now.waiting = omega (arith, c.loop-place-test.true) in
    work_here c.args.self.now c.args.bytes.now c.args.counts.now.counts queue chain c.args.steps.now c.loop-place.steps c.loop-place._place c.loop-place.block below (c.loop-place.invariant queue chain)
    (c.loop-place.block + 32) c.is_held.new.steps refl c.is_held.ensures.work

pub loop-place-preserved : goal.loop-place-preserved
loop-place-preserved g c = λ queue chain.
    let many : c.self.inside.waiting ≡ c.args.self.now.waiting = ap (λ (s : ScopesModel). s.waiting) c.self.view_is in
    let below : c.loop-place._place < c.args.self.now.waiting = omega (arith, c.loop-place-test.true) in
    none_more c.args.self.now c.args.bytes.now c.args.counts.now.counts queue chain c.args.steps.now c.loop-place.steps c.loop-place._place c.loop-place.block below (c.loop-place.invariant queue chain)
    (c.loop-place.block + 32) c.is_held.new.steps c.read_next-block.new.steps c.read_next-block.result refl (sym c.is_held.ensures.held ∙ c.if-is_held.false) c.is_held.ensures.work c.read_next-block.ensures.steps c.read_next-block.ensures.next
