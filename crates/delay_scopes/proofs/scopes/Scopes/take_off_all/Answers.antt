use Rattle.std.proofs.Common.{◌≡◌, ◌<◌, ◌+◌, ap, refl, arith}
use Rattle.delay_scopes.specs.Queue.{ScopesModel}
use Rattle.delay_scopes.proofs.Covering.{object_covered, off_more}
use Rattle.delay_scopes.proofs.scopes.Scopes.take_off_all.Goals as goal

pub take_off_object-requires : goal.take_off_object-requires
take_off_object-requires g c =
    let many : c.self.inside.waiting ≡ c.args.self.now.waiting = ap (λ (s : ScopesModel). s.waiting) c.self.view_is in
    let below : c.loop-place._place < c.args.self.now.waiting = omega (arith, c.loop-place-test.true) in
    object_covered c.args.self.now c.args.bytes.now c.args.counts.now c.args.forms.now c.requires.0 c.requires.1 c.loop-place.counts c.args.steps.now c.loop-place.steps c.loop-place._place c.loop-place.block below (c.loop-place.invariant c.requires.0 c.requires.1) (c.loop-place.block + 32) refl

pub loop-place-preserved : goal.loop-place-preserved
loop-place-preserved g c = λ queue covered.
    let many : c.self.inside.waiting ≡ c.args.self.now.waiting = ap (λ (s : ScopesModel). s.waiting) c.self.view_is in
    let below : c.loop-place._place < c.args.self.now.waiting = omega (arith, c.loop-place-test.true) in
    off_more c.args.self.now c.args.bytes.now c.args.counts.now c.args.forms.now queue covered c.loop-place.counts c.args.steps.now c.loop-place.steps c.loop-place._place c.loop-place.block below (c.loop-place.invariant queue covered)
    c.take_off_object.new.counts (c.loop-place.block + 32) c.take_off_object.new.steps c.read_next-block.new.steps c.read_next-block.result refl c.take_off_object.ensures.counts c.take_off_object.ensures.work c.read_next-block.ensures.steps c.read_next-block.ensures.next
