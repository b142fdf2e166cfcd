use Rattle.std.proofs.Common.{◌≡◌, ◌≤◌, ◌<◌, ◌+◌, ℕ, List, length, ap, refl, subst, arith}
use Rattle.std.proofs.lemmas.List.{take_all}
use Rattle.delay_scopes.specs.Queue.{ScopesModel}
use Rattle.delay_scopes.specs.Check.{IsReleased}
use Rattle.delay_scopes.proofs.Returning.{heap_inside, held_here, release_fits, release_inside, release_more}
use Rattle.delay_scopes.proofs.scopes.Scopes.release_all.Goals as goal

pub read_next-next-requires-clause-inside : goal.read_next-next-requires-clause-inside
read_next-next-requires-clause-inside g c =
    let many : c.self.inside.waiting ≡ c.args.self.now.waiting = ap (λ (s : ScopesModel). s.waiting) c.self.view_is in
    let below : c.loop-place._place < c.args.self.now.waiting = omega (arith, c.loop-place-test.true) in
    release_inside c.args.self.now c.args.heap.now c.args.bytes.now c.requires.0 c.requires.1 c.requires.2 c.loop-place.heap c.loop-place.bytes c.loop-place._place c.loop-place.block below (c.loop-place.invariant.released c.requires.0 c.requires.1 c.requires.2)

pub read_next-next-requires-clause-fits : goal.read_next-next-requires-clause-fits
read_next-next-requires-clause-fits g c =
    let many : c.self.inside.waiting ≡ c.args.self.now.waiting = ap (λ (s : ScopesModel). s.waiting) c.self.view_is in
    let below : c.loop-place._place < c.args.self.now.waiting = omega (arith, c.loop-place-test.true) in
    release_fits c.args.self.now c.args.heap.now c.args.bytes.now c.requires.0 c.requires.1 c.requires.2 c.loop-place.heap c.loop-place.bytes c.loop-place._place c.loop-place.block below (c.loop-place.invariant.released c.requires.0 c.requires.1 c.requires.2)

pub overflow_add-block : goal.overflow_add-block
overflow_add-block g c =
    let many : c.self.inside.waiting ≡ c.args.self.now.waiting = ap (λ (s : ScopesModel). s.waiting) c.self.view_is in
    let below : c.loop-place._place < c.args.self.now.waiting = omega (arith, c.loop-place-test.true) in
    let fits = release_fits c.args.self.now c.args.heap.now c.args.bytes.now c.requires.0 c.requires.1 c.requires.2 c.loop-place.heap c.loop-place.bytes c.loop-place._place c.loop-place.block below (c.loop-place.invariant.released c.requires.0 c.requires.1 c.requires.2) in
    omega arith

pub release-requires-clause-reach : goal.release-requires-clause-reach
release-requires-clause-reach g c =
    let many : c.self.inside.waiting ≡ c.args.self.now.waiting = ap (λ (s : ScopesModel). s.waiting) c.self.view_is in
    let below : c.loop-place._place < c.args.self.now.waiting = omega (arith, c.loop-place-test.true) in
    heap_inside c.args.self.now c.args.heap.now c.args.bytes.now c.requires.0 c.requires.1 c.requires.2 c.loop-place.heap c.loop-place.bytes c.loop-place._place c.loop-place.block below (c.loop-place.invariant.released c.requires.0 c.requires.1 c.requires.2)

pub release-requires-clause-object : goal.release-requires-clause-object
release-requires-clause-object g c =
    let many : c.self.inside.waiting ≡ c.args.self.now.waiting = ap (λ (s : ScopesModel). s.waiting) c.self.view_is in
    let below : c.loop-place._place < c.args.self.now.waiting = omega (arith, c.loop-place-test.true) in
    held_here c.args.self.now c.args.heap.now c.args.bytes.now c.requires.0 c.requires.1 c.requires.2 c.loop-place.heap c.loop-place.bytes c.loop-place._place c.loop-place.block below (c.loop-place.invariant.released c.requires.0 c.requires.1 c.requires.2) c.a_header_stays.ensures.bytes c.blocks_stay_held.ensures (c.loop-place.block + 32) refl

pub loop-place-preserved : goal.loop-place-preserved
loop-place-preserved g c = record {
  released = λ held queue may.
      let many : c.self.inside.waiting ≡ c.args.self.now.waiting = ap (λ (s : ScopesModel). s.waiting) c.self.view_is in
      let below : c.loop-place._place < c.args.self.now.waiting = omega (arith, c.loop-place-test.true) in
      release_more c.args.self.now c.args.heap.now c.args.bytes.now held queue may c.loop-place.heap c.loop-place.bytes c.loop-place._place c.loop-place.block below (c.loop-place.invariant.released held queue may)
      c.a_header_stays.ensures.bytes c.blocks_stay_held.ensures c.release.new.self c.release.new.bytes (c.loop-place.block + 32) c.read_next-next.result refl c.read_next-next.ensures.next c.release.ensures.bounds c.release.ensures.held c.release.ensures.headers c.release.ensures.outside;
  work = omega (arith, c.loop-place.invariant.work, c.read_next-next.ensures.steps, c.release.ensures.most);
}

pub returns-clause-released : goal.returns-clause-released
returns-clause-released g c = λ held queue may.
    let many : c.self.inside.waiting ≡ c.args.self.now.waiting = ap (λ (s : ScopesModel). s.waiting) c.self.view_is in
    let all : length queue ≤ c.loop-place._place = omega (arith, c.loop-place-test.false, may.kept.queued.many) in
    subst (λ (l : List ℕ). IsReleased c.args.heap.now c.loop-place.heap c.args.bytes.now c.loop-place.bytes held l) (take_all c.loop-place._place queue all) (c.loop-place.invariant.released held queue may).released
