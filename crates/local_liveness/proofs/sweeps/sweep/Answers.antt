use Rattle.std.proofs.Common.{◌-◌, ◌<◌, ◌∙◌, [], List, ℕ, length, get_or, arith, subst}
use Rattle.std.proofs.lemmas.List.{get_or_default}
use Rattle.std.proofs.lemmas.Option.{slice_get-get_or}
use Rattle.local_liveness.specs.Sets.{has, Adds}
use Rattle.local_liveness.proofs.Sweeping.{swept_none, swept_more, swept_all}
use Rattle.local_liveness.proofs.sweeps.sweep.Goals as goal

pub loop-point-init : goal.loop-point-init
loop-point-init c =
    swept_none c.args.body.now (length c.args.live.now) (length c.args.body.now) c.args.fronts.now c.clear.new.self (omega arith) c.clear.ensures.words c.clear.ensures.none

pub loop-point-preserved : goal.loop-point-preserved
loop-point-preserved c =
    let point = c.loop-point.point - 1 in
    let inside : point < length c.loop-point.fronts = omega arith in
    let stm = get_or c.args.body.now point c.index-body-point.result in
    let was = get_or_default c.loop-point.fronts point c.index-fronts-point.result [] inside in
    swept_more c.live_by_paths.ensures c.args.body.now (length c.args.live.now) point c.args.fronts.now c.loop-point.fronts c.loop-point.live c.follow.new.live
    c.go_in_front.new.self c.join-more.new.self stm c.edges.result
    (slice_get-get_or c.args.body.now point c.index-body-point.result (omega arith)) c.edges.ensures inside
    (c.loop-point.invariant.points ∙ c.requires.points) c.requires.room c.loop-point.more c.join-more.result c.loop-point.point (omega arith) c.loop-point.invariant
    c.follow.ensures.words c.follow.ensures.bits c.go_in_front.ensures.words c.go_in_front.ensures.bits
    (subst (λ (set : List ℕ). Adds (has c.go_in_front.new.self) set c.join-more.new.self) was c.join-more.ensures.adds) (λ no. c.join-more.ensures.same no ∙ was)

pub returns-clause-fills : goal.returns-clause-fills
returns-clause-fills c =
    swept_all c.args.body.now (length c.args.live.now) c.loop-point.point c.args.fronts.now c.loop-point.fronts c.loop-point.live c.loop-point.more c.requires.room (omega arith)
    c.loop-point.invariant
