use Rattle.std.proofs.Common.{◌≡◌, length, subst, arith}
use Rattle.code_rules.specs.Scopes.{Moves}
use Rattle.code_rules.proofs.Depths.{moves_join, moves_zero}
use Rattle.code_rules.proofs.scopes.sweep.Goals as goal

pub loop-place-init : goal.loop-place-init
loop-place-init c = moves_zero c.args.code.now c.args.function c.args.entry.now c.args.depths.now

pub loop-place-preserved : goal.loop-place-preserved
loop-place-preserved c =
    moves_join c.args.code.now c.args.function c.args.entry.now c.loop-place.place c.args.depths.now c.loop-place.depths c.visit.new.depths c.loop-place.change c.visit.result c.join-change.result
    c.loop-place.invariant c.visit.ensures c.join-change.ensures

pub returns : goal.returns
returns c =
    let all : c.loop-place.place ≡ length c.args.depths.now = omega arith in
    subst (λ n. Moves c.args.code.now c.args.function c.args.entry.now 0 n c.args.depths.now c.loop-place.depths c.loop-place.change) all c.loop-place.invariant
