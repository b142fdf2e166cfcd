use Rattle.std.proofs.Common.{◌≡◌, ◌+◌, ◌-◌, subst, arith}
use Rattle.code_rules.specs.Lively.{Sweeps}
use Rattle.code_rules.proofs.Marks.{sweeps_more, sweeps_none}
use Rattle.code_rules.proofs.live.sweep.Goals as goal

pub loop-point-init : goal.loop-point-init
loop-point-init c = sweeps_none c.args.code.now c.args.register c.args.marks.now

pub loop-point-preserved : goal.loop-point-preserved
loop-point-preserved c =
    let code = c.args.code.now in let r = c.args.register in let old = c.args.marks.now in
    let step : c.loop-point.point ≡ (c.loop-point.point - 1) + 1 = omega arith in
    sweeps_more code r (c.loop-point.point - 1) old c.loop-point.marks c.visit-more.new.marks c.loop-point.more c.visit-more.result
    (subst (λ n. Sweeps code r n old c.loop-point.marks c.loop-point.more) step c.loop-point.invariant) c.visit-more.ensures

pub returns : goal.returns
returns c =
    let end : c.loop-point.point ≡ 0 = omega arith in
    subst (λ n. Sweeps c.args.code.now c.args.register n c.args.marks.now c.loop-point.marks c.loop-point.more) end c.loop-point.invariant
