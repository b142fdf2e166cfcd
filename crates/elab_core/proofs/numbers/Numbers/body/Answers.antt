use Rattle.std.proofs.Common.{arith}
use Rattle.std.proofs.lemmas.Grind.{common_steps}
use Rattle.elab_core.proofs.Bodies.{body_more}
use Rattle.elab_core.proofs.numbers.Numbers.body.Goals as goal

pub loop-piece-preserved-in-Continue-branch-2 : goal.loop-piece-preserved-in-Continue-branch-2
loop-piece-preserved-in-Continue-branch-2 c = λ all p.
    grind (arith, common_steps, body_more, c.loop-piece.invariant all p, c.calculated.ensures all p)

pub loop-piece-preserved : goal.loop-piece-preserved
loop-piece-preserved c = λ all p. grind (arith, common_steps, body_more, c.loop-piece.invariant all p)
