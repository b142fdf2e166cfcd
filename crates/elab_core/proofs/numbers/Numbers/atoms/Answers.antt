use Rattle.std.proofs.Common.{arith}
use Rattle.std.proofs.lemmas.Grind.{common_steps}
use Rattle.elab_core.proofs.numbers.Numbers.atoms.Goals as goal

pub loop-atom-preserved : goal.loop-atom-preserved
loop-atom-preserved c = λ pieces. grind (arith, common_steps, c.loop-atom.invariant pieces, c.atom.ensures pieces)

pub returns : goal.returns
returns c = λ pieces. grind (arith, common_steps, c.loop-atom.invariant pieces)
