use Rattle.std.proofs.Common.{ap, sym, ◌∙◌}
use Rattle.std.specs.FinSet as set
use Rattle.c_pre.specs.Table.{Numbers}
use Rattle.c_pre.proofs.Trees.{contained}
use Rattle.c_pre.proofs.hidden.Hidden.has.Goals as goal

pub returns : goal.returns
returns c =
    c.has.ensures ∙ sym (contained c.self.inside.tree c.args.number)
    ∙ ap (λ (s : Numbers). set.contains s c.args.number) c.self.view_is
