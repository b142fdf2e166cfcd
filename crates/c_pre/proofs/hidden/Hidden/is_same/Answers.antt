use Rattle.std.proofs.Common.{sym, ◌∙◌}
use Rattle.c_pre.proofs.Trees.{same_numbers}
use Rattle.c_pre.proofs.hidden.Hidden.is_same.Goals as goal

pub returns : goal.returns
returns c = λ same.
    same_numbers c.is_same.result c.self.inside.tree c.other.inside.tree c.args.self.now c.args.other.now c.self.view_is c.other.view_is c.is_same.ensures (sym c.is_some.ensures ∙ same)
