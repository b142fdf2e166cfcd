use Rattle.std.proofs.Common.{◌∙◌, sym}
use Rattle.elab_statements.proofs.SpecWords.{typedef_any}
use Rattle.elab_statements.proofs.words.has_typedef.Goals as goal

pub returns : goal.returns
returns c = c.any_typedef.ensures ∙ sym (typedef_any c.args.words.now)
