use Rattle.std.proofs.Common.{◌∙◌, sym}
use Rattle.elaboration.specs.Declarations.{is_outside_word}
use Rattle.elab_statements.proofs.words.has_outside.Goals as goal
use Rattle.c_typing.specs.SpecWordsEquations.{has_any}

pub returns : goal.returns
returns c = c.any_outside.ensures ∙ sym (has_any is_outside_word c.args.words.now)
