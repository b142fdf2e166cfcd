use Rattle.std.proofs.Common.{◌∙◌, ap}
use Rattle.std.proofs.lemmas.Result.{IfOk-weaker}
use Rattle.clap.specs.Words.{Rule, app_of, with_subcommand}
use Rattle.command_words.specs.CommandSet.{plain}
use Rattle.command_words.proofs.set.add_on_files.Goals as goal

pub returns : goal.returns
returns c =
    IfOk-weaker c.add_plain.result _ _ (λ r h. h ∙ ap (λ (word : Rule). with_subcommand (app_of c.args.program) (plain c.args.name.now word).top) c.files.ensures.rule) c.add_plain.ensures
