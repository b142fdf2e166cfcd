use Rattle.std.proofs.Common.{◌∙◌, ap}
use Rattle.std.proofs.lemmas.Result.{IfOk-weaker}
use Rattle.clap.specs.Words.{App, app_of, with_subcommand}
use Rattle.command_words.proofs.set.add_running.Goals as goal

pub returns : goal.returns
returns c =
    let sub = c.in_ok-running.ensures in
    IfOk-weaker c.subcommand.result _ _ (λ r h. h.shape sub.local ∙ ap (λ (a : App). with_subcommand (app_of c.args.program) a.top) sub.shape) c.subcommand.ensures
