use Rattle.std.proofs.Common.{◌∙◌, ap, ap₂, Bool, ◌||◌}
use Rattle.std.proofs.lemmas.Result.{IfOk-weaker}
use Rattle.clap.specs.Words.{App, app_of, rule_of, with_rule, with_subcommand}
use Rattle.command_words.proofs.set.add_plain.Goals as goal

abbrev either : Bool → Bool → Bool
either a b = a || b

pub returns : goal.returns
returns c =
    let local = c.in_ok-plain.ensures.globals ∙ ap₂ either c.new.ensures.local c.requires in
    let is = c.in_ok-plain.ensures.shape c.requires ∙ ap (λ (a : App). with_rule a (rule_of c.args.word)) c.new.ensures.app in
    IfOk-weaker c.subcommand.result _ _ (λ r h. h.shape local ∙ ap (λ (a : App). with_subcommand (app_of c.args.program) a.top) is) c.subcommand.ensures
