use Rattle.std.proofs.Common.{◌∙◌, ap, ap₂, Bool, ◌||◌}
use Rattle.std.proofs.lemmas.Result.{IfOk-weaker}
use Rattle.clap.specs.Words.{App, app_of, with_rule, with_subcommand}
use Rattle.command_words.proofs.set.add_mean.Goals as goal

abbrev either : Bool → Bool → Bool
either a b = a || b

pub returns : goal.returns
returns c =
    let with_files = c.in_ok-arg.ensures.shape c.files.ensures.local ∙ ap₂ with_rule c.new.ensures.app c.files.ensures.rule in
    let with_heap = c.in_ok-arg-2.ensures.shape c.option.ensures.local ∙ ap₂ with_rule with_files c.option.ensures.rule in
    let with_steps = c.in_ok-arg-3.ensures.shape c.option-2.ensures.local ∙ ap₂ with_rule with_heap c.option-2.ensures.rule in
    let with_explain = c.in_ok-arg-4.ensures.shape c.flag.ensures.local ∙ ap₂ with_rule with_steps c.flag.ensures.rule in
    let is = c.in_ok-mean.ensures.shape c.flag-2.ensures.local ∙ ap₂ with_rule with_explain c.flag-2.ensures.rule in
    let files_local = c.in_ok-arg.ensures.globals ∙ ap₂ either c.new.ensures.local c.files.ensures.local in
    let heap_local = c.in_ok-arg-2.ensures.globals ∙ ap₂ either files_local c.option.ensures.local in
    let steps_local = c.in_ok-arg-3.ensures.globals ∙ ap₂ either heap_local c.option-2.ensures.local in
    let explain_local = c.in_ok-arg-4.ensures.globals ∙ ap₂ either steps_local c.flag.ensures.local in
    let local = c.in_ok-mean.ensures.globals ∙ ap₂ either explain_local c.flag-2.ensures.local in
    IfOk-weaker c.subcommand.result _ _ (λ r h. h.shape local ∙ ap (λ (a : App). with_subcommand (app_of c.args.program) a.top) is) c.subcommand.ensures
