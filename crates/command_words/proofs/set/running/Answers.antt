use Rattle.std.proofs.Common.{◌∙◌, ap, ap₂, Bool, ◌||◌}
use Rattle.std.proofs.lemmas.Result.{IfOk-weaker}
use Rattle.clap.specs.Words.{App, rule_of, with_rule}
use Rattle.command_words.proofs.set.running.Goals as goal

abbrev either : Bool → Bool → Bool
either a b = a || b

pub returns-clause-shape : goal.returns-clause-shape
returns-clause-shape c =
    let with_word = c.in_ok-arg.ensures.shape c.requires ∙ ap (λ (a : App). with_rule a (rule_of c.args.word)) c.new.ensures.app in
    let with_heap = c.in_ok-arg-2.ensures.shape c.option.ensures.local ∙ ap₂ with_rule with_word c.option.ensures.rule in
    let with_stack = c.in_ok-arg-3.ensures.shape c.option-2.ensures.local ∙ ap₂ with_rule with_heap c.option-2.ensures.rule in
    let with_steps = c.in_ok-arg-4.ensures.shape c.option-3.ensures.local ∙ ap₂ with_rule with_stack c.option-3.ensures.rule in
    let with_leaks = c.in_ok-arg-5.ensures.shape c.flag.ensures.local ∙ ap₂ with_rule with_steps c.flag.ensures.rule in
    let with_explain = c.in_ok-arg-6.ensures.shape c.flag-2.ensures.local ∙ ap₂ with_rule with_leaks c.flag-2.ensures.rule in
    IfOk-weaker c.arg-7.result _ _ (λ r h. h.shape c.flag-3.ensures.local ∙ ap₂ with_rule with_explain c.flag-3.ensures.rule) c.arg-7.ensures

pub returns-clause-local : goal.returns-clause-local
returns-clause-local c =
    let with_word = c.in_ok-arg.ensures.globals ∙ ap₂ either c.new.ensures.local c.requires in
    let with_heap = c.in_ok-arg-2.ensures.globals ∙ ap₂ either with_word c.option.ensures.local in
    let with_stack = c.in_ok-arg-3.ensures.globals ∙ ap₂ either with_heap c.option-2.ensures.local in
    let with_steps = c.in_ok-arg-4.ensures.globals ∙ ap₂ either with_stack c.option-3.ensures.local in
    let with_leaks = c.in_ok-arg-5.ensures.globals ∙ ap₂ either with_steps c.flag.ensures.local in
    let with_explain = c.in_ok-arg-6.ensures.globals ∙ ap₂ either with_leaks c.flag-2.ensures.local in
    IfOk-weaker c.arg-7.result _ _ (λ r h. h.globals ∙ ap₂ either with_explain c.flag-3.ensures.local) c.arg-7.ensures
