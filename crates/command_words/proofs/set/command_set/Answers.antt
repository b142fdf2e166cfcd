use Rattle.std.proofs.Common.{◌≡◌, ◌∙◌, ap, codes, true}
use Rattle.std.proofs.lemmas.Result.{IfOk-weaker}
use Rattle.clap.specs.Words.{App, Rule, Shape, app_of, new_app, with_subcommand}
use Rattle.clap.specs.Simple.{on_top, app_of_fields}
use Rattle.command_words.specs.CommandSet.{command_set, file, files, generated, mean, needed, on_files, plain, program, running}
use Rattle.command_words.proofs.set.command_set.Goals as goal

abbrev words_alone : Shape → Shape
words_alone s = record s { no_binary_name = true }

abbrev helpless : Shape → Shape
helpless s = record s { disable_help_flag = true }

abbrev versionless : Shape → Shape
versionless s = record s { disable_version_flag = true }

abbrev without_help_command : Shape → Shape
without_help_command s = record s { disable_help_subcommand = true }

abbrev in_need_of_a_command : Shape → Shape
in_need_of_a_command s = record s { subcommand_required = true }

pub returns : goal.returns
unfolding command_set
returns c =
    let one : app_of c.no_binary_name.result ≡ on_top words_alone (new_app (codes "heapsafe")) =
    ap app_of_fields c.no_binary_name.ensures ∙ ap (on_top words_alone) c.new.ensures.app in
    let two : app_of c.disable_help_flag.result ≡ on_top helpless (on_top words_alone (new_app (codes "heapsafe"))) =
    ap app_of_fields c.disable_help_flag.ensures ∙ ap (on_top helpless) one in
    let three = ap app_of_fields c.disable_version_flag.ensures ∙ ap (on_top versionless) two in
    let four = ap app_of_fields c.disable_help_subcommand.ensures ∙ ap (on_top without_help_command) three in
    let top_is : app_of c.subcommand_required-program.result ≡ program =
    ap app_of_fields c.subcommand_required-program.ensures ∙ ap (on_top in_need_of_a_command) four in
    let with_more = λ (sub : App) (a b : App) (e : a ≡ b). ap (λ (x : App). with_subcommand x sub.top) e in
    let by_word = λ (make : Rule → App) (a : App) (x y : Rule) (e : x ≡ y). ap (λ (r : Rule). with_subcommand a (make r).top) e in
    let with_run = c.in_ok-program.ensures ∙ by_word (running (codes "run")) (app_of c.subcommand_required-program.result) _ files c.files.ensures.rule ∙ with_more (running (codes "run") files) _ _ top_is in
    let with_mean = c.in_ok-program-2.ensures ∙ with_more mean _ _ with_run in
    let with_print = c.in_ok-program-3.ensures ∙ with_more (on_files (codes "print")) _ _ with_mean in
    let with_layout = c.in_ok-program-4.ensures ∙ with_more (on_files (codes "layout")) _ _ with_print in
    let with_list = c.in_ok-program-5.ensures ∙ with_more (on_files (codes "list")) _ _ with_layout in
    let with_live = c.in_ok-program-6.ensures ∙ with_more (on_files (codes "live")) _ _ with_list in
    let with_generated = c.in_ok-program-7.ensures ∙ by_word (plain (codes "self")) (app_of c.in_ok-program-6.program) _ (needed (codes "N")) c.needed.ensures.rule ∙ with_more generated _ _ with_live in
    let with_compile = c.in_ok-program-8.ensures ∙ with_more (on_files (codes "compile")) _ _ with_generated in
    IfOk-weaker c.add_running-2.result _ _ (λ r h. h ∙ by_word (running (codes "exec")) (app_of c.in_ok-program-8.program) _ file c.needed-2.ensures.rule ∙ with_more (running (codes "exec") file) _ _ with_compile) c.add_running-2.ensures
