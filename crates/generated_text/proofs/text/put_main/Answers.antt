use Rattle.std.proofs.Common.{◌++◌, codes, ap, ◌∙◌}
use Rattle.std.specs.List.{flat_map, range_with_len}
use Rattle.std.proofs.lemmas.Result.{IfOk-weaker}
use Rattle.generated_text.specs.Text.{call}
use Rattle.generated_text.proofs.Texts.{main_pieces}
use Rattle.generated_text.proofs.text.put_main.Goals as goal

pub returns : goal.returns
returns c =
    let calls = flat_map call (range_with_len 0 c.args.functions) in
    IfOk-weaker c.put-2.result _ _
    (λ r e. e
    ∙ ap (λ t. t ++ codes " printf(\"%d\\n\", x); return 0; }\n") (c.in_ok-put_calls.ensures ∙ ap (λ t. t ++ calls) c.in_ok-put.ensures)
    ∙ main_pieces c.args.text.now.items calls)
    c.put-2.ensures
