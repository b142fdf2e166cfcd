use Rattle.std.proofs.Common.{◌++◌, decimal, codes, ap, ◌∙◌}
use Rattle.std.proofs.lemmas.Result.{IfOk-weaker}
use Rattle.generated_text.proofs.Texts.{function_pieces}
use Rattle.generated_text.proofs.text.put_function.Goals as goal

pub returns : goal.returns
returns c =
    IfOk-weaker c.put-4.result _ _
    (λ r e. e
    ∙ ap (λ t. t ++ codes " __delay_frees { free(a); free(b); } return x; }\n") (c.in_ok-put-3.ensures
    ∙ ap (λ t. t ++ codes "; x = a->v + b->v;") (c.in_ok-put_number-2.ensures
    ∙ ap (λ t. t ++ (codes " a->next = b; b->next = a; a->v = x; b->v = " ++ decimal c.args.number)) (c.in_ok-put-2.ensures
    ∙ ap (λ t. t ++ codes " struct n *b = malloc(sizeof(struct n));") (c.in_ok-put.ensures
    ∙ ap (λ t. t ++ codes "(int x) { struct n *a = malloc(sizeof(struct n));") c.in_ok-put_number.ensures))))
    ∙ function_pieces c.args.text.now.items (decimal c.args.number))
    c.put-4.ensures
