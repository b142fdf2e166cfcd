use Rattle.std.proofs.Common.{◌≡◌, ◌∙◌, ℕ, Some, Ok, Err, ap, sym}
use Rattle.std.proofs.lemmas.Result.{err_from_is_err_and}
use Rattle.c_tree.specs.Tree.{Tree}
use Rattle.c_tree.specs.StatementView.{expr_view}
use Rattle.c_decls.specs.declared.refusal.TypeError.{TypeError}
use Rattle.c_decls.specs.declared.refusal.TypeError.TheVariants as e
use Rattle.c_decls.specs.Refusals.{Checked, Answers, Meets, then}
use Rattle.c_decls.specs.Typed.{PlainTyped, plain_typed}
use Rattle.c_decls.specs.TypeNames as names
use Rattle.c_decls.specs.TypeNames.{Layer, ArrayOf, array_length}
use Rattle.c_decls.specs.Expressions.{line_of, wanted, typed}
use Rattle.c_typing.specs.declared.layers.Layer.{Layer as CodeLayer}
use Rattle.c_typing.specs.Layers.{plain_layer}
use Rattle.elaboration.specs.Context.{Context, With, asked, told}
use Rattle.elab_types.specs.Steps.{with_told, array_layer}
use Rattle.elab_types.proofs.asked.array_layer.Goals as goal

-- a length that is refused
length_refused : (line at : ℕ) (tree : Tree) (c d : Context) (x : PlainTyped) (error : TypeError) → at ≡ line_of tree →
    with_told c (wanted tree (typed tree (asked c))) ≡ Ok (d, x) → Answers (λ (n : ℕ). n) (Err error) (array_length at x) →
    Meets (λ (l : CodeLayer). (c, plain_layer l)) (Err error) (array_layer line tree c)
length_refused line at tree c d x error same = by error (wanted tree (typed tree (asked c)))
  where
    next : names.Context × PlainTyped → With Layer
    next y = then (array_length (line_of tree) y.1) (λ length. Ok (told y.0 c, ArrayOf line (Some length)))

    by : (error : TypeError) (answer : Checked (names.Context × PlainTyped)) → with_told c answer ≡ Ok (d, x) → Answers (λ (n : ℕ). n) (Err error) (array_length at x) →
        Meets (λ (l : CodeLayer). (c, plain_layer l)) (Err error) (then answer next)
    by (e.Bad kind l) (Ok y) h q =
        let typed_same : (told y.0 c, y.1) ≡ (d, x) = cc in
        ap (λ (z : Context × PlainTyped). then (array_length (line_of tree) z.1) (λ length. let layer : With Layer = Ok (told y.0 c, ArrayOf line (Some length)) in layer)) typed_same
        ∙ ap (λ (k : ℕ). then (array_length k x) (λ length. let layer : With Layer = Ok (told y.0 c, ArrayOf line (Some length)) in layer)) (sym same)
        ∙ ap (λ (r : Checked ℕ). then r (λ length. let layer : With Layer = Ok (told y.0 c, ArrayOf line (Some length)) in layer)) q
    by e.NoMemory answer h q = absurd q
    by (e.Bad kind l) (Err refusal) h q = cc

pub returns-in_err-length : goal.returns-in_err-length
returns-in_err-length c =
    let p = err_from_is_err_and c.from_residual-in_err-length.result c.from_residual-in_err-length.ensures.1 in
    rw (p.1, p.2)
    (length_refused c.args.line c.line_of.result (expr_view c.args.e.now) c.args.state.now c.wanted.new.state (plain_typed c.in_ok-x.x) c.in_err-length.field-0.0
    c.line_of.ensures c.in_ok-x.ensures c.in_err-length.ensures)
