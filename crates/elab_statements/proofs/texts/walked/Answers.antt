use Rattle.std.proofs.lemmas.Result.{err_from_is_err_and}
use Rattle.elab_statements.proofs.WholeTexts.{text_err_at, end_err_at}
use Rattle.elab_statements.proofs.texts.walked.Goals as goal

pub returns-in_err-externals : goal.returns-in_err-externals
returns-in_err-externals c =
    let p = err_from_is_err_and c.from_residual-in_err-externals.result c.from_residual-in_err-externals.ensures.1 in
    rw (p.1, p.2)
    (text_err_at c.args.unit.now.decls c.as_slice.result.now c.in_ok-state.state c.externals.new.state _ c.as_slice.ensures c.in_ok-state.ensures c.in_err-externals.ensures)

pub returns-in_err-ended : goal.returns-in_err-ended
returns-in_err-ended c =
    let p = err_from_is_err_and c.from_residual-in_err-ended.result c.from_residual-in_err-ended.ensures.1 in
    rw (p.1, p.2)
    (end_err_at c.args.unit.now.decls c.as_slice.result.now c.in_ok-state.state c.externals.new.state _ c.as_slice.ensures c.in_ok-state.ensures c.in_ok-externals.ensures c.in_err-ended.ensures)
