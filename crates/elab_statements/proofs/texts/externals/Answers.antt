use Rattle.std.proofs.Common.{◌∙◌, sym, arith}
use Rattle.std.proofs.lemmas.Result.{err_from_is_err_and}
use Rattle.elab_base.specs.Idle.{idle}
use Rattle.elab_statements.proofs.WholeTexts.{decl_next, decl_err, decls_end}
use Rattle.elab_statements.proofs.texts.externals.Goals as goal

pub returns : goal.returns
returns c =
    sym c.loop-decl.invariant
    ∙ decls_end c.args.decls.now c.loop-decl.decl-index c.loop-decl.state (omega (arith, c.loop-decl-test.false))

pub loop-decl-preserved : goal.loop-decl-preserved
loop-decl-preserved c =
    decl_next c.args.decls.now c.loop-decl.decl-index c.decl-item.result c.loop-decl.state c.external.new.state c.loop-decl-test.true c.decl-item.is c.in_ok-external.ensures
    ∙ c.loop-decl.invariant

pub returns-in_err-external : goal.returns-in_err-external
returns-in_err-external c =
    let p = err_from_is_err_and c.from_residual.result c.from_residual.ensures.1 in
    rw (p.1, p.2)
    (decl_err c.args.decls.now c.loop-decl.decl-index c.decl-item.result c.loop-decl.state c.external.new.state (idle c.external.new.state) _ _ c.loop-decl-test.true c.decl-item.is c.loop-decl.invariant c.in_err-external.ensures)
