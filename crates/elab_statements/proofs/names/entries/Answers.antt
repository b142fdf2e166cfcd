use Rattle.std.proofs.Common.{◌∙◌, sym, arith}
use Rattle.std.proofs.lemmas.Result.{err_from_is_err_and}
use Rattle.c_tree.specs.View.{declarator_tree}
use Rattle.c_tree.specs.StatementView.{trees, entry_view}
use Rattle.elaboration.specs.Declarations.{entry, entries}
use Rattle.elab_statements.specs.GivenLengths.{held}
use Rattle.elab_statements.proofs.InitsInTurn.{fails_too}
use Rattle.elab_statements.specs.PlainStorage.{plain_storage}
use Rattle.elab_statements.proofs.Entries.{entry_next, entry_fails, entries_end}
use Rattle.elab_statements.proofs.names.entries.Goals as goal

pub returns : goal.returns
returns c =
    sym c.loop-name.invariant
    ∙ entries_end c.args.file c.args.line (plain_storage c.args.storage) c.args.base.now c.args.names.now c.loop-name.name-index c.loop-name.state (omega (arith, c.loop-name-test.false))

pub loop-name-preserved : goal.loop-name-preserved
loop-name-preserved c =
    entry_next c.args.file c.args.line (plain_storage c.args.storage) c.args.base.now c.args.names.now c.loop-name.name-index c.name-item.result c.loop-name.state c.named_entry.new.state c.loop-name-test.true c.name-item.is c.in_ok-named_entry.ensures
    ∙ c.loop-name.invariant

pub returns-in_err-named_entry : goal.returns-in_err-named_entry
returns-in_err-named_entry c =
    let p = err_from_is_err_and c.from_residual.result c.from_residual.ensures.1 in
    let s = plain_storage c.args.storage in
    let b = c.args.base.now in
    let x = c.name-item.result in
    rw (p.1, p.2)
    (fails_too (λ (u : Unit {0}). c.named_entry.new.state) (λ (u : Unit {0}). c.named_entry.new.state) c.in_err-named_entry.field-0.0
    (entry c.args.file c.args.line s b (declarator_tree x.0) (held x.1) c.loop-name.state) (entries c.args.file c.args.line s b (trees entry_view c.args.names.now) c.args.state.now)
    (λ r failed. sym c.loop-name.invariant ∙ entry_fails c.args.file c.args.line s b c.args.names.now c.loop-name.name-index x c.loop-name.state r c.loop-name-test.true c.name-item.is failed)
    c.in_err-named_entry.ensures)
