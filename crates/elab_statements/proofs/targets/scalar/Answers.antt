use Rattle.std.proofs.Common.{◌∙◌, sym}
use Rattle.c_types.specs.Types.{plain}
use Rattle.elab_base.specs.PlainFound.{plain_found}
use Rattle.elab_statements.specs.PlainTarget.{plain_target}
use Rattle.elab_statements.proofs.Cuts.{scalar_found}
use Rattle.elab_statements.proofs.targets.scalar.Goals as goal

pub returns-in-None : goal.returns-in-None
returns-in-None c =
    rw (scalar_found c.args.e.now.kind c.args.e.now.line c.args.line (plain c.args.ty.now) c.args.offset (plain_target c.args.target) c.args.state.now c.opened.new.state c.value_of.new.state
    (plain_found c.in_ok-found.found) c.mark-before.result c.in_ok-opened.ensures c.mark-before.ensures c.in_ok-found.ensures (sym c.unconverted.ensures ∙ c.in-None.is))
    c.fill_scalar.ensures
