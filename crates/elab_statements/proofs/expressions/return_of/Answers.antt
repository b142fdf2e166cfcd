-- A return with a value, once the value is there.
use Rattle.std.proofs.Common.{◌∙◌, sym}
use Rattle.c_types.specs.Types.{plain}
use Rattle.elab_base.specs.PlainFound.{plain_found}
use Rattle.elab_statements.proofs.Returns.{carry, return_steps}
use Rattle.elab_statements.proofs.expressions.return_of.Goals as goal

pub returns-in-None : goal.returns-in-None
returns-in-None c =
    carry (λ (u : Unit {0}). c.return_value.new.state) c.return_value.result _ _
    (return_steps c.args.line c.args.delays c.args.e.now.kind c.args.e.now.line (plain c.args.ty.now) c.args.state.now c.opened.new.state
    (c.value_of.new.state, plain_found c.in_ok-found.found) c.mark-before.result
    c.in_ok-opened.ensures c.mark-before.ensures c.in_ok-found.ensures
    (sym c.is_void.ensures ∙ c.if-is_void.false) (sym c.unconverted.ensures ∙ c.in-None.is))
    c.return_value.ensures
