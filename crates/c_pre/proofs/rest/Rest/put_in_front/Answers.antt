use Rattle.std.proofs.Common.{ap, ◌∙◌, arith}
use Rattle.c_pre.specs.declared.row.Row.{Row}
use Rattle.c_pre.proofs.Rows.{whole_row}
use Rattle.c_pre.proofs.rest.Rest.put_in_front.Goals as goal

pub returns : goal.returns
returns c =
    whole_row c.put.result c.put.new.self c.args.self.now c.in_ok-row.row.value.tokens.items c.args.tokens.items c.len-count.result
    (ap (λ (r : Row). r.tokens.items) c.in_ok-row.ensures.ok ∙ c.in_ok-new.ensures) (omega (arith, c.len-count.ensures, c.args.tokens.ok.0)) c.put.ensures
